-- What is wrong with a text as a text is found, and is one thing.
use Rattle.std.proofs.Common.{◌≡◌, ℕ, ◌+◌, Bool, true, false, cond, eqb, suc, List, [], ◌∷◌, ◌++◌, length, take, Option, Some, None, refl, sym, ap, ◌∙◌, subst, arith, zero, ◌<◌, ◌≤◌, inl, inr}
use Rattle.std.proofs.lemmas.List.{take_all}
use Rattle.std.specs.List.{list_any, count_by}
use Rattle.std.specs.Str.{IsUtf8, is_utf8}
use Rattle.std.specs.Str.Lines.{lines}
use Rattle.std.proofs.lemmas.Bool.{both_ways, or_from, or_parts, cases_lt}
use Rattle.std.proofs.lemmas.Str.{utf8_valid_len-IsValidUpTo, utf8_valid_len-IsUtf8, IsUtf8-nil, IsUtf8-from_is_utf8, is_utf8-from_IsUtf8}
use Rattle.text_lines.specs.Texts.{IsNotUtf8, is_long, IsLongLine}
use Rattle.text_lines.specs.Cutting.{long_line}

-- a text is wrong at one line alone
pub utf8-once : (text : List ℕ) (a b : ℕ) → IsNotUtf8 text a → IsNotUtf8 text b → a ≡ b
utf8-once text a b one two =
    let same : one.valid ≡ two.valid = sym (utf8_valid_len-IsValidUpTo text one.valid one.front) ∙ utf8_valid_len-IsValidUpTo text two.valid two.front in
    one.line ∙ ap (λ n. count_by (λ b. eqb b 10) (take n text) + 1) same ∙ sym two.line

-- of the fronts that are shorter than d bytes one is the longest that is UTF-8, where no other one is
longest : (text : List ℕ) (d : ℕ) → ((m : ℕ) → d ≤ m → IsUtf8 (take m text) → ⊥)
    → (n : ℕ) × (n < d) × IsUtf8 (take n text) × ((m : ℕ) → n < m → IsUtf8 (take m text) → ⊥)
longest text zero none = absurd (none 0 (omega arith) IsUtf8-nil)
longest text (suc d) none =
    elim (is_utf8 (take d text)) as (λ (t : Bool). is_utf8 (take d text) ≡ t → (n : ℕ) × (n < suc d) × IsUtf8 (take n text) × ((m : ℕ) → n < m → IsUtf8 (take m text) → ⊥)) [
      | true ↦ λ e. (d, omega arith, IsUtf8-from_is_utf8 (take d text) e, λ m above good. none m (omega arith) good)
      | false ↦ λ e.
          let more = longest text d (shorter e) in
          let less = more.1 in
          (more.0, omega arith, more.2, more.3)
    ] refl
  where
    shorter : is_utf8 (take d text) ≡ false → (m : ℕ) → d ≤ m → IsUtf8 (take m text) → ⊥
    shorter e m at good =
        elim (cases_lt d m) [
          | inl above ↦ none m (omega arith) good
          | inr below ↦
              let same : m ≡ d = omega arith in
              both_ways (is_utf8 (take d text)) e (is_utf8-from_IsUtf8 (take d text) (subst (λ (x : ℕ). IsUtf8 (take x text)) same good))
        ]

-- a text that is no UTF-8 is wrong at a line
pub utf8-some : (text : List ℕ) → is_utf8 text ≡ false → (k : ℕ) × IsNotUtf8 text k
utf8-some text bad =
    let n = longest text (length text) whole in
    (count_by (λ (b : ℕ). eqb b 10) (take n.0 text) + 1, record { valid = n.0; front = record { short = n.1; front = n.2; longest = n.3 }; line = refl })
  where
    whole : (m : ℕ) → length text ≤ m → IsUtf8 (take m text) → ⊥
    whole m past good = both_ways (is_utf8 text) bad (is_utf8-from_IsUtf8 text (subst IsUtf8 (take_all m text past) good))

-- a text that is UTF-8 is wrong nowhere
pub utf8-differs : (text : List ℕ) (k : ℕ) → IsUtf8 text → IsNotUtf8 text k → ⊥
utf8-differs text k good bad = omega (arith, bad.front.short, utf8_valid_len-IsUtf8 text good, utf8_valid_len-IsValidUpTo text bad.valid bad.front)

-- the first long line of these, counted from k on, is line n
record IsLongFrom (k : ℕ) (ls : List (List ℕ)) (n : ℕ) : Type 0 where
  before : List (List ℕ)
  long : List ℕ
  after : List (List ℕ)
  there : ls ≡ before ++ long ∷ after
  wrong : is_long long ≡ true
  first : list_any is_long before ≡ false
  line : n ≡ length before + k

-- what was found among lines
abbrev IsFound : ℕ → List (List ℕ) → Option ℕ → Type 0
IsFound k ls None = list_any is_long ls ≡ false
IsFound k ls (Some n) = IsLongFrom k ls n

found_later : (k : ℕ) (l : List ℕ) (ls : List (List ℕ)) (o : Option ℕ) → is_long l ≡ false → IsFound (k + 1) ls o → IsFound k (l ∷ ls) o
found_later k l ls None short h = or_from (is_long l) (list_any is_long ls) short h
found_later k l ls (Some n) short h =
    record {
      before = l ∷ h.before;
      long = h.long;
      after = h.after;
      there = ap (λ (x : List (List ℕ)). l ∷ x) h.there;
      wrong = h.wrong;
      first = or_from (is_long l) (list_any is_long h.before) short h.first;
      line = omega (arith, h.line);
    }

found : (k : ℕ) (ls : List (List ℕ)) → IsFound k ls (long_line k ls)
unfolding long_line
found k [] = refl
found k (l ∷ ls) =
    elim (is_long l) as (λ (t : Bool). is_long l ≡ t → IsFound k (l ∷ ls) (cond t (Some k) (long_line (k + 1) ls))) [
      | true ↦ λ e. record { before = []; long = l; after = ls; there = refl; wrong = e; first = refl; line = omega arith }
      | false ↦ λ e. found_later k l ls (long_line (k + 1) ls) e (found (k + 1) ls)
    ] refl

none_among : (before : List (List ℕ)) (long : List ℕ) (after : List (List ℕ)) → list_any is_long (before ++ long ∷ after) ≡ false → is_long long ≡ false
none_among [] long after h = (or_parts (is_long long) _ h).0
none_among (b ∷ bs) long after h = none_among bs long after (or_parts (is_long b) _ h).1

none_before : (ls before : List (List ℕ)) (long : List ℕ) (after : List (List ℕ)) → ls ≡ before ++ long ∷ after → list_any is_long ls ≡ false → is_long long ≡ false
none_before ls before long after there none = none_among before long after (ap (list_any is_long) (sym there) ∙ none)

-- no line is long where none is found
pub long-none : (text : List ℕ) → long_line 1 (lines text) ≡ None → (k : ℕ) → IsLongLine text k → ⊥
long-none text none k h = both_ways _ (none_before (lines text) h.before h.long h.after h.there (subst (IsFound 1 (lines text)) none (found 1 (lines text)))) h.wrong

-- the line that is found is the first long one
pub long-known : (text : List ℕ) (k : ℕ) → long_line 1 (lines text) ≡ Some k → IsLongLine text k
long-known text k is =
    let h : IsLongFrom 1 (lines text) k = subst (IsFound 1 (lines text)) is (found 1 (lines text)) in
    record { before = h.before; long = h.long; after = h.after; there = h.there; wrong = h.wrong; first = h.first; line = h.line }

same_length : (xs ys : List (List ℕ)) (x y : List ℕ) (us vs : List (List ℕ)) → xs ++ x ∷ us ≡ ys ++ y ∷ vs → is_long x ≡ true → is_long y ≡ true
    → list_any is_long xs ≡ false → list_any is_long ys ≡ false → length xs ≡ length ys
same_length [] [] x y us vs e long other none free = refl
same_length [] (z ∷ zs) x y us vs e long other none free =
    let same : x ≡ z = cc in absurd (both_ways (is_long z) (or_parts (is_long z) _ free).0 (subst (λ l. is_long l ≡ true) same long))
same_length (z ∷ zs) [] x y us vs e long other none free =
    let same : y ≡ z = cc in absurd (both_ways (is_long z) (or_parts (is_long z) _ none).0 (subst (λ l. is_long l ≡ true) same other))
same_length (z ∷ zs) (w ∷ ws) x y us vs e long other none free =
    let rest : zs ++ x ∷ us ≡ ws ++ y ∷ vs = cc in
    ap suc (same_length zs ws x y us vs rest long other (or_parts (is_long z) _ none).1 (or_parts (is_long w) _ free).1)

-- and there is one
pub long-once : (text : List ℕ) (a b : ℕ) → IsLongLine text a → IsLongLine text b → a ≡ b
long-once text a b one two =
    let same = same_length one.before two.before one.long two.long one.after two.after (sym one.there ∙ two.there) one.wrong two.wrong one.first two.first in
    omega (arith, one.line, two.line)

-- where none is found all lines are short
pub short-known : (text : List ℕ) → long_line 1 (lines text) ≡ None → list_any is_long (lines text) ≡ false
short-known text none = subst (IsFound 1 (lines text)) none (found 1 (lines text))

-- where all lines are short none is long
pub short-differs : (text : List ℕ) (k : ℕ) → list_any is_long (lines text) ≡ false → IsLongLine text k → ⊥
short-differs text k none h = both_ways _ (none_before (lines text) h.before h.long h.after h.there none) h.wrong
