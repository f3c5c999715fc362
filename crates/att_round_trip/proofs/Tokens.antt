-- Printed operands as tokens: printable bytes, few of them, with commas only inside parentheses.
use Rattle.std.proofs.Common.{◌≡◌, ℕ, suc, ◌+◌, ◌-◌, ◌/◌, ◌%◌, ◌^◌, ◌<◌, ◌≤◌, ◌==◌, Bool, true, false, ◌&&◌, not, cond, nat_lt, nat_le, ℤ, pos, negsuc, List, [], ◌∷◌, ◌++◌, length, Option, Some, None, slice_get, unwrap_or, codes, decimal, refl, sym, ◌∙◌, ap, subst, append_assoc, length-append, arith}
use Rattle.std.specs.Fmt.{signed_decimal}
use Rattle.std.specs.List.{list_all}
use Rattle.std.proofs.lemmas.Bool.{and_from, and_parts}
use Rattle.std.proofs.lemmas.Bool.Decides.{nat_tests}
use Rattle.std.proofs.lemmas.Fmt.{decimal_by_steps, decimal_nonempty, length-decimal-le}
use Rattle.std.proofs.lemmas.List.Folds.{list_all-append}
use Rattle.register_names.proofs.NameTexts.{all-names}
use Rattle.register_names.specs.Names.{register_names}
use Rattle.att_statements.specs.Operands.{IsUncut, open_after, open_behind}
use Rattle.insn_text.specs.InsnText.{displacement_text, memory_text, number_text, register_text, scaled_text}

-- a printable byte that is no blank, begins no comment and ends no label
unfoldable pub is_token : ℕ → Bool
is_token b = nat_lt 32 b && (nat_lt b 127 && (not (b == 35) && not (b == 58)))

-- one that is no parenthesis either
unfoldable pub is_inner : ℕ → Bool
is_inner b = is_token b && (not (b == 40) && not (b == 41))

-- and no comma
unfoldable pub is_simple : ℕ → Bool
is_simple b = is_inner b && not (b == 44)

inner-token : (b : ℕ) → is_inner b ≡ true → is_token b ≡ true
unfolding is_inner
inner-token b h = (and_parts (is_token b) _ h).0

simple-inner : (b : ℕ) → is_simple b ≡ true → is_inner b ≡ true
unfolding is_simple
simple-inner b h = (and_parts (is_inner b) _ h).0

simple-comma : (b : ℕ) → is_simple b ≡ true → not (b == 44) ≡ true
unfolding is_simple
simple-comma b h = (and_parts (is_inner b) _ h).1

-- what holds of each byte, where it follows
pub all-weaker : (p q : ℕ → Bool) (xs : List ℕ) → ((b : ℕ) → p b ≡ true → q b ≡ true) → list_all p xs ≡ true → list_all q xs ≡ true
all-weaker p q [] weaker h = refl
all-weaker p q (b ∷ bs) weaker h =
    let parts = and_parts (p b) (list_all p bs) h in
    and_from (q b) (list_all q bs) (weaker b parts.0) (all-weaker p q bs weaker parts.1)

-- what each byte of two texts passes
pub all-both : (p : ℕ → Bool) (xs ys : List ℕ) → list_all p xs ≡ true → list_all p ys ≡ true → list_all p (xs ++ ys) ≡ true
all-both p xs ys h k = list_all-append p xs ys ∙ and_from (list_all p xs) (list_all p ys) h k

-- commas and parentheses

open-more : (n : ℕ) (xs ys : List ℕ) → open_after n (xs ++ ys) ≡ open_after (open_after n xs) ys
open-more n [] ys = refl
open-more n (b ∷ xs) ys = open-more (open_behind n b) xs ys

open-same : (n b : ℕ) → is_inner b ≡ true → open_behind n b ≡ n
unfolding is_inner
open-same n b h =
    let parts = and_parts (not (b == 40)) (not (b == 41)) (and_parts (is_token b) _ h).1 in
    opens (b == 40) (b == 41) n parts.0 parts.1
  where
    opens : (x y : Bool) (n : ℕ) → not x ≡ true → not y ≡ true → cond x (n + 1) (cond y (n - 1) n) ≡ n
    opens false false n h k = refl
    opens true y n h k = cc
    opens false true n h k = cc

-- without parentheses as many are open behind a text as before it
open-kept : (n : ℕ) (text : List ℕ) → list_all is_inner text ≡ true → open_after n text ≡ n
open-kept n [] h = refl
open-kept n (b ∷ text) h =
    let parts = and_parts (is_inner b) (list_all is_inner text) h in
    subst (λ (m : ℕ). open_after m text ≡ n) (sym (open-same n b parts.0)) (open-kept n text parts.1)

no_byte : (n : ℕ) → IsUncut n []
no_byte n [] after e = cc
no_byte n (x ∷ before) after e = cc

same-head : (a b : ℕ) (xs ys : List ℕ) → a ∷ xs ≡ b ∷ ys → a ≡ b
same-head a b xs ys e = cc

same-tail : (a b : ℕ) (xs ys : List ℕ) → a ∷ xs ≡ b ∷ ys → xs ≡ ys
same-tail a b xs ys e = cc

-- one byte more before an uncut text
pub uncut-onto : (n b : ℕ) (text : List ℕ) → (b ≡ 44 → 0 < n) → IsUncut (open_behind n b) text → IsUncut n (b ∷ text)
uncut-onto n b text first later [] after e = first (same-head b 44 text after e)
uncut-onto n b text first later (x ∷ before) after e =
    subst (λ (y : ℕ). 0 < open_after (open_behind n y) before) (same-head b x text (before ++ 44 ∷ after) e)
    (later before after (same-tail b x text (before ++ 44 ∷ after) e))

-- inside parentheses a text without parentheses is uncut
uncut-inside : (n : ℕ) (text : List ℕ) → list_all is_inner text ≡ true → IsUncut (suc n) text
uncut-inside n [] h = no_byte (suc n)
uncut-inside n (b ∷ text) h =
    let parts = and_parts (is_inner b) (list_all is_inner text) h in
    uncut-onto (suc n) b text (λ e. omega arith) (subst (λ (m : ℕ). IsUncut m text) (sym (open-same (suc n) b parts.0)) (uncut-inside n text parts.1))

comma_apart : (b n : ℕ) → is_simple b ≡ true → b ≡ 44 → 0 < n
comma_apart b n h e = let none = subst (λ (x : ℕ). not (x == 44) ≡ true) e (simple-comma b h) in absurd (cc)

-- a text without commas and parentheses is uncut
uncut-simple : (n : ℕ) (text : List ℕ) → list_all is_simple text ≡ true → IsUncut n text
uncut-simple n [] h = no_byte n
uncut-simple n (b ∷ text) h =
    let parts = and_parts (is_simple b) (list_all is_simple text) h in
    uncut-onto n b text (comma_apart b n parts.0)
    (subst (λ (m : ℕ). IsUncut m text) (sym (open-same n b (simple-inner b parts.0))) (uncut-simple n text parts.1))

-- one text behind another
uncut-both : (n : ℕ) (xs ys : List ℕ) → IsUncut n xs → IsUncut (open_after n xs) ys → IsUncut n (xs ++ ys)
uncut-both n [] ys one two = two
uncut-both n (b ∷ xs) ys one two =
    uncut-onto n b (xs ++ ys) (λ e. one [] xs (ap (λ (x : ℕ). x ∷ xs) e))
    (uncut-both (open_behind n b) xs ys (λ before after e. one (b ∷ before) after (ap (λ (t : List ℕ). b ∷ t) e)) two)

-- a text that stands for one operand
pub record IsToken (text : List ℕ) : Type 0 where
  pub some : 0 < length text
  pub short : length text ≤ 100
  pub bytes : list_all is_token text ≡ true
  pub uncut : IsUncut 0 text
  pub closed : open_after 0 text ≡ 0

-- a text without commas and parentheses
pub simple-text : (text : List ℕ) → 0 < length text → length text ≤ 100 → list_all is_simple text ≡ true → IsToken text
simple-text text some short simple =
    let inner = all-weaker is_simple is_inner text simple-inner simple in
    record {
      some = some;
      short = short;
      bytes = all-weaker is_inner is_token text inner-token inner;
      uncut = uncut-simple 0 text simple;
      closed = open-kept 0 text inner;
    }

-- one with parentheses at its end
parenthesised-text : (before inside : List ℕ) → length before ≤ 40 → length inside ≤ 40 → list_all is_simple before ≡ true → list_all is_inner inside ≡ true
    → IsToken (before ++ 40 ∷ (inside ++ 41 ∷ []))
unfolding is_token
parenthesised-text before inside few less simple inner =
    let front = all-weaker is_simple is_inner before simple-inner simple in
    let open_one : open_after 0 before ≡ 0 = open-kept 0 before front in
    let opened : open_after 1 inside ≡ 1 = open-kept 1 inside inner in
    let last : IsUncut 1 (41 ∷ []) = uncut-onto 1 41 [] (λ e. omega arith) (no_byte 0) in
    let behind : IsUncut 1 (inside ++ 41 ∷ []) = uncut-both 1 inside (41 ∷ []) (uncut-inside 0 inside inner) (subst (λ (m : ℕ). IsUncut m (41 ∷ [])) (sym opened) last) in
    record {
      some = omega (arith, length-append before (40 ∷ (inside ++ 41 ∷ [])));
      short = omega (arith, length-append before (40 ∷ (inside ++ 41 ∷ [])), length-append inside (41 ∷ []));
      bytes = all-both is_token before _ (all-weaker is_inner is_token before inner-token front)
          (all-both is_token inside (41 ∷ []) (all-weaker is_inner is_token inside inner-token inner) refl);
      uncut = uncut-both 0 before (40 ∷ (inside ++ 41 ∷ [])) (uncut-simple 0 before simple)
          (subst (λ (m : ℕ). IsUncut m (40 ∷ (inside ++ 41 ∷ []))) (sym open_one) (uncut-onto 0 40 (inside ++ 41 ∷ []) (λ e. absurd (omega arith)) behind));
      closed =
          open-more 0 before (40 ∷ (inside ++ 41 ∷ [])) ∙ ap (λ (m : ℕ). open_after m (40 ∷ (inside ++ 41 ∷ []))) open_one
          ∙ open-more 1 inside (41 ∷ []) ∙ ap (λ (m : ℕ). open_after m (41 ∷ [])) opened;
    }

-- decimal numbers

digit-simple : (n : ℕ) → n < 10 → is_simple (48 + n) ≡ true
unfolding is_simple is_inner is_token
digit-simple n lt = grind (arith, nat_tests)

decimal-simple : (n : ℕ) → n < 2 ^ 64 → list_all is_simple (decimal n) ≡ true
decimal-simple n lt =
    decimal_by_steps (λ n ds. list_all is_simple ds ≡ true) (λ n less. and_from (is_simple (48 + n)) true (digit-simple n less) refl)
    (λ n ds more h. all-both is_simple ds ((48 + n % 10) ∷ []) h (and_from (is_simple (48 + n % 10)) true (digit-simple (n % 10) (omega arith)) refl)) n lt

decimal-short : (n : ℕ) → n < 2 ^ 64 → length (decimal n) ≤ 20
decimal-short n lt = length-decimal-le 20 n (omega arith) (omega arith) lt

-- registers

name-simple : (w n : ℕ) (name : List ℕ) → slice_get (register_names w) n ≡ Some name → list_all is_simple name ≡ true
unfolding is_simple is_inner is_token
name-simple w n name there = all-names (λ (t : List ℕ). list_all is_simple t) w n name (record { all64 = refl; all32 = refl; all16 = refl; all8 = refl; all128 = refl; all256 = refl }) there

name-short : (w n : ℕ) (name : List ℕ) → slice_get (register_names w) n ≡ Some name → length name ≤ 5
name-short w n name there =
    le (length name) (all-names (λ (t : List ℕ). nat_le (length t) 5) w n name (record { all64 = refl; all32 = refl; all16 = refl; all8 = refl; all128 = refl; all256 = refl }) there)
  where
    le : (k : ℕ) → nat_le k 5 ≡ true → k ≤ 5
    le k h = grind (arith, nat_tests)

-- a printed register
pub record IsPrintedRegister (text : List ℕ) : Type 0 where
  pub some : 0 < length text
  pub few : length text ≤ 6
  pub simple : list_all is_simple text ≡ true

-- a register that has a name is printed so
pub printed-register : (w n : ℕ) (name : List ℕ) → slice_get (register_names w) n ≡ Some name → IsPrintedRegister (register_text w n)
unfolding register_text is_simple is_inner is_token
printed-register w n name there =
    let known : register_text w n ≡ codes "%" ++ name = ap (λ (o : Option (List ℕ)). codes "%" ++ unwrap_or o []) there in
    subst IsPrintedRegister (sym known) (record { some = omega arith; few = omega (arith, name-short w n name there); simple = name-simple w n name there })

-- displacements

-- a small integer
abbrev pub IsSmall : ℤ → Type 0
IsSmall (pos n) = n < 2 ^ 32
IsSmall (negsuc n) = suc n < 2 ^ 32

-- a simple text that is not too long
pub record IsPrintedNumber (text : List ℕ) : Type 0 where
  pub few : length text ≤ 40
  pub simple : list_all is_simple text ≡ true

printed-decimal : (n : ℕ) → n < 2 ^ 64 → IsPrintedNumber (decimal n)
printed-decimal n lt = record { few = omega (arith, decimal-short n lt); simple = decimal-simple n lt }

signed-number : (n : ℕ) → suc n < 2 ^ 32 → IsPrintedNumber (signed_decimal (negsuc n))
unfolding is_simple is_inner is_token
signed-number n lt = record { few = omega (arith, decimal-short (suc n) (omega arith)); simple = decimal-simple (suc n) (omega arith) }

printed-by : (n : ℕ) (t : Bool) → n < 2 ^ 64 → IsPrintedNumber (cond t [] (decimal n))
printed-by n true lt = record { few = omega arith; simple = refl }
printed-by n false lt = printed-decimal n lt

printed-displacement : (disp : ℤ) → IsSmall disp → IsPrintedNumber (displacement_text disp)
printed-displacement (pos n) small = printed-by n (n == 0) (omega arith)
printed-displacement (negsuc n) small = signed-number n small

-- memory

-- the register that stands in an address has a name
abbrev pub IsNamed : Option ℕ → Type 0
IsNamed None = Unit {0}
IsNamed (Some n) = (name : List ℕ) × (slice_get (register_names 64) n ≡ Some name)

named-register : (n : ℕ) → IsNamed (Some n) → IsPrintedRegister (register_text 64 n)
named-register n named = printed-register 64 n named.0 named.1

alone : (disp : ℤ) → IsSmall disp → IsToken (signed_decimal disp)
alone (pos n) small =
    simple-text (decimal n) (decimal_nonempty n (omega arith)) (omega (arith, decimal-short n (omega arith))) (decimal-simple n (omega arith))
alone (negsuc n) small =
    let number = signed-number n small in simple-text (signed_decimal (negsuc n)) (omega arith) (omega (arith, number.few)) number.simple

-- an index and its scale, behind a base or nothing
scaled-inside : (first : List ℕ) (n scale : ℕ) → length first ≤ 6 → list_all is_simple first ≡ true → IsNamed (Some n) → scale < 10
    → (length (first ++ 44 ∷ (register_text 64 n ++ 44 ∷ decimal scale)) ≤ 40) × (list_all is_inner (first ++ 44 ∷ (register_text 64 n ++ 44 ∷ decimal scale)) ≡ true)
unfolding is_inner is_token
scaled-inside first n scale few simple named less =
    let index = named-register n named in
    let digits = decimal-short scale (omega arith) in (
      omega (arith, length-append first (44 ∷ (register_text 64 n ++ 44 ∷ decimal scale)), length-append (register_text 64 n) (44 ∷ decimal scale), index.few, digits),
      all-both is_inner first (44 ∷ (register_text 64 n ++ 44 ∷ decimal scale)) (all-weaker is_simple is_inner first simple-inner simple)
          (all-both is_inner (register_text 64 n) (44 ∷ decimal scale) (all-weaker is_simple is_inner (register_text 64 n) simple-inner index.simple)
          (all-weaker is_simple is_inner (decimal scale) simple-inner (decimal-simple scale (omega arith)))),
    )

-- printed memory is a token
pub memory-token : (base index : Option ℕ) (scale : ℕ) (disp : ℤ) → IsNamed base → IsNamed index → scale < 10 → IsSmall disp → IsToken (memory_text base index scale disp)
unfolding memory_text scaled_text
memory-token None None scale disp b i s small = alone disp small
memory-token (Some base) None scale disp b i s small =
    let number = printed-displacement disp small in
    let register = named-register base b in
    let inner = all-weaker is_simple is_inner (register_text 64 base) simple-inner register.simple in
    let e : displacement_text disp ++ 40 ∷ (register_text 64 base ++ 41 ∷ []) ≡ memory_text (Some base) None scale disp = simp append_assoc in
    subst IsToken e (parenthesised-text (displacement_text disp) (register_text 64 base) number.few (omega (arith, register.few)) number.simple inner)
memory-token None (Some index) scale disp b i s small =
    let number = printed-displacement disp small in
    let inside = scaled-inside [] index scale (omega arith) refl i s in
    let e : displacement_text disp ++ 40 ∷ ((44 ∷ (register_text 64 index ++ 44 ∷ decimal scale)) ++ 41 ∷ []) ≡ memory_text None (Some index) scale disp = simp append_assoc in
    subst IsToken e (parenthesised-text (displacement_text disp) (44 ∷ (register_text 64 index ++ 44 ∷ decimal scale)) number.few inside.0 number.simple inside.1)
memory-token (Some base) (Some index) scale disp b i s small =
    let number = printed-displacement disp small in
    let register = named-register base b in
    let inside = scaled-inside (register_text 64 base) index scale register.few register.simple i s in
    let e : displacement_text disp ++ 40 ∷ ((register_text 64 base ++ 44 ∷ (register_text 64 index ++ 44 ∷ decimal scale)) ++ 41 ∷ []) ≡ memory_text (Some base) (Some index) scale disp = simp append_assoc in
    subst IsToken e (parenthesised-text (displacement_text disp) (register_text 64 base ++ 44 ∷ (register_text 64 index ++ 44 ∷ decimal scale)) number.few inside.0 number.simple inside.1)

-- immediates

-- a printed number modulo m is a token
pub number-token : (m v : ℕ) (t : Bool) → nat_lt (v % m) (m / 2) ≡ t → v % m < 2 ^ 64 → (t ≡ false → m - v % m < 2 ^ 64) → IsToken (number_text m v)
unfolding number_text is_simple is_inner is_token
number-token m v true is low high =
    rw is (simple-text (codes "$" ++ decimal (v % m)) (omega arith) (omega (arith, decimal-short (v % m) low)) (decimal-simple (v % m) low))
number-token m v false is low high =
    rw is (simple-text (codes "$-" ++ decimal (m - v % m)) (omega arith) (omega (arith, decimal-short (m - v % m) (high refl))) (decimal-simple (m - v % m) (high refl)))
