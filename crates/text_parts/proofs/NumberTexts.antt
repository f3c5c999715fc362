-- What is read of numbers, against what their texts are.
use Rattle.std.proofs.Common.{◌≡◌, ◌≢◌, ℕ, ◌+◌, ◌*◌, ◌^◌, ◌<◌, ◌≤◌, min, inl, inr, Bool, true, false, ◌&&◌, cond, eqb, ltb, leb, List, [], ◌∷◌, length, Option, Some, None, slice_get, refl, sym, ap, ◌∙◌, subst, arith}
use Rattle.std.specs.Char.{digit_value}
use Rattle.std.specs.List.{list_all}
use Rattle.std.specs.Option.{option_or}
use Rattle.std.specs.Str.Parse.{AllDigits, IsNumeral, digits_value, digits_value_after}
use Rattle.std.proofs.lemmas.Bool.{and_parts, and_from, and_cases, and_right, ltb-true, ltb-false, lt-ltb, le-ltb, le-leb, leb-true, leb-false, eqb-true, eqb-false}
use Rattle.std.proofs.lemmas.Option.{same_Some}
use Rattle.text_parts.specs.Cuts.{◌>>=◌, after_byte}
use Rattle.text_parts.specs.Numbers.{IsDecimal, IsHexadecimal, IsAmount, are_digits, digits_of, has_leading_zero, decimal_of, hexadecimal_of, amount_of, capped, within}
use Rattle.text_parts.specs.ReadingNumbers.{kept_from}
use Rattle.text_parts.proofs.Options.{after_byte-known, bind_some, chosen_then, chosen_else, never-some, or_some}

-- no number above 2^64 is kept

grows : (radix n : ℕ) → 0 < radix → n ≤ n * radix
grows radix n some = grind arith

keeps_by : (radix n d t : ℕ) → 0 < radix → n ≤ t → t ≡ n * radix → min (min n (2 ^ 64) * radix + d) (2 ^ 64) ≡ min (t + d) (2 ^ 64)
keeps_by radix n d t some grown is =
    elim (leb n (2 ^ 64)) as (λ b. leb n (2 ^ 64) ≡ b → min (min n (2 ^ 64) * radix + d) (2 ^ 64) ≡ min (t + d) (2 ^ 64)) [
      | true ↦ λ e.
          let low : min n (2 ^ 64) ≡ n = omega (arith, leb-true n (2 ^ 64) e) in
          ap (λ (k : ℕ). min (k * radix + d) (2 ^ 64)) low ∙ ap (λ (k : ℕ). min (k + d) (2 ^ 64)) (sym is)
      | false ↦ λ e.
          let high : min n (2 ^ 64) ≡ 2 ^ 64 = omega (arith, leb-false n (2 ^ 64) e) in
          ap (λ (k : ℕ). min (k * radix + d) (2 ^ 64)) high ∙ omega (arith, leb-false n (2 ^ 64) e, grows radix (2 ^ 64) some)
    ] refl

-- a step of the kept number is a step of the number, kept
keeps : (radix n d : ℕ) → 0 < radix → min (min n (2 ^ 64) * radix + d) (2 ^ 64) ≡ min (n * radix + d) (2 ^ 64)
keeps radix n d some = keeps_by radix n d (n * radix) some (grows radix n some) refl

-- whether each byte is a digit
abbrev all_pass : ℕ → List ℕ → Bool
all_pass radix bs = list_all (λ b. ltb (digit_value b) radix) bs

-- what is kept is the number, or 2^64 for a greater one
kept-from : (radix : ℕ) (bs : List ℕ) (n : ℕ) → 0 < radix
    → kept_from radix (min n (2 ^ 64)) bs ≡ cond (all_pass radix bs) (Some (min (digits_value_after radix n bs) (2 ^ 64))) None
unfolding kept_from
kept-from radix [] n some = refl
kept-from radix (b ∷ bs) n some =
    let kept = keeps radix n (digit_value b) some in
    elim (ltb (digit_value b) radix) as (λ t. cond t (kept_from radix (min (min n (2 ^ 64) * radix + digit_value b) (2 ^ 64)) bs) None
    ≡ cond (t && all_pass radix bs) (Some (min (digits_value_after radix (n * radix + digit_value b) bs) (2 ^ 64))) None) [
      | true ↦ ap (λ (k : ℕ). kept_from radix k bs) kept ∙ kept-from radix bs (n * radix + digit_value b) some
      | false ↦ refl
    ]

capped-cond : (t : Bool) (n : ℕ) → cond t (Some (min n (2 ^ 64))) None ≡ capped (cond t (Some n) None)
capped-cond true n = refl
capped-cond false n = refl

pub kept_is_capped : (radix : ℕ) (text : List ℕ) → 0 < radix → length text ≢ 0 → kept_from radix 0 text ≡ capped (digits_of radix text)
unfolding digits_of
kept_is_capped radix [] some long = absurd (long refl)
kept_is_capped radix (b ∷ bs) some long =
    let zero : min 0 (2 ^ 64) ≡ 0 = refl in
    let filled : ltb 0 (length (b ∷ bs)) ≡ true = lt-ltb 0 (length (b ∷ bs)) (omega arith) in
    ap (λ (k : ℕ). kept_from radix k (b ∷ bs)) (sym zero) ∙ kept-from radix (b ∷ bs) 0 some
    ∙ capped-cond (all_pass radix (b ∷ bs)) (digits_value radix (b ∷ bs))
    ∙ ap (λ (t : Bool). capped (cond (t && all_pass radix (b ∷ bs)) (Some (digits_value radix (b ∷ bs))) None)) (sym filled)

pub none_of_nothing : (radix : ℕ) (text : List ℕ) → length text ≡ 0 → None ≡ capped (digits_of radix text)
unfolding digits_of
none_of_nothing radix [] short = refl
none_of_nothing radix (b ∷ bs) short = absurd (omega arith)

-- a number or a greater one
pub capped-or : (a b : Option ℕ) → option_or (capped a) (capped b) ≡ capped (option_or a b)
capped-or None b = refl
capped-or (Some n) b = refl

-- what is bounded below 2^64 is not capped
pub within_capped : (greatest : ℕ) (o : Option ℕ) → greatest < 2 ^ 64 → within greatest (capped o) ≡ within greatest o
within_capped greatest None small = refl
within_capped greatest (Some n) small =
    elim (leb n greatest) as (λ t. leb n greatest ≡ t → within greatest (Some (min n (2 ^ 64))) ≡ cond t (Some n) None) [
      | true ↦ λ e.
          let low : min n (2 ^ 64) ≡ n = omega (arith, leb-true n greatest e) in
          rw (low, e) refl
      | false ↦ λ e.
          let high : leb (min n (2 ^ 64)) greatest ≡ false = lower (min n (2 ^ 64)) greatest (omega (arith, leb-false n greatest e)) in
          rw high refl
    ] refl
  where
    lower : (m g : ℕ) → g < m → leb m g ≡ false
    lower m g above = grind arith

-- a number within a bound is the number
pub within-known : (greatest : ℕ) (o : Option ℕ) (n : ℕ) → within greatest o ≡ Some n → (o ≡ Some n) × (n ≤ greatest)
within-known greatest None n h = cc
within-known greatest (Some m) n h =
    let p = chosen_then (leb m greatest) (Some m) n h in
    let same : m ≡ n = same_Some m n p.1 in
    (p.1, omega (arith, leb-true m greatest p.0))

pub within-only : (greatest : ℕ) (o : Option ℕ) (n : ℕ) → o ≡ Some n → n ≤ greatest → within greatest o ≡ Some n
within-only greatest o n is low = let small : leb n greatest ≡ true = le-leb n greatest low in rw (is, small) refl

-- digits

tests-known : (radix : ℕ) (bs : List ℕ) → all_pass radix bs ≡ true → AllDigits radix bs
tests-known radix [] h = tt
tests-known radix (b ∷ bs) h =
    let p = and_parts (ltb (digit_value b) radix) (all_pass radix bs) h in
    (ltb-true (digit_value b) radix p.0, tests-known radix bs p.1)

pub tests-only : (radix : ℕ) (bs : List ℕ) → AllDigits radix bs → all_pass radix bs ≡ true
tests-only radix [] h = refl
tests-only radix (b ∷ bs) h = and_from (ltb (digit_value b) radix) (all_pass radix bs) (lt-ltb (digit_value b) radix h.0) (tests-only radix bs h.1)

-- the first of some digits is one
pub first_digit : (radix b : ℕ) (bs text : List ℕ) → text ≡ b ∷ bs → AllDigits radix text → digit_value b < radix
first_digit radix b bs text is h = let P : List ℕ → Type 0 = λ ds. AllDigits radix ds in let all : AllDigits radix (b ∷ bs) = subst P is h in all.0

pub digits-known : (radix : ℕ) (text : List ℕ) (n : ℕ) → digits_of radix text ≡ Some n → IsNumeral radix text × (n ≡ digits_value radix text)
unfolding digits_of
digits-known radix text n h =
    let p = chosen_then (are_digits radix text) (Some (digits_value radix text)) n h in
    let q = and_parts (ltb 0 (length text)) (all_pass radix text) p.0 in
    ((ltb-true 0 (length text) q.0, tests-known radix text q.1), sym (same_Some (digits_value radix text) n p.1))

pub digits-only : (radix : ℕ) (text : List ℕ) → IsNumeral radix text → digits_of radix text ≡ Some (digits_value radix text)
unfolding digits_of
digits-only radix text is =
    let some : ltb 0 (length text) ≡ true = lt-ltb 0 (length text) is.0 in
    let each : all_pass radix text ≡ true = tests-only radix text is.1 in
    rw (some, each) refl

-- decimal numbers

-- a leading zero stands alone
leading-known : (text : List ℕ) → has_leading_zero text ≡ false → slice_get text 0 ≡ Some 48 → length text ≡ 1
leading-known [] h first = cc
leading-known (b ∷ bs) h first =
    let same : b ≡ 48 = same_Some b 48 first in
    elim (and_cases (ltb 1 (length (b ∷ bs))) (eqb b 48) h)
    [ inl low ↦ omega (arith, ltb-false 1 (length (b ∷ bs)) low) | inr other ↦ absurd (eqb-false b 48 other same) ]

leading-only : (text : List ℕ) → (slice_get text 0 ≡ Some 48 → length text ≡ 1) → has_leading_zero text ≡ false
leading-only [] h = refl
leading-only (b ∷ bs) h =
    elim (eqb b 48) as (λ t. eqb b 48 ≡ t → (ltb 1 (length (b ∷ bs)) && t) ≡ false) [
      | true ↦ λ e.
          let one = h (ap (λ (x : ℕ). Some x) (eqb-true b 48 e)) in
          let low : ltb 1 (length (b ∷ bs)) ≡ false = le-ltb 1 (length (b ∷ bs)) (omega arith) in rw low refl
      | false ↦ λ e. and_right (ltb 1 (length (b ∷ bs))) false refl
    ] refl

pub decimal-known : (text : List ℕ) (n : ℕ) → decimal_of text ≡ Some n → IsDecimal text n
unfolding decimal_of
decimal-known text n h =
    let p = chosen_else (has_leading_zero text) (digits_of 10 text) n h in
    let read = digits-known 10 text n p.1 in
    record { digits = read.0; leading = leading-known text p.0; value = read.1 }

pub decimal-only : (text : List ℕ) (n : ℕ) → IsDecimal text n → decimal_of text ≡ Some n
unfolding decimal_of
decimal-only text n d =
    let lead : has_leading_zero text ≡ false = leading-only text d.leading in
    rw lead (digits-only 10 text d.digits ∙ ap (λ (k : ℕ). Some k) (sym d.value))

-- hexadecimal numbers

pub hexadecimal-known : (text : List ℕ) (n : ℕ) → hexadecimal_of text ≡ Some n → IsHexadecimal text n
unfolding hexadecimal_of
hexadecimal-known text n h =
    let zero = bind_some (after_byte 48 text) (λ rest. after_byte 120 rest >>= digits_of 16) n h in
    let x = bind_some (after_byte 120 zero.0) (digits_of 16) n zero.2 in
    let read = digits-known 16 x.0 n x.2 in
    let spelled : text ≡ 48 ∷ 120 ∷ x.0 = after_byte-known 48 text zero.0 zero.1 ∙ ap (λ (y : List ℕ). 48 ∷ y) (after_byte-known 120 zero.0 x.0 x.1) in
    record { behind = x.0; spelled = spelled; digits = read.0; value = read.1 }

pub hexadecimal-only : (text : List ℕ) (n : ℕ) → IsHexadecimal text n → hexadecimal_of text ≡ Some n
unfolding hexadecimal_of after_byte
hexadecimal-only text n d =
    rw d.spelled (digits-only 16 d.behind d.digits ∙ ap (λ (k : ℕ). Some k) (sym d.value))

-- a decimal number is no hexadecimal one
apart_by : (text behind : List ℕ) → text ≡ 48 ∷ 120 ∷ behind → AllDigits 10 text → ⊥
apart_by text behind is h = let P : List ℕ → Type 0 = λ ds. AllDigits 10 ds in let e : AllDigits 10 (48 ∷ 120 ∷ behind) = subst P is h in absurd (omega (arith, e.1.0))

pub decimal-no_hexadecimal : (text : List ℕ) (n : ℕ) → IsDecimal text n → hexadecimal_of text ≡ None
decimal-no_hexadecimal text n d =
    never-some (hexadecimal_of text) (λ m h. let p = hexadecimal-known text m h in apart_by text p.behind p.spelled d.digits.1)

-- numbers without a sign

pub amount-known : (text : List ℕ) (n : ℕ) → amount_of text ≡ Some n → IsAmount text n
unfolding amount_of
amount-known text n h =
    elim (or_some (hexadecimal_of text) (decimal_of text) n h) [
      | inl e ↦ inr (hexadecimal-known text n e)
      | inr e ↦ inl (decimal-known text n e.1)
    ]

pub amount-only : (text : List ℕ) (n : ℕ) → IsAmount text n → amount_of text ≡ Some n
unfolding amount_of
amount-only text n (inl d) = let none = decimal-no_hexadecimal text n d in rw none (decimal-only text n d)
amount-only text n (inr d) = let some = hexadecimal-only text n d in rw some refl

-- no byte of a number's text stands before the digits

digit-high : (b : ℕ) → digit_value b < 16 → 48 ≤ b
digit-high b digit =
    elim (leb 48 b) as (λ t. leb 48 b ≡ t → 48 ≤ b) [
      | true ↦ λ e. leb-true 48 b e
      | false ↦ λ e.
          let before : ltb b 48 ≡ true = lt-ltb b 48 (leb-false 48 b e) in
          let other : digit_value b ≡ 36 = rw before refl in
          absurd (omega arith)
    ] refl

digits-high : (radix : ℕ) (bs : List ℕ) → radix ≤ 16 → AllDigits radix bs → list_all (λ b. leb 48 b) bs ≡ true
digits-high radix [] few h = refl
digits-high radix (b ∷ bs) few h =
    and_from (leb 48 b) (list_all (λ c. leb 48 c) bs) (le-leb 48 b (digit-high b (omega (arith, h.0)))) (digits-high radix bs few h.1)

pub amount-high : (text : List ℕ) (n : ℕ) → IsAmount text n → list_all (λ b. leb 48 b) text ≡ true
amount-high text n (inl d) = digits-high 10 text (omega arith) d.digits.1
amount-high text n (inr d) =
    subst (λ (t : List ℕ). list_all (λ b. leb 48 b) t ≡ true) (sym d.spelled) (digits-high 16 d.behind (omega arith) d.digits.1)
