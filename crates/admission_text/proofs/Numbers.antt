-- What the code reads of numbers, against the grammar.
use Rattle.std.proofs.Common.{◌≡◌, ◌⊎◌, ℕ, ◌-◌, ◌^◌, ◌<◌, ◌≤◌, inl, inr, true, leb, List, Some, decimal, sym, subst, arith}
use Rattle.std.specs.List.{list_all}
use Rattle.text_parts.specs.Numbers.{IsAmount, IsHexadecimal, amount_of}
use Rattle.text_parts.proofs.NumberTexts.{amount-high, amount-known, amount-only, within-known, within-only}
use Rattle.text_parts.proofs.Printed.{decimal-is, decimal-one}
use Rattle.admission_text.specs.Names.{IsNumberText}
use Rattle.admission_text.specs.Reading.{word_number}

spelled-by : (text : List ℕ) (n : ℕ) → n < 2 ^ 64 → IsAmount text n → (text ≡ decimal n) ⊎ IsHexadecimal text n
spelled-by text n small (inl d) = inl (decimal-one text n small d)
spelled-by text n small (inr d) = inr d

amount-by : (text : List ℕ) (n : ℕ) → n < 2 ^ 64 → (text ≡ decimal n) ⊎ IsHexadecimal text n → IsAmount text n
amount-by text n small (inl is) = subst (λ (t : List ℕ). IsAmount t n) (sym is) (inl (decimal-is n small))
amount-by text n small (inr d) = inr d

pub number-known : (text : List ℕ) (n : ℕ) → word_number text ≡ Some n → IsNumberText text n
unfolding word_number
number-known text n h =
    let p = within-known (2 ^ 64 - 1) (amount_of text) n h in
    let small : n < 2 ^ 64 = omega (arith, p.1) in
    record { small = small; spelled = spelled-by text n small (amount-known text n p.0) }

pub number-only : (text : List ℕ) (n : ℕ) → IsNumberText text n → word_number text ≡ Some n
unfolding word_number
number-only text n is =
    let low : n ≤ 2 ^ 64 - 1 = omega (arith, is.small) in
    within-only (2 ^ 64 - 1) (amount_of text) n (amount-only text n (amount-by text n is.small is.spelled)) low

-- no byte of a number is below the digits
pub number-high : (text : List ℕ) (n : ℕ) → IsNumberText text n → list_all (λ b. leb 48 b) text ≡ true
number-high text n is = amount-high text n (amount-by text n is.small is.spelled)
