-- Numbers as texts.
use Rattle.std.proofs.Common.{◌≡◌, ℕ, ◌^◌, ◌<◌, ◌≤◌, List, Some, sym, subst, arith}
use Rattle.text_parts.specs.Numbers.{IsDecimal, decimal_of, within}
use Rattle.text_parts.proofs.NumberTexts.{decimal-known, decimal-only, within-known, within-only}
use Rattle.text_parts.proofs.Printed.{decimal-is, decimal-one}
use Rattle.command_line.specs.Command.{IsNumberWithin}

-- what is read as a number within the bounds is the text of it
pub number-read : (low high n : ℕ) (text : List ℕ) → high < 1000000000 → low ≤ n → Some n ≡ within high (decimal_of text) → IsNumberWithin low high text n
number-read low high n text short least read =
    let p = within-known high (decimal_of text) n (sym read) in
    let most : n ≤ high = p.1 in
    let small : n < 2 ^ 64 = omega arith in
    record { digits = decimal-one text n small (decimal-known text n p.0); few = omega arith; least = least; most = most }

-- the text of a number within the bounds is read as it
pub number-written : (low high n : ℕ) (text : List ℕ) → IsNumberWithin low high text n → within high (decimal_of text) ≡ Some n
number-written low high n text is =
    let few = is.few in
    let small : n < 2 ^ 64 = omega arith in
    let decimal_text : IsDecimal text n = subst (λ (t : List ℕ). IsDecimal t n) (sym is.digits) (decimal-is n small) in
    within-only high (decimal_of text) n (decimal-only text n decimal_text) is.most
