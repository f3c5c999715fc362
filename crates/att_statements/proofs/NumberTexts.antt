-- What the code reads of numbers with their signs, against what these are.
use Rattle.std.proofs.Common.{◌≡◌, ℕ, ◌^◌, inl, inr, min, Bool, true, false, List, ◌∷◌, get_or, Option, Some, None, refl, sym, ap, ◌∙◌, subst, arith}
use Rattle.text_parts.specs.Cuts.{after_byte}
use Rattle.text_parts.specs.Numbers.{IsAmount, amount_of, capped}
use Rattle.text_parts.proofs.NumberTexts.{amount-known, amount-only, first_digit}
use Rattle.text_parts.proofs.Options.{after_byte-known, map_some, never-some}
use Rattle.att_statements.specs.Operands.{IsNumber}
use Rattle.att_statements.specs.ReadingOperands.{number_of, signed_by}

-- equal texts begin alike
pub heads : (a b : ℕ) (xs ys : List ℕ) → a ∷ xs ≡ b ∷ ys → a ≡ b
heads a b xs ys e = ap (λ (zs : List ℕ). get_or zs 0 0) e

no_minus : (text rest : List ℕ) (n : ℕ) → text ≡ 45 ∷ rest → IsAmount text n → ⊥
no_minus text rest n is (inl d) = absurd (omega (arith, first_digit 10 45 rest text is d.digits.1))
no_minus text rest n is (inr d) = absurd (omega (arith, heads 45 48 rest (120 ∷ d.behind) (sym is ∙ d.spelled)))

-- an amount that is read, up to the cap
kept-amount : (text : List ℕ) (m : ℕ) → capped (amount_of text) ≡ Some m → (n : ℕ) × IsAmount text n × (m ≡ min n (2 ^ 64))
kept-amount text m h =
    let p = map_some (amount_of text) (λ (n : ℕ). min n (2 ^ 64)) m h in
    (p.0, amount-known text p.0 p.1, sym p.2)

signed-known : (r : Option (List ℕ)) (text : List ℕ) (found : Bool × ℕ) → after_byte 45 text ≡ r → signed_by r text ≡ Some found
    → (n : ℕ) × IsNumber text found.0 n × (found.1 ≡ min n (2 ^ 64))
signed-known None text found is h =
    let p = map_some (capped (amount_of text)) (λ (n : ℕ). (false, n)) found h in
    let read = kept-amount text p.0 p.1 in
    subst (λ (x : Bool × ℕ). (n : ℕ) × IsNumber text x.0 n × (x.1 ≡ min n (2 ^ 64))) p.2 (read.0, read.1, read.2)
signed-known (Some amount) text found is h =
    let p = map_some (capped (amount_of amount)) (λ (n : ℕ). (true, n)) found h in
    let read = kept-amount amount p.0 p.1 in
    let spelled = after_byte-known 45 text amount is in
    subst (λ (x : Bool × ℕ). (n : ℕ) × IsNumber text x.0 n × (x.1 ≡ min n (2 ^ 64))) p.2 (read.0, (amount, spelled, read.1), read.2)

-- a number that is read is written there
pub signed_number-known : (text : List ℕ) (found : Bool × ℕ) → number_of text ≡ Some found → (n : ℕ) × IsNumber text found.0 n × (found.1 ≡ min n (2 ^ 64))
unfolding number_of
signed_number-known text found h = signed-known (after_byte 45 text) text found refl h

-- a number that is written is read
pub signed_number-only : (text : List ℕ) (negative : Bool) (n : ℕ) → IsNumber text negative n → number_of text ≡ Some (negative, min n (2 ^ 64))
unfolding number_of after_byte
signed_number-only text false n a =
    let none = never-some (after_byte 45 text) (λ rest h. no_minus text rest n (after_byte-known 45 text rest h) a) in
    let some = amount-only text n a in
    rw (none, some) refl
signed_number-only text true n (amount, is, a) = let some = amount-only amount n a in rw (is, some) refl
