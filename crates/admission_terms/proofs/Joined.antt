-- Equal sums and differences.
use Rattle.std.proofs.Common.{◌≡◌, ℕ, Bool, ap, ◌∙◌}
use Rattle.admission_terms.specs.Expressions.{joined}

pub joined_alike : (subtracts : Bool) (a x b y : ℕ) → a ≡ x → b ≡ y → joined subtracts a b ≡ joined subtracts x y
joined_alike subtracts a x b y p q = ap (λ v. joined subtracts v b) p ∙ ap (λ v. joined subtracts x v) q
