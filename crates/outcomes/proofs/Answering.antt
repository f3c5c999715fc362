-- What follows from an answer that may be that memory was not found.
use Rattle.std.proofs.Common.{◌≡◌, ◌⊎◌, inl, inr}

-- what follows unless memory was not found
pub unless-map : {M P Q : Type 0} → (P → Q) → M ⊎ P → M ⊎ Q
unless-map f (inl none) = inl none
unless-map f (inr is) = inr (f is)

-- what is so where memory was found
pub unless-found : {M P : Type 0} → M ⊎ P → (M → ⊥) → P
unless-found (inl none) found = absurd (found none)
unless-found (inr is) found = is
