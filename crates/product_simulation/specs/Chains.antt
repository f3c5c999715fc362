-- Chains of functions, each equivalent to the next, over states and functions of any kind.
use Rattle.std.specs.Prelude.{ℕ, List, [], ◌∷◌, map}
use Rattle.runs.specs.Equivalent.{AreEquivalent}
use Rattle.runs.specs.Run.{Step}

-- the next function of a chain, and the bound of its equivalence with the one before it
pub record Link (F : Type 0) : Type 0 where
  pub bound : ℕ
  pub next : F

-- the bounds of the links
abbrev pub bounds_of : {F : Type 0} → List (Link F) → List ℕ
bounds_of links = map (λ link. link.bound) links

-- the last function of the chain that begins with f
abbrev pub last_of : {F : Type 0} → F → List (Link F) → F
last_of f [] = f
last_of f (link ∷ links) = last_of link.next links

-- Each function of the chain that begins with f is equivalent to the next, within the bound of their link.
abbrev pub AreLinked : {S F : Type 0} → (S → Type 0) → (S → S → Type 0) → (F → S → Step S) → F → List (Link F) → Type 0
AreLinked starts same step f [] = Unit {0}
AreLinked starts same step f (link ∷ links) =
    AreEquivalent starts same link.bound (step f) (step link.next) × AreLinked starts same step link.next links
