-- Items that are read one after another, each judged on those before it, and the first fault among them.
use Rattle.std.specs.Prelude.{◌≡◌, ◌⊎◌, ℕ, ◌<◌, ◌≤◌, List, [], ◌∷◌, ◌++◌, Result, Ok, Err}

infixl 10 ◌>>=◌
-- the next reading, where there is no error
abbrev pub ◌>>=◌ : {A B E : Type 0} → Result A E → (A → Result B E) → Result B E
(Ok x) >>= f = f x
(Err e) >>= f = Err e

-- all items, where one reads by r behind those before it
unfoldable pub all_of : {X V E : Type 0} → (List X → X → Result (List V) E) → List X → List X → Result (List V) E
all_of r before [] = Ok []
all_of r before (i ∷ is) = r before i >>= λ found. (all_of r (before ++ i ∷ []) is >>= λ rest. Ok (found ++ rest))

-- at a place of the items something is wrong, by F of those before it and the item there; prefix stands before all
pub record HasFault {X E : Type 0} (F : List X → X → E → Type 0) (prefix items : List X) (e : E) : Type 0 where
  pub before : List X
  pub item : X
  pub after : List X
  pub there : items ≡ before ++ item ∷ after
  pub wrong : F (prefix ++ before) item e

-- a fault that goes before every fault
pub record IsFirst {X E : Type 0} (F : List X → X → E → Type 0) (GoesBefore : E → E → Type 0)
    (prefix items : List X) (e : E) : Type 0 where
  pub has : HasFault F prefix items e
  pub least : (other : E) → HasFault F prefix items other → GoesBefore e other

-- the order of faults: at a lesser place, or at the same place and of a rank that is no greater
abbrev pub Precedes : {E : Type 0} → (E → ℕ) → (E → ℕ) → E → E → Type 0
Precedes place rank e other = (place e < place other) ⊎ ((place e ≡ place other) × (rank e ≤ rank other))
