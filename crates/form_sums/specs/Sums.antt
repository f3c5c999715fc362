-- Weighted sums of the forms of nodes, and what is left of one whose atoms cancel.
use Rattle.std.specs.Prelude.{◌≡◌, ℕ, ◌+◌, ◌*◌, ◌%◌, ◌^◌, ◌<◌, ◌≤◌, List, [], ◌∷◌, Option, Some, None, length}
use Rattle.std.specs.List.{AllByRecursion}
use Rattle.node_values.specs.declared.node.Node.{Node}
use Rattle.node_values.specs.declared.node.NodeId.{NodeId}
use Rattle.node_values.specs.Sheets.{width_at}
use Rattle.node_forms.specs.Forms.{form_at}
use Rattle.node_forms.specs.Sums.{SameWord}

-- the sum of what f gives to nodes, each times its weight
abbrev pub sum_of : (ℕ → ℕ) → List (ℕ × NodeId) → ℕ
sum_of f [] = 0
sum_of f (t ∷ ts) = t.0 * f t.1.0 + sum_of f ts

-- the coefficient of an atom in a weighted sum of the forms of nodes at w
abbrev pub sum_coefficient : List Node → ℕ → List (ℕ × NodeId) → ℕ → ℕ
sum_coefficient ns w ts atom = sum_of (λ i. (form_at ns w i).coefficient atom) ts

-- and its constant
abbrev pub sum_constant : List Node → ℕ → List (ℕ × NodeId) → ℕ
sum_constant ns w ts = sum_of (λ i. (form_at ns w i).constant) ts

-- the atoms of a weighted sum cancel, modulo 2^w
abbrev pub AtomsCancel : List Node → ℕ → List (ℕ × NodeId) → Type 0
AtomsCancel ns w ts = (atom : ℕ) → SameWord w (sum_coefficient ns w ts atom) 0

-- What is left of a weighted sum: its constant modulo 2^w where its atoms cancel, else nothing.
abbrev pub IsLeft : List Node → ℕ → List (ℕ × NodeId) → Option ℕ → Type 0
IsLeft ns w ts None = AtomsCancel ns w ts → ⊥
IsLeft ns w ts (Some c) = AtomsCancel ns w ts × (c ≡ sum_constant ns w ts % 2 ^ w)

-- nodes of a sheet of w bits or more
abbrev pub AreWide : List Node → ℕ → List (ℕ × NodeId) → Type 0
AreWide ns w ts = AllByRecursion (λ t. (t.1.0 < length ns) × (w ≤ width_at ns t.1.0)) ts
