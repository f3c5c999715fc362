-- Combinations of equations, as weighted sums of nodes.
use Rattle.std.specs.Prelude.{◌≡◌, ℕ, ◌-◌, ◌*◌, ◌%◌, ◌^◌, List, [], ◌∷◌, ◌++◌, Option, Some, None, ℤ, nat_lt, if◌then◌else◌}
use Rattle.std.specs.Option.{option_and_then, option_map}
use Rattle.node_values.specs.declared.node.NodeId.{NodeId}
use Rattle.node_values.specs.Sheets.{width_at}
use Rattle.form_sums.specs.Sums.{IsLeft}
use Rattle.refutation_rules.specs.declared.equation.Equation.{Equation}
use Rattle.refutation_rules.specs.Known.{Known, Ground, equation_named}

-- the weight c with the other sign, modulo 2^64
abbrev pub less : ℕ → ℕ
less c = c * (2 ^ 64 - 1) % 2 ^ 64

-- c times the difference of an equation's nodes
abbrev pub multiple : ℕ → Equation → List (ℕ × NodeId)
multiple c p = (c, p.left) ∷ (less c, p.right) ∷ []

-- c times the difference, taken away
abbrev pub multiple_less : ℕ → Equation → List (ℕ × NodeId)
multiple_less c p = (less c, p.left) ∷ (c, p.right) ∷ []

-- the differences of equations, each so many times, taken away
abbrev pub all_less : List (ℕ × Equation) → List (ℕ × NodeId)
all_less [] = []
all_less (t ∷ ts) = multiple_less t.0 t.1 ++ all_less ts

-- an equation of w bits or more
abbrev pub if_wide : Ground → ℕ → Equation → Option Equation
if_wide s w p = if nat_lt (width_at s.nodes p.left.0) w then None else Some p

-- an equation behind others, with its coefficient
abbrev pub in_front : ℕ → Option (List (ℕ × Equation)) → Equation → Option (List (ℕ × Equation))
in_front c rest p = option_map (λ ts. (c, p) ∷ ts) rest

-- The equations that a combination at w names, with their coefficients. None where a name names none, or one of less
-- than w bits.
abbrev pub combined : Ground → Known → ℕ → List (ℕ × ℤ) → Option (List (ℕ × Equation))
combined s k w [] = Some []
combined s k w (part ∷ parts) =
    option_and_then (in_front part.0 (combined s k w parts)) (option_and_then (if_wide s w) (equation_named s k part.1))

-- What is left of a weighted sum of forms at w when a combination is taken away: their atoms cancel, and c is the
-- constant, modulo 2^w.
pub record IsRest (s : Ground) (k : Known) (w : ℕ) (sum : List (ℕ × NodeId)) (parts : List (ℕ × ℤ)) (c : ℕ) : Type 0 where
  pub equations : List (ℕ × Equation)
  pub named : combined s k w parts ≡ Some equations
  pub left : IsLeft s.nodes w (sum ++ all_less equations) (Some c)
