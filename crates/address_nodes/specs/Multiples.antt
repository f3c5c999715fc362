-- A node times a number, and sums of such multiples, as they are built into a sheet of 64-bit words.
use Rattle.std.specs.Prelude.{◌≡◌, ℕ, zero, suc, ◌-◌, ◌^◌, ◌<◌, ◌==◌, Bool, List, [], ◌∷◌, Option, Some, None, length, nat_le, if◌then◌else◌}
use Rattle.std.specs.List.{AllByRecursion}
use Rattle.node_values.specs.declared.node.Node.{Node}
use Rattle.node_values.specs.declared.node.Node.TheVariants.{Const, Add, Sub, Mul, Shl}
use Rattle.node_values.specs.declared.node.NodeId.{NodeId}
use Rattle.node_values.specs.Sheets.{Extends, IsSheet, value_at, width_at}
use Rattle.node_values.specs.Values.{Environment}
use Rattle.terms.specs.Made.{Made, made}

-- a node of w bits
abbrev pub IsOfWidth : List Node → ℕ → NodeId → Type 0
IsOfWidth ns w a = (a.0 < length ns) × (width_at ns a.0 ≡ w)

-- an address: a node of 64 bits
abbrev pub IsAddress : List Node → NodeId → Type 0
IsAddress ns a = IsOfWidth ns 64 a

-- what is built over a sheet: older nodes stay, it is a sheet, and the node has w bits and this value
pub record IsBuiltWord (ns : List Node) (w : ℕ) (V : Environment → ℕ) (m : Made) : Type 0 where
  pub extends : Extends ns m.nodes
  pub sheet : IsSheet m.nodes
  pub inside : m.id.0 < length m.nodes
  pub width : width_at m.nodes m.id.0 ≡ w
  pub value : (e : Environment) → value_at e m.nodes m.id.0 ≡ V e

-- the exponent of a power of two below 2^n
unfoldable pub exponent : ℕ → ℕ → Option ℕ
exponent zero q = None
exponent (suc n) q = if q == 2 ^ n then Some n else exponent n q

-- q times a node of w bits, where q is the power of two with this exponent, or none: 1 times it is the node, a power of
-- two a shift to the left, and another multiple a product, whose number is built first
abbrev pub multiple_by : List Node → ℕ → ℕ → NodeId → Option ℕ → Made
multiple_by ns w q a (Some k) = if k == 0 then record { nodes = ns; id = a } else made ns (Shl a k)
multiple_by ns w q a None = let number = made ns (Const w q) in made number.nodes (Mul number.id a)

-- q times a node of w bits
unfoldable pub multiple : List Node → ℕ → ℕ → NodeId → Made
multiple ns w q a = multiple_by ns w q a (exponent 64 q)

-- a term of a sum: an atom and its coefficient
abbrev pub Term : Type 0
Term = NodeId × ℕ

-- terms over addresses, with coefficients of 64 bits
abbrev pub AreTerms : List Node → List Term → Type 0
AreTerms ns = AllByRecursion (λ p. IsAddress ns p.0 × (p.1 < 2 ^ 64))

-- a sum so far is an address, where there is a term
abbrev pub IsSumSoFar : List Node → Option NodeId → Type 0
IsSumSoFar ns None = Unit {0}
IsSumSoFar ns (Some sum) = IsAddress ns sum

-- a sheet, and the node of the sum so far, where there is a term
pub record Sum : Type 0 where
  pub nodes : List Node
  pub node : Option NodeId

-- the sum is this node
abbrev pub summed : Made → Sum
summed m = record { nodes = m.nodes; node = Some m.id }

-- a term is added where its coefficient is at most 2^63, else what is missing from 2^64 is subtracted
abbrev pub is_added : Term → Bool
is_added p = nat_le p.1 (2 ^ 63)

-- the sum and one more term
abbrev pub plus_term : List Node → Option NodeId → Term → Made
plus_term ns None p = multiple ns 64 p.1 p.0
plus_term ns (Some sum) p = let term = multiple ns 64 p.1 p.0 in made term.nodes (Add sum term.id)

-- the sum, which is 0 where there is no term
abbrev pub begun : List Node → Option NodeId → Made
begun ns None = made ns (Const 64 0)
begun ns (Some sum) = record { nodes = ns; id = sum }

-- the sum less a term
abbrev pub minus_term : List Node → Option NodeId → Term → Made
minus_term ns sum p =
    let first = begun ns sum in
    let term = multiple first.nodes 64 (2 ^ 64 - p.1) p.0 in
    made term.nodes (Sub first.id term.id)

-- the sum of the terms that are added, the last of the list first
unfoldable pub added : List Node → List Term → Sum
added ns [] = record { nodes = ns; node = None }
added ns (p ∷ ps) = let before = added ns ps in if is_added p then summed (plus_term before.nodes before.node p) else before

-- a sum less the terms that are subtracted, the last of the list first
unfoldable pub subtracted : Sum → List Term → Sum
subtracted s [] = s
subtracted s (p ∷ ps) =
    let before = subtracted s ps in if is_added p then before else summed (minus_term before.nodes before.node p)

-- the sum of terms that stand by falling numbers: those that are added by rising number, then those that are
-- subtracted
abbrev pub sum_of : List Node → List Term → Sum
sum_of ns ps = subtracted (added ns ps) ps
