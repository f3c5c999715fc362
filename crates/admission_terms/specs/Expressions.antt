-- The terms of an admission's expressions as nodes over the entry registers.
use Rattle.std.specs.Prelude.{ℕ, ◌%◌, ◌^◌, Bool, List, Option, Some, None, if◌then◌else◌}
use Rattle.insn_semantics.specs.Words.{minus, plus, times}
use Rattle.node_values.specs.declared.node.Node.{Node}
use Rattle.node_values.specs.declared.node.Node.TheVariants.{Const, Entry, Add, Sub}
use Rattle.node_values.specs.declared.node.NodeId.{NodeId}
use Rattle.node_values.specs.Values.{Environment}
use Rattle.terms.specs.Made.{Made, made}
use Rattle.address_nodes.specs.Multiples.{exponent, multiple}
use Rattle.admission.specs.declared.expr.Term.{Term}

-- the sheet with the number of a product, which stands before what it multiplies; a power of two needs none
abbrev pub with_factor : List Node → ℕ → Option ℕ → List Node
with_factor ns q (Some k) = ns
with_factor ns q None = (made ns (Const 64 q)).nodes

-- q times the entry value of general register n
abbrev pub multiple_of_register : List Node → ℕ → ℕ → Made
multiple_of_register ns q n =
    let register = made (with_factor ns q (exponent 64 q)) (Entry n) in multiple register.nodes 64 q register.id

-- the number of a term, times its register where it names one
abbrev pub multiple_of : List Node → ℕ → Option ℕ → Made
multiple_of ns q None = made ns (Const 64 q)
multiple_of ns q (Some n) = multiple_of_register ns q n

-- its value in an environment
abbrev pub multiple_value : Environment → ℕ → Option ℕ → ℕ
multiple_value e q None = q
multiple_value e q (Some n) = times 64 q (e.entry n % 2 ^ 64)

-- the node of a sum, or of a difference
abbrev pub join : Bool → NodeId → NodeId → Node
join subtracts a b = if subtracts then Sub a b else Add a b

-- a sum of 64 bits, or a difference
abbrev pub joined : Bool → ℕ → ℕ → ℕ
joined subtracts a b = if subtracts then minus 64 a b else plus 64 a b

-- a sum and one more term, added or subtracted
abbrev pub with_term : List Node → NodeId → Term → Made
with_term ns sum t = let term = multiple_of ns t.c t.reg in made term.nodes (join t.minus sum term.id)

-- a sum's value and one more term, added or subtracted
abbrev pub value_with : Environment → ℕ → Term → ℕ
value_with e v t = joined t.minus v (multiple_value e t.c t.reg)
