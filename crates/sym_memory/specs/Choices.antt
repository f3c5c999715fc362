-- Choices that are still to be built: a test and the byte where it holds, the newest first.
use Rattle.std.specs.Prelude.{List, [], ◌∷◌}
use Rattle.std.specs.List.{AllByRecursion}
use Rattle.node_values.specs.declared.node.Node.{Node}
use Rattle.node_values.specs.declared.node.Node.TheVariants.{If}
use Rattle.node_values.specs.declared.node.NodeId.{NodeId}
use Rattle.terms.specs.Made.{Made, made}
use Rattle.address_nodes.specs.Multiples.{IsOfWidth}

-- the choices around what is built, the last one first
abbrev pub with_choices : List (NodeId × NodeId) → Made → Made
with_choices [] m = m
with_choices (c ∷ cs) m = let rest = with_choices cs m in made rest.nodes (If c.0 c.1 rest.id)

-- tests of one bit, and bytes
abbrev pub AreChoices : List Node → List (NodeId × NodeId) → Type 0
AreChoices ns = AllByRecursion (λ c. IsOfWidth ns 1 c.0 × IsOfWidth ns 8 c.1)
