-- What the code computes that reads the lines of a refutation.
use Rattle.std.specs.Prelude.{ℕ, suc, Bool, ◌==◌, ◌^◌, if◌then◌else◌, List, [], ◌∷◌, length, codes, ℤ, pos, negsuc, ◌-◌, ◌+◌}
use Rattle.clauses.specs.declared.clause.Lit.{Lit}
use Rattle.node_values.specs.declared.node.NodeId.{NodeId}
use Rattle.refutations.specs.declared.step.Step.{Step}
use Rattle.refutations.specs.declared.step.Step.TheVariants.{Chain, Equal, Same, Holds, Fails, Both}
use Rattle.text_codes.specs.Endings.{may_end}
use Rattle.text_codes.specs.Numbers.{number_at, signed_at}
use Rattle.text_codes.specs.Readers.{Reading, behind, letters_at, linked_at, made_at, pair_at, then_at, until_at}
use Rattle.text_codes.specs.declared.numbers.Ending.TheVariants.{By, Either}
use Rattle.certificate_file.specs.Numbers.{space, newline}
use Rattle.certificate_file.specs.ProductReading.{u32_at, u64_at, row_at}

-- the number with this sign, true for a negative one
abbrev pub int_of : Bool → ℕ → ℤ
int_of negative n = if negative then negsuc (n - 1) else pos n

-- a signed number down to minus low and up to high
abbrev pub integer_at : ℕ → ℕ → ℕ → List ℕ → Reading ℤ
integer_at low high end text = made_at (λ (v : Bool × (ℕ × ℕ)). int_of v.0 v.1.0) (signed_at (low + 1) (high + 1) (may_end (By end))) text

-- a literal, or 0
abbrev pub lit_at : List ℕ → Reading Lit
lit_at text = made_at (λ (v : Bool × (ℕ × ℕ)). record { var = v.1.0; neg = v.0 }) (signed_at (2 ^ 32) (2 ^ 32) (may_end (By space))) text

-- literals up to the 0 that ends them
abbrev pub lits_at : List ℕ → Reading (List Lit)
lits_at text = until_at (λ (l : Lit). l.var == 0) lit_at (suc (length text)) text

-- a clause's number, and the byte that ends it
abbrev pub clause_at : List ℕ → Reading (ℕ × ℕ)
clause_at text = number_at (2 ^ 32) 0 (may_end Either) text

-- a pivot and a clause, and the byte that ends them
abbrev pub pair_of_at : List ℕ → Reading ((ℕ × ℕ) × ℕ)
pair_of_at text = made_at (λ (p : ℕ × (ℕ × ℕ)). ((p.0, p.1.0), p.1.1)) (pair_at (u32_at space) clause_at) text

-- the clauses of a chain
abbrev pub clauses_at : List ℕ → Reading ((ℕ × ℕ) × List (ℕ × ℕ))
clauses_at text = then_at clause_at (λ first rest. linked_at pair_of_at (suc (length rest)) first.1 rest) text

-- a chain of resolvents
abbrev pub chain_at : List ℕ → Reading Step
chain_at text =
    made_at (λ (p : List Lit × ((ℕ × ℕ) × List (ℕ × ℕ))). Chain p.0 p.1.0.0 p.1.1) (behind (codes " ") (pair_at lits_at clauses_at)) text

-- a node's number
abbrev pub node_id_at : List ℕ → Reading NodeId
node_id_at text = made_at (λ (n : ℕ). record { 0 = n }) (u32_at space) text

-- a coefficient and the name of an equation
abbrev pub part_at : ℕ → List ℕ → Reading (ℕ × ℤ)
part_at end text = pair_at (u64_at space) (integer_at (2 ^ 63) (2 ^ 63 - 1) end) text

-- the parts of a combination
abbrev pub parts_at : List ℕ → Reading (List (ℕ × ℤ))
parts_at text = row_at part_at text

-- a step that two nodes are equal
abbrev pub equal_at : List ℕ → Reading Step
equal_at text =
    made_at (λ (p : NodeId × (NodeId × List (ℕ × ℤ))). Equal p.0 p.1.0 p.1.1) (behind (codes " ") (pair_at node_id_at (pair_at node_id_at parts_at))) text

-- a step that two nodes have one operator and equal arguments
abbrev pub same_at : List ℕ → Reading Step
same_at text =
    made_at (λ (p : NodeId × (NodeId × ℕ)). Same p.0 p.1.0 p.1.1) (behind (codes " ") (pair_at node_id_at (pair_at node_id_at (u32_at newline)))) text

-- a step that an equality holds
abbrev pub holds_at : List ℕ → Reading Step
holds_at text = made_at (λ (p : NodeId × List (ℕ × ℤ)). Holds p.0 p.1) (behind (codes " ") (pair_at node_id_at parts_at)) text

-- a step that an equality does not hold
abbrev pub fails_at : List ℕ → Reading Step
fails_at text = made_at (λ (p : NodeId × List (ℕ × ℤ)). Fails p.0 p.1) (behind (codes " ") (pair_at node_id_at parts_at)) text

-- a step that two equalities hold together
abbrev pub both_at : List ℕ → Reading Step
both_at text =
    made_at (λ (p : NodeId × (NodeId × (ℕ × List (ℕ × ℤ)))). Both p.0 p.1.0 p.1.1.0 p.1.1.1)
    (behind (codes " ") (pair_at node_id_at (pair_at node_id_at (pair_at (u64_at space) parts_at)))) text

-- a step
abbrev pub step_at : List ℕ → Reading Step
step_at text =
    letters_at ((114, chain_at) ∷ (101, equal_at) ∷ (103, same_at) ∷ (116, holds_at) ∷ (110, fails_at) ∷ (113, both_at) ∷ []) text
