-- What the code computes that reads trees, and whole certificates.
use Rattle.std.specs.Prelude.{ℕ, zero, suc, List, [], ◌∷◌, length, codes, ℤ, ◌^◌}
use Rattle.duty_claims.specs.declared.duty.Relation.{Relation}
use Rattle.duty_claims.specs.declared.duty.Relation.TheVariants.{Apart, Offset}
use Rattle.product_automaton.specs.declared.product.PEdge.{PEdge}
use Rattle.product_automaton.specs.declared.product.PNode.{PNode}
use Rattle.refutations.specs.declared.step.Step.{Step}
use Rattle.refutations.specs.declared.tree.Tree.{Tree}
use Rattle.refutations.specs.declared.tree.Tree.TheOpen.{Leaf, Split}
use Rattle.refutations.specs.declared.tree.Tree.TheViews.{roll-Tree}
use Rattle.text_codes.specs.Endings.{may_end}
use Rattle.text_codes.specs.Numbers.{settled_at}
use Rattle.text_codes.specs.Readers.{Reading, behind, counted_at, letters_at, made_at, numbered_at, pair_at, then_at, times_at, word_at}
use Rattle.text_codes.specs.declared.numbers.Ending.TheVariants.{By}
use Rattle.certificate_file.specs.declared.certificate.Certificate.{Certificate}
use Rattle.certificate_file.specs.Numbers.{space, newline}
use Rattle.certificate_file.specs.ProductReading.{u32_at, u64_at, lines_at, node_at, edge_at}
use Rattle.certificate_file.specs.StepReading.{integer_at, step_at}

-- a relation
abbrev pub relation_at : List ℕ → Reading Relation
relation_at text =
    letters_at ((97, made_at (λ (u : Unit {0}). Apart) (word_at (codes "part ")))
    ∷ (111, made_at (λ (d : ℤ). Offset d) (behind (codes "ff ") (integer_at 128 127 space))) ∷ []) text

-- what is behind the first letter of a leaf
abbrev pub leaf_at : List ℕ → Reading Tree
leaf_at text = made_at (λ (steps : List Step). roll-Tree (Leaf (record { steps = steps }))) (behind (codes "eaf ") (lines_at step_at)) text

-- the accesses, the relations and the steps of a split
abbrev pub Front : Type 0
Front = ℕ × (ℕ × (List Relation × List Step))

-- what stands before the trees of a split
abbrev pub front_at : List ℕ → Reading Front
front_at text =
    pair_at (u32_at space) (pair_at (u32_at space)
    (pair_at (counted_at (settled_at (2 ^ 64) 1 (may_end (By space))) relation_at) (lines_at step_at))) text

-- what is behind the first letter of a split
abbrev pub split_at : (List ℕ → Reading Tree) → List ℕ → Reading Tree
split_at r text =
    made_at (λ (p : Front × List Tree). roll-Tree (Split p.0.0 p.0.1.0 p.0.1.1.0 (record { steps = p.0.1.1.1 }) p.1))
    (behind (codes "plit ") (then_at front_at (λ front. times_at r (length front.1.1.0)))) text

-- a tree with at most so many splits above any leaf
abbrev pub tree_at : ℕ → List ℕ → Reading Tree
tree_at zero text = letters_at ((108, leaf_at) ∷ []) text
tree_at (suc depth) text = letters_at ((108, leaf_at) ∷ (115, split_at (tree_at depth)) ∷ []) text

-- the nodes of a product behind their count
abbrev pub nodes_at : List ℕ → Reading (List PNode)
nodes_at text = made_at (λ (p : ℕ × List PNode). p.1) (then_at (u64_at newline) (numbered_at node_at 0)) text

-- the trees of all duties
abbrev pub trees_at : List ℕ → Reading (List Tree)
trees_at text = lines_at (tree_at 16) text

-- a certificate
abbrev pub certificate_at : List ℕ → Reading Certificate
certificate_at text =
    made_at (λ (p : List PNode × (List PEdge × (List Tree × Unit {0}))). record { product = record { nodes = p.0; edges = p.1.0 }; trees = p.1.1.0 })
    (behind (codes "align-certificate 1\nnodes ") (pair_at nodes_at (behind (codes "edges ") (pair_at (lines_at edge_at)
    (behind (codes "duties ") (pair_at trees_at (word_at (codes "end\n")))))))) text
