-- What an expression builds depends only on the leaves that it names.
use Rattle.std.proofs.Common.{◌≡◌, ℕ, ◌==◌, List, ◌++◌, refl, ap, ◌∙◌}
use Rattle.std.specs.Prelude.{filter, not}
use Rattle.std.specs.List.{AllByRecursion}
use Rattle.insn_semantics.specs.Exprs.{Expr, Leaf, Number, Two, Not, Shifted, Joined, Cut, Extended, Choice, Let, leaves_of}
use Rattle.node_values.specs.declared.node.Node.{Node}
use Rattle.node_values.specs.declared.node.Node.TheVariants as nodes
use Rattle.node_values.specs.declared.node.NodeId.{NodeId}
use Rattle.terms.specs.Building.{built, operator_node, shift_node, with_node_leaf}
use Rattle.terms.specs.Made.{Made, made}
use Rattle.sym_rows.proofs.LeafValues.{behind, front, named_agree}

-- by induction over the expression
pub built_agree : (ns : List Node) (f g : ℕ → NodeId) (x : Expr) → AllByRecursion (λ i. f i ≡ g i) (leaves_of x) → built ns f x ≡ built ns g x
unfolding built
built_agree ns f g (Leaf i) h = ap (λ (id : NodeId). record { nodes = ns; id = id }) h.0
built_agree ns f g (Number w v) h = refl
built_agree ns f g (Two operator w x y) h =
    let P : ℕ → Type 0 = λ i. f i ≡ g i in
    let X = built_agree ns f g x (front P (leaves_of x) (leaves_of y) h) in
    let a : Made = built ns f x in
    let Y = built_agree a.nodes f g y (behind P (leaves_of x) (leaves_of y) h) in
    ap (λ (b : Made). made b.nodes (operator_node operator a.id b.id)) Y
    ∙ ap (λ (c : Made). (let b : Made = built c.nodes g y in made b.nodes (operator_node operator c.id b.id))) X
built_agree ns f g (Not w x) h = ap (λ (a : Made). made a.nodes (nodes.Not a.id)) (built_agree ns f g x h)
built_agree ns f g (Shifted shift w x k) h = ap (λ (a : Made). made a.nodes (shift_node shift a.id k)) (built_agree ns f g x h)
built_agree ns f g (Joined n x y) h =
    let P : ℕ → Type 0 = λ i. f i ≡ g i in
    let X = built_agree ns f g x (front P (leaves_of x) (leaves_of y) h) in
    let a : Made = built ns f x in
    let Y = built_agree a.nodes f g y (behind P (leaves_of x) (leaves_of y) h) in
    ap (λ (b : Made). made b.nodes (nodes.Cat a.id b.id)) Y
    ∙ ap (λ (c : Made). (let b : Made = built c.nodes g y in made b.nodes (nodes.Cat c.id b.id))) X
built_agree ns f g (Cut x k n) h = ap (λ (a : Made). made a.nodes (nodes.Cut a.id k n)) (built_agree ns f g x h)
built_agree ns f g (Extended m n x) h = ap (λ (a : Made). made a.nodes (nodes.Sx n a.id)) (built_agree ns f g x h)
built_agree ns f g (Choice c x y) h =
    let P : ℕ → Type 0 = λ i. f i ≡ g i in
    let both : AllByRecursion (λ i. f i ≡ g i) (leaves_of c ++ leaves_of x) = front P (leaves_of c ++ leaves_of x) (leaves_of y) h in
    let C = built_agree ns f g c (front P (leaves_of c) (leaves_of x) both) in
    let t : Made = built ns f c in
    let X = built_agree t.nodes f g x (behind P (leaves_of c) (leaves_of x) both) in
    let a : Made = built t.nodes f x in
    let Y = built_agree a.nodes f g y (behind P (leaves_of c ++ leaves_of x) (leaves_of y) h) in
    ap (λ (b : Made). made b.nodes (nodes.If t.id a.id b.id)) Y
    ∙ ap (λ (d : Made). (let b : Made = built d.nodes g y in made b.nodes (nodes.If t.id d.id b.id))) X
    ∙ ap (λ (s : Made). (let d : Made = built s.nodes g x in let b : Made = built d.nodes g y in made b.nodes (nodes.If s.id d.id b.id))) C
built_agree ns f g (Let i x y) h =
    let P : ℕ → Type 0 = λ i. f i ≡ g i in
    let rest : List ℕ = filter (λ j. not (j == i)) (leaves_of y) in
    let X = built_agree ns f g x (front P (leaves_of x) rest h) in
    let a : Made = built ns f x in
    built_agree a.nodes (with_node_leaf f i a.id) (with_node_leaf g i a.id) y
    (named_agree f g i a.id a.id refl (leaves_of y) (behind P (leaves_of x) rest h))
    ∙ ap (λ (c : Made). built c.nodes (with_node_leaf g i c.id) y) X
