-- The rules of a product over two flow graphs, and the first breach of them.
use Rattle.std.specs.Prelude.{◌≡◌, ◌≢◌, ℕ, zero, suc, ◌+◌, ◌*◌, ◌^◌, ◌<◌, ◌≤◌, All, Contains, List, [], ◌∷◌, length, IfSome, slice_get}
use Rattle.first_breaches.specs.Breaches.{IsFirstBreach, Place}
use Rattle.flow_graph.specs.declared.control.Flow.{Flow}
use Rattle.product_automaton.specs.declared.product.Atom.{Atom}
use Rattle.product_automaton.specs.declared.product.Atom.TheVariants.{Reg, Entry, Lane}
use Rattle.product_automaton.specs.declared.product.Bound1.{Bound1}
use Rattle.product_automaton.specs.declared.product.Bound1.TheVariants.{Of, Num}
use Rattle.product_automaton.specs.declared.product.Invariant.{Invariant}
use Rattle.product_automaton.specs.declared.product.Invariant.TheVariants.{Lin, Less}
use Rattle.product_automaton.specs.declared.product.PEdge.{PEdge}
use Rattle.product_automaton.specs.declared.product.PNode.{PNode}
use Rattle.product_automaton.specs.declared.product.Product.{Product}
use Rattle.product_automaton.specs.declared.rules.Breach.{Breach}
use Rattle.product_automaton.specs.declared.rules.Rule.{Rule}
use Rattle.product_automaton.specs.declared.rules.Rule.TheVariants.{Sizes, Places, Paths, Falls, Ranks, Invariants}
use Rattle.product_automaton.specs.Places.{LeadsBetween, left_next, left_place, right_next, right_place}
use Rattle.product_automaton.specs.Ranks.{HasLowRanks, left_rank, right_rank}

-- there are two to 64 nodes and at most 256 edges
pub record HasCounts (p : Product) : Type 0 where
  pub two : 2 ≤ length p.nodes
  pub nodes : length p.nodes ≤ 64
  pub edges : length p.edges ≤ 256

-- both paths have at most 512 places
pub record HasShortPaths (e : PEdge) : Type 0 where
  pub left : length e.left ≤ 512
  pub right : length e.right ≤ 512

-- The first rule, at a number: at 0 the counts, and at each number the invariants of that node, at most 512, and the paths of
-- that edge.
pub record KeepsSizes (p : Product) (number : ℕ) : Type 0 where
  pub counts : number ≡ 0 → HasCounts p
  pub invs : IfSome (slice_get p.nodes number) (λ node. length node.invs ≤ 512)
  pub paths : IfSome (slice_get p.edges number) HasShortPaths

-- the node has no invariant, and 0 for its places
pub record IsBlank (node : PNode) : Type 0 where
  pub left : node.left ≡ 0
  pub right : node.right ≡ 0
  pub invs : node.invs ≡ []

-- the node's places are instructions
pub record StandsInside (left right : List Flow) (node : PNode) : Type 0 where
  pub in_left : node.left < length left
  pub in_right : node.right < length right

-- the second rule, at a node: the entry and the exit are blank, and the places of each other node are instructions
pub record KeepsPlaces (left right : List Flow) (number : ℕ) (node : PNode) : Type 0 where
  pub ends : number < 2 → IsBlank node
  pub others : 2 ≤ number → StandsInside left right node

-- the edge leads from a node but the exit to a node but the entry
pub record JoinsNodes (nodes : List PNode) (e : PEdge) : Type 0 where
  pub source : e.from < length nodes
  pub target : e.to < length nodes
  pub to : e.to ≢ 0
  pub from : e.from ≢ 1

-- the edge's left path leads from the left place of its source to that of its target, or to a return where that is the exit
abbrev pub LeadsLeft : List PNode → List Flow → PEdge → Type 0
LeadsLeft nodes flows e = LeadsBetween flows e.left (left_place nodes e.from) (left_next nodes e.to)

-- the edge's right path leads from the right place of its source to that of its target, or to a return where that is the exit
abbrev pub LeadsRight : List PNode → List Flow → PEdge → Type 0
LeadsRight nodes flows e = LeadsBetween flows e.right (right_place nodes e.from) (right_next nodes e.to)

-- the third rule, at a side of an edge: at the left one, 0, the nodes and the left path, and at the right one, 1, the right path
abbrev pub KeepsPaths : List PNode → (left right : List Flow) → (side : ℕ) → PEdge → Type 0
KeepsPaths nodes left right zero e = JoinsNodes nodes e × LeadsLeft nodes left e
KeepsPaths nodes left right (suc k) e = LeadsRight nodes right e

-- the fourth rule, at an edge: an empty path lowers the rank of its side
pub record KeepsFalls (nodes : List PNode) (e : PEdge) : Type 0 where
  pub left : e.left ≡ [] → left_rank nodes e.to < left_rank nodes e.from
  pub right : e.right ≡ [] → right_rank nodes e.to < right_rank nodes e.from

-- the registers are those of the machine, and a lane of the invariant's width lies inside its vector
abbrev pub AtomFits : (width : ℕ) → Atom → Type 0
AtomFits width (Reg side register) = register < 16
AtomFits width (Entry register) = register < 16
AtomFits width (Lane side vector lane) =
    (vector < 16) × Contains (8 ∷ 16 ∷ 32 ∷ 64 ∷ []) width × ((lane + 1) * width ≤ 256)

-- the atom fits, or the number is below 2^width
abbrev pub BoundFits : (width : ℕ) → Bound1 → Type 0
BoundFits width (Of atom) = AtomFits width atom
BoundFits width (Num number) = number < 2 ^ width

-- the coefficient is below 2^width, and the atom fits
pub record TermFits (width : ℕ) (term : ℕ × Atom) : Type 0 where
  pub coefficient : term.0 < 2 ^ width
  pub atom : AtomFits width term.1

-- the width of an invariant is 1 to 64
pub record IsInvariantWidth (width : ℕ) : Type 0 where
  pub some : 1 ≤ width
  pub most : width ≤ 64

-- an equation's width is good, and it has at most 33 terms, which fit, and a constant below 2^width
pub record EquationFits (width : ℕ) (terms : List (ℕ × Atom)) (constant : ℕ) : Type 0 where
  pub good : IsInvariantWidth width
  pub few : length terms ≤ 33
  pub fit : All (TermFits width) terms
  pub below : constant < 2 ^ width

-- a comparison's width is good, and both its sides fit
pub record ComparisonFits (width : ℕ) (a b : Bound1) : Type 0 where
  pub good : IsInvariantWidth width
  pub left : BoundFits width a
  pub right : BoundFits width b

-- the sixth rule, at an invariant of a node
abbrev pub KeepsInvariants : Invariant → Type 0
KeepsInvariants (Lin width terms constant) = EquationFits width terms constant
KeepsInvariants (Less signed strict width a b) = ComparisonFits width a b

-- The rule is kept at this place. The fifth rule, at a node: ranks are below the number of nodes.
abbrev pub Keeps : Product → (left right : List Flow) → Rule → Place → Type 0
Keeps p left right Sizes at = KeepsSizes p at.0
Keeps p left right Places at = IfSome (slice_get p.nodes at.0) (KeepsPlaces left right at.0)
Keeps p left right Paths at = IfSome (slice_get p.edges at.0) (KeepsPaths p.nodes left right at.1)
Keeps p left right Falls at = IfSome (slice_get p.edges at.0) (KeepsFalls p.nodes)
Keeps p left right Ranks at = IfSome (slice_get p.nodes at.0) (HasLowRanks (length p.nodes))
Keeps p left right Invariants at =
    IfSome (slice_get p.nodes at.0) (λ node. IfSome (slice_get node.invs at.1) KeepsInvariants)

-- the product meets the rules over these flow graphs: each is kept at every place
abbrev pub MeetsRules : Product → (left right : List Flow) → Type 0
MeetsRules p left right = (rule : Rule) (at : Place) → Keeps p left right rule at

-- the number of a rule
abbrev pub number_of : Rule → ℕ
number_of Sizes = 1
number_of Places = 2
number_of Paths = 3
number_of Falls = 4
number_of Ranks = 5
number_of Invariants = 6

-- the rules after that on sizes, in the order in which they are tried
abbrev pub later_rules : List Rule
later_rules = Places ∷ Paths ∷ Falls ∷ Ranks ∷ Invariants ∷ []

-- the rules in the order in which they are tried
abbrev pub rule_order : List Rule
rule_order = Sizes ∷ later_rules

-- the first breach of these rules in order
pub record IsBreachAmong (rules : List Rule) (p : Product) (left right : List Flow) (breach : Breach) : Type 0 where
  pub rule : Rule
  pub number : breach.rule ≡ number_of rule
  pub first : IsFirstBreach rules (Keeps p left right) rule breach.place

-- the first breach of the rules
abbrev pub IsProductBreach : Product → (left right : List Flow) → Breach → Type 0
IsProductBreach p left right breach = IsBreachAmong rule_order p left right breach
