-- From a product's edges to the moves of two runs, on either side.
use Rattle.std.proofs.Common.{◌≡◌, ◌≢◌, ℕ, zero, suc, ◌==◌, ◌<◌, ◌≤◌, max, inl, inr, All, Bool, Contains, get_or, slice_index_or, true, false, List, [], ◌∷◌, length, Option, Some, None, slice_get, refl, sym, ◌∙◌, ap, subst, eqb-true, if◌then◌else◌, arith}
use Rattle.std.specs.Option.{option_map_or}
use Rattle.std.proofs.lemmas.Option.{get_or_from_slice_get, slice_get_within}
use Rattle.std.proofs.lemmas.List.Elements.{All-contains, All-get_or}
use Rattle.runs.specs.Run.{Step}
use Rattle.runs.specs.Path.{Through, Back, Fell, way}
use Rattle.runs.proofs.Paths.{way-back, way-fell, way-through}
use Rattle.product_automaton.specs.declared.product.PEdge.{PEdge}
use Rattle.product_automaton.specs.declared.product.PNode.{PNode}
use Rattle.product_automaton.specs.declared.product.Product.{Product}
use Rattle.product_automaton.specs.Ranks.{HasLowRanks, LowersRanks, RanksFall, left_rank, longest_path, right_rank}
use Rattle.product_simulation.specs.Leads.{EdgesLead, LeadsOn, arrival, left_next, right_next}
use Rattle.product_simulation.proofs.Answering.{Move, Along, Home, Fall}

-- the path of an edge on either side is at most as long as the longest
module _ (path : PEdge → List ℕ) (is_side : (e : PEdge) → length (path e) ≤ max (length e.left) (length e.right)) where
  path-within : (es : List PEdge) (e : PEdge) (i : ℕ) → i < length es → slice_index_or es i e ≡ e → length (path e) ≤ longest_path es
  path-within [] e i within is = absurd (omega arith)
  path-within (f ∷ es) e zero within is =
      let here = is_side f in
      subst (λ (x : PEdge). length (path x) ≤ longest_path (f ∷ es)) is (omega arith)
  path-within (f ∷ es) e (suc i) within is = let there = path-within es e i (omega arith) is in omega arith

  path_within : (es : List PEdge) (e : PEdge) → Contains es e → length (path e) ≤ longest_path es
  path_within es e is = path-within es e is.0 is.1 is.2

left_within : (es : List PEdge) (e : PEdge) → Contains es e → length e.left ≤ longest_path es
left_within es e is = path_within (λ e. e.left) (λ e. omega arith) es e is

right_within : (es : List PEdge) (e : PEdge) → Contains es e → length e.right ≤ longest_path es
right_within es e is = path_within (λ e. e.right) (λ e. omega arith) es e is

-- a path without steps is empty
empty : {X : Type 0} (xs : List X) → length xs ≡ 0 → xs ≡ []
empty [] h = refl
empty (x ∷ xs) h = absurd (omega arith)

low_node : (nodes : List PNode) (n : ℕ) → All (HasLowRanks n) nodes → (node : PNode) (q : ℕ) → slice_get nodes q ≡ Some node → HasLowRanks n node
low_node nodes n low node q is =
    let here : HasLowRanks n (get_or nodes q node) = All-get_or (HasLowRanks n) nodes q node (slice_get_within nodes q node is) low in
    subst (HasLowRanks n) (get_or_from_slice_get nodes q node node is) here

-- the rank of a number on either side is low
low_rank : (rank : PNode → ℕ) (nodes : List PNode) (n : ℕ) → ((node : PNode) → HasLowRanks n node → rank node < n) → 0 < n
    → All (HasLowRanks n) nodes → (o : Option PNode) (q : ℕ) → slice_get nodes q ≡ o → option_map_or rank o 0 < n
low_rank rank nodes n is_side some low None q is = some
low_rank rank nodes n is_side some low (Some node) q is = is_side node (low_node nodes n low node q is)

-- every left rank is below the number of nodes, and every right one
pub left_rank_low : (p : Product) → RanksFall p → (q : ℕ) → left_rank p.nodes q < length p.nodes
left_rank_low p falls q =
    low_rank (λ node. node.rank_left) p.nodes (length p.nodes) (λ node low. low.left) (omega (arith, falls.two)) falls.low (slice_get p.nodes q) q refl

pub right_rank_low : (p : Product) → RanksFall p → (q : ℕ) → right_rank p.nodes q < length p.nodes
right_rank_low p falls q =
    low_rank (λ node. node.rank_right) p.nodes (length p.nodes) (λ node low. low.right) (omega (arith, falls.two)) falls.low (slice_get p.nodes q) q refl

-- two states in the relation of a node that is not the exit
pub record AreLinkedAt {S : Type 0} (p : Product) (related : ℕ → S → S → Type 0) (node : ℕ) (a b : S) : Type 0 where
  pub within : node < length p.nodes
  pub inside : node ≢ 1
  pub is_related : related node a b

-- One side of a product and the other, which answers it: an edge's paths, what follows them, and the ranks of the one side.
module _ {S : Type 0} (place : S → ℕ) (f g : S → Step S) (same : S → S → Type 0) (linked : ℕ → S → S → Type 0) (edges : List PEdge)
    (path answer : PEdge → List ℕ) (next answer_next : ℕ → Option ℕ) (rank : ℕ → ℕ)
    (lowers : (e : PEdge) → Contains edges e → path e ≡ [] → rank e.to < rank e.from)
    (within : (e : PEdge) → Contains edges e → length (answer e) ≤ longest_path edges) where
  -- an edge that both runs follow, into the exit or into another node
  follow : (node : ℕ) (e : PEdge) (a b x y : S) → Contains edges e → e.from ≡ node → way place f (path e) (next e.to) a ≡ arrival e.to x
      → way place g (answer e) (answer_next e.to) b ≡ arrival e.to y → (e.to ≡ 1 → same x y) → (e.to ≢ 1 → linked e.to x y)
      → (exit : Bool) → (e.to == 1) ≡ exit → Move f g same linked rank (longest_path edges) node a b
  follow node e a b x y is from here there home on true exits =
      let one : way place f (path e) (next e.to) a ≡ Back x = here ∙ ap (λ (v : Bool). if v then Back x else Through x) exits in
      let other : way place g (answer e) (answer_next e.to) b ≡ Back y = there ∙ ap (λ (v : Bool). if v then Back y else Through y) exits in
      Home (length (path e)) (length (answer e)) (length (path e)) (length (answer e)) x y
      (way-back place f (path e) (next e.to) a x one)
      (way-back place g (answer e) (answer_next e.to) b y other)
      (within e is)
      (home (eqb-true e.to 1 exits))
  follow node e a b x y is from here there home on false exits =
      let one : way place f (path e) (next e.to) a ≡ Through x = here ∙ ap (λ (v : Bool). if v then Back x else Through x) exits in
      let other : way place g (answer e) (answer_next e.to) b ≡ Through y = there ∙ ap (λ (v : Bool). if v then Back y else Through y) exits in
      Along (length (path e)) (length (answer e)) e.to x y
      (way-through place f (path e) (next e.to) a x one)
      (way-through place g (answer e) (answer_next e.to) b y other)
      (within e is)
      (on (λ exit. absurd (let no : false ≡ true = sym exits ∙ ap (λ (n : ℕ). n == 1) exit in cc)))
      (λ none. subst (λ (q : ℕ). rank e.to < rank q) from (lowers e is (empty (path e) none)))

  -- an edge on which both runs fault
  fault : (node : ℕ) (e : PEdge) (a b : S) → Contains edges e → way place f (path e) (next e.to) a ≡ Fell
      → way place g (answer e) (answer_next e.to) b ≡ Fell → Move f g same linked rank (longest_path edges) node a b
  fault node e a b is here there =
      let one = way-fell place f (path e) (next e.to) a here in
      let other = way-fell place g (answer e) (answer_next e.to) b there in
      let long = within e is in
      Fall one.number other.number one.number other.number one.at other.at one.run other.run (omega (arith, other.within))

module _ {S : Type 0} (place : S → ℕ) (f g : S → Step S) (p : Product) (related : ℕ → S → S → Type 0) (falls : RanksFall p) where
  lowers : (e : PEdge) → Contains p.edges e → LowersRanks p.nodes e
  lowers e is = All-contains (LowersRanks p.nodes) p.edges e falls.lowers is

  -- each two linked states have a move of the left run, which the right run answers
  pub left-move : (same : S → S → Type 0) → ((x y : S) → related 1 x y → same x y) → EdgesLead place f g p related → (node : ℕ) (a b : S)
      → AreLinkedAt p related node a b → Move f g same (AreLinkedAt p related) (left_rank p.nodes) (longest_path p.edges) node a b
  left-move same home leads node a b linked =
      let on : LeadsOn place f g p related node a b = leads node linked.within linked.inside a b linked.is_related in
      elim on.is_way [
        | inl both ↦ follow place f g same (AreLinkedAt p related) p.edges (λ e. e.left) (λ e. e.right) (left_next p) (right_next p) (left_rank p.nodes)
            (λ e is. (lowers e is).left) (right_within p.edges) node on.edge a b both.left_end both.right_end on.is_edge on.from both.left both.right
            (λ one. home both.left_end both.right_end (subst (λ (q : ℕ). related q both.left_end both.right_end) one both.into))
            (λ none. record { within = (lowers on.edge on.is_edge).target; inside = none; is_related = both.into }) (on.edge.to == 1) refl
        | inr both ↦ fault place f g same (AreLinkedAt p related) p.edges (λ e. e.left) (λ e. e.right) (left_next p) (right_next p) (left_rank p.nodes)
            (λ e is. (lowers e is).left) (right_within p.edges) node on.edge a b on.is_edge both.left both.right
      ]

  -- the same of the right run, which the left run answers
  pub right-move : (same : S → S → Type 0) → ((x y : S) → related 1 x y → same x y) → EdgesLead place f g p related → (node : ℕ) (a b : S)
      → AreLinkedAt p related node a b → Move g f (λ y x. same x y) (λ q y x. AreLinkedAt p related q x y) (right_rank p.nodes) (longest_path p.edges) node b a
  right-move same home leads node a b linked =
      let on : LeadsOn place f g p related node a b = leads node linked.within linked.inside a b linked.is_related in
      elim on.is_way [
        | inl both ↦ follow place g f (λ y x. same x y) (λ q y x. AreLinkedAt p related q x y) p.edges (λ e. e.right) (λ e. e.left) (right_next p) (left_next p)
            (right_rank p.nodes) (λ e is. (lowers e is).right) (left_within p.edges) node on.edge b a both.right_end both.left_end on.is_edge on.from both.right both.left
            (λ one. home both.left_end both.right_end (subst (λ (q : ℕ). related q both.left_end both.right_end) one both.into))
            (λ none. record { within = (lowers on.edge on.is_edge).target; inside = none; is_related = both.into }) (on.edge.to == 1) refl
        | inr both ↦ fault place g f (λ y x. same x y) (λ q y x. AreLinkedAt p related q x y) p.edges (λ e. e.right) (λ e. e.left) (right_next p) (left_next p)
            (right_rank p.nodes) (λ e is. (lowers e is).right) (left_within p.edges) node on.edge b a on.is_edge both.right both.left
      ]
