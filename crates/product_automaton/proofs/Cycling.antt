-- Where ranks fall, each cycle advances on both sides.
use Rattle.std.proofs.Common.{◌≡◌, ℕ, ◌<◌, ◌≤◌, All, Contains, List, [], ◌∷◌, ap, arith}
use Rattle.std.proofs.lemmas.List.Elements.{All-contains, All-tail}
use Rattle.product_automaton.specs.declared.product.PEdge.{PEdge}
use Rattle.product_automaton.specs.declared.product.Product.{Product}
use Rattle.product_automaton.specs.Cycles.{CyclesAdvance, IsWalk}
use Rattle.product_automaton.specs.Ranks.{LowersRanks, RanksFall, left_rank, right_rank}

module _ (edges : List PEdge) (path : PEdge → List ℕ) (rank : ℕ → ℕ)
    (falls : (e : PEdge) → Contains edges e → path e ≡ [] → rank e.to < rank e.from) where
  -- along edges with empty paths the rank does not rise
  walk-falls : (walk : List PEdge) (node last : ℕ) → IsWalk edges node walk last → All (λ f. path f ≡ []) walk → rank last ≤ rank node
  walk-falls [] node last is empty = let same : rank node ≡ rank last = ap rank is in omega arith
  walk-falls (e ∷ walk) node last is empty =
      let first : path e ≡ [] = empty 0 e (omega arith) in
      let less : rank e.to < rank e.from = falls e is.0 first in
      let from : rank e.from ≡ rank node = ap rank is.1 in
      let rest = walk-falls walk e.to last is.2 (All-tail (λ (f : PEdge). path f ≡ []) e walk empty) in
      omega arith

  -- so no cycle has only empty paths
  cycle-advances : (node : ℕ) (e : PEdge) (walk : List PEdge) → IsWalk edges node (e ∷ walk) node → All (λ f. path f ≡ []) (e ∷ walk) → ⊥
  cycle-advances node e walk is empty =
      let first : path e ≡ [] = empty 0 e (omega arith) in
      let less : rank e.to < rank e.from = falls e is.0 first in
      let from : rank e.from ≡ rank node = ap rank is.1 in
      let rest = walk-falls walk e.to node is.2 (All-tail (λ (f : PEdge). path f ≡ []) e walk empty) in
      omega arith

pub cycles_advance : (p : Product) → RanksFall p → CyclesAdvance p
cycles_advance p falls = record {
  left = cycle-advances p.edges (λ f. f.left) (left_rank p.nodes) (λ e is. (All-contains (LowersRanks p.nodes) p.edges e falls.lowers is).left);
  right = cycle-advances p.edges (λ f. f.right) (right_rank p.nodes) (λ e is. (All-contains (LowersRanks p.nodes) p.edges e falls.lowers is).right);
}
