-- Cycles of a product, and that they advance on both sides.
use Rattle.std.specs.Prelude.{◌≡◌, ℕ, All, Contains, List, [], ◌∷◌}
use Rattle.product_automaton.specs.declared.product.PEdge.{PEdge}
use Rattle.product_automaton.specs.declared.product.Product.{Product}

-- the walk follows edges of the list, one after another, from a node to a last one
abbrev pub IsWalk : List PEdge → ℕ → List PEdge → ℕ → Type 0
IsWalk edges node [] last = node ≡ last
IsWalk edges node (e ∷ walk) last = Contains edges e × (e.from ≡ node) × IsWalk edges e.to walk last

-- No cycle of the product has only empty left paths, nor only empty right ones.
pub record CyclesAdvance (p : Product) : Type 0 where
  pub left : (node : ℕ) (e : PEdge) (walk : List PEdge) → IsWalk p.edges node (e ∷ walk) node
      → All (λ f. f.left ≡ []) (e ∷ walk) → ⊥
  pub right : (node : ℕ) (e : PEdge) (walk : List PEdge) → IsWalk p.edges node (e ∷ walk) node
      → All (λ f. f.right ≡ []) (e ∷ walk) → ⊥
