-- Paths, place by place.
use Rattle.std.proofs.Common.{◌≡◌, ℕ, ◌+◌, ◌<◌, List, length, Option, Some, None, slice_get, refl, subst, arith}
use Rattle.std.specs.Prelude.{slice_index}
use Rattle.flow_graph.specs.declared.control.Flow.{Flow}
use Rattle.flow_graph.specs.Flows.{FitsBefore, Follows, IsPath}
use Rattle.std.proofs.lemmas.Option.{slice_get_within, slice_get-get_or}

-- the place at k fits before the next one
abbrev pub FitsAt : List Flow → List ℕ → ℕ → Type 0
FitsAt flows path k = FitsBefore flows (slice_index path k) (slice_get path (k + 1))

fits-inside : (flows : List Flow) (place : ℕ) (next : Option ℕ) → FitsBefore flows place next → place < length flows
fits-inside flows place None h = h
fits-inside flows place (Some next) h = slice_get_within flows place h.flow h.there

-- places that each fit before the next are a path
pub path-made : (flows : List Flow) (path : List ℕ) → ((k : ℕ) → k < length path → FitsAt flows path k) → IsPath flows path
path-made flows path each = record {
  inside = λ k lt. fits-inside flows (slice_index path k) (slice_get path (k + 1)) (each k lt);
  follows = λ k lt.
      subst (λ (o : Option ℕ). FitsBefore flows (slice_index path k) o) (slice_get-get_or path (k + 1) 0 lt) (each k (omega arith));
}

fits-by : (flows : List Flow) (path : List ℕ) (k : ℕ) (next : Option ℕ) → slice_get path (k + 1) ≡ next → k < length path → IsPath flows path
    → FitsBefore flows (slice_index path k) next
fits-by flows path k None is lt p = p.inside k lt
fits-by flows path k (Some next) is lt p =
    let within : k + 1 < length path = slice_get_within path (k + 1) next is in
    let at : slice_get path (k + 1) ≡ Some (slice_index path (k + 1)) = slice_get-get_or path (k + 1) 0 within in
    let same : slice_index path (k + 1) ≡ next = cc in
    subst (λ (q : ℕ). Follows flows (slice_index path k) q) same (p.follows k within)

-- each place of a path fits before the next
pub path-fits : (flows : List Flow) (path : List ℕ) (k : ℕ) → IsPath flows path → k < length path → FitsAt flows path k
path-fits flows path k p lt = fits-by flows path k (slice_get path (k + 1)) refl lt p
