-- Places and visits, step by step.
use Rattle.std.proofs.Common.{◌≡◌, ◌≢◌, inl, inr, ℕ, ◌+◌, ◌<◌, List, [], ◌∷◌, ◌++◌, length, map, set, Option, Some, slice_get, slice_index, refl, sym, ◌∙◌, ap, subst, arith}
use Rattle.std.specs.Prelude.{Contains}
use Rattle.std.specs.List.Sorted.{IsStrictlyIncreasing}
use Rattle.std.proofs.lemmas.Bool.{cases_lt}
use Rattle.std.proofs.lemmas.List.{get_or_append_left, get_or-set_other, get_or-set_same, get_or_push, length-set, length_push, map-append}
use Rattle.std.proofs.lemmas.List.Elements.{All-push, Contains-append_left, Contains-get_or, Contains-push, Contains-push_cases}
use Rattle.std.specs.Option.{option_map}
use Rattle.std.proofs.lemmas.Option.{slice_get-get_or, slice_get-map}
use Rattle.lane_views.specs.declared.Bytes32.{Bytes32}
use Rattle.flow_graph.specs.declared.control.Flow.{Flow}
use Rattle.flow_graph.specs.Flows.{IsHead}
use Rattle.machine.specs.Machine.{Machine}
use Rattle.tracer.specs.declared.recording.Visit.{Visit}
use Rattle.tracer.specs.Recording.{AtHead, Elsewhere, Shows, Visits}
use Rattle.tracer.specs.Traces.{ArePlaces, AreVisits}

-- the bytes of a vector
abbrev bytes_of : Bytes32 → List ℕ
bytes_of v = v.bytes

-- the numbers of visits
abbrev numbers : List Visit → List ℕ
numbers visits = map (λ (v : Visit). v.step) visits

-- no places, and no visits
pub no-places : (states : ℕ → Machine) → ArePlaces states 0 []
no-places states = record { count = refl; each = λ k lt. absurd (omega arith) }

pub no-visits : (flows : List Flow) (states : ℕ → Machine) → AreVisits flows states 0 []
no-visits flows states = record {
  steps = record { ordered = λ k lt. absurd (omega arith); exactly = λ k. (λ h. absurd (omega (arith, h.1)), λ h. absurd (omega (arith, h.0))) };
  each = λ k d lt. absurd (omega arith);
}

slice_get-push : (xs : List ℕ) (y k : ℕ) → k ≡ length xs → slice_get (xs ++ y ∷ []) k ≡ Some y
slice_get-push xs y k e =
    let lt : k < length (xs ++ y ∷ []) = omega (arith, length_push xs y) in
    slice_get-get_or (xs ++ y ∷ []) k 0 lt ∙ ap (λ (x : ℕ). Some x) (get_or_push xs y 0 k (sym e))

slice_get-old : (xs : List ℕ) (y k : ℕ) → k < length xs → slice_get (xs ++ y ∷ []) k ≡ slice_get xs k
slice_get-old xs y k lt =
    let more : k < length (xs ++ y ∷ []) = omega (arith, length_push xs y) in
    slice_get-get_or (xs ++ y ∷ []) k 0 more ∙ ap (λ (x : ℕ). Some x) (get_or_append_left xs (y ∷ []) 0 k lt) ∙ sym (slice_get-get_or xs k 0 lt)

-- the place of one step more
pub places-more : (states : ℕ → Machine) (n : ℕ) (old new : List ℕ) (s : Machine) → s ≡ states n → new ≡ old ++ s.place ∷ [] → ArePlaces states n old
    → ArePlaces states (n + 1) new
places-more states n old new s is made are = record {
  count = ap (λ (xs : List ℕ). length xs) made ∙ length_push old s.place ∙ ap (λ (m : ℕ). m + 1) are.count;
  each = λ k lt.
      subst (λ (xs : List ℕ). slice_get xs k ≡ Some (states k).place) (sym made)
      (elim (cases_lt k n) [
        | inl less ↦ slice_get-old old s.place k (omega (arith, are.count)) ∙ are.each k less
        | inr le ↦
            let same : n ≡ k = omega arith in
            slice_get-push old s.place k (omega (arith, are.count)) ∙ ap (λ (m : Machine). Some m.place) is ∙ ap (λ (j : ℕ). Some (states j).place) same
      ]);
}

-- a number above all others keeps them in order
increasing-push : (xs : List ℕ) (y : ℕ) → IsStrictlyIncreasing xs → ((x : ℕ) → Contains xs x → x < y) → IsStrictlyIncreasing (xs ++ y ∷ [])
increasing-push xs y rising below k lt =
    let count = length_push xs y in
    elim (cases_lt (k + 1) (length xs)) [
      | inl less ↦
          let here = get_or_append_left xs (y ∷ []) 0 k (omega arith) in
          let next = get_or_append_left xs (y ∷ []) 0 (k + 1) less in
          omega (arith, here, next, rising k less)
      | inr le ↦
          let last : length xs ≡ k + 1 = omega arith in
          let here = get_or_append_left xs (y ∷ []) 0 k (omega arith) in
          let next = get_or_push xs y 0 (k + 1) last in
          omega (arith, here, next, below (slice_index xs k) (Contains-get_or xs k 0 (omega arith)))
    ]

-- the visit of one step more, at a head
visits-pushed : (flows : List Flow) (states : ℕ → Machine) (n : ℕ) (old : List Visit) (visit : Visit) → IsHead flows (states n).place
    → Shows (states n) n visit → AreVisits flows states n old → AreVisits flows states (n + 1) (old ++ visit ∷ [])
visits-pushed flows states n old visit head shows are = record {
  steps = record {
    ordered = subst (λ (xs : List ℕ). IsStrictlyIncreasing xs) (sym steps_are)
        (increasing-push (numbers old) n are.steps.ordered (λ x h. ((are.steps.exactly x).0 h).0));
    exactly = λ k. (
      λ h. elim (Contains-push_cases (numbers old) n k (subst (λ (xs : List ℕ). Contains xs k) steps_are h)) [
        | inl before ↦ let found = (are.steps.exactly k).0 before in (omega (arith, found.0), found.1)
        | inr e ↦ (omega arith, subst (λ (j : ℕ). IsHead flows (states j).place) e head)
      ],
      λ h. subst (λ (xs : List ℕ). Contains xs k) (sym steps_are) (elim (cases_lt k n) [
        | inl less ↦ Contains-append_left (numbers old) (n ∷ []) k ((are.steps.exactly k).1 (less, h.1))
        | inr le ↦
            let lt : k < n + 1 = h.0 in
            let same : n ≡ k = omega arith in
            subst (λ (j : ℕ). Contains ((numbers old) ++ n ∷ []) j) same (Contains-push (numbers old) n)
      ]),
    );
  };
  each = All-push (λ (v : Visit). Shows (states v.step) v.step v) old visit are.each
      (subst (λ (j : ℕ). Shows (states j) j visit) (sym shows.step) shows);
}
  where
    steps_are : numbers (old ++ visit ∷ []) ≡ numbers old ++ n ∷ []
    steps_are = map-append (λ (v : Visit). v.step) old (visit ∷ []) ∙ ap (λ (k : ℕ). map (λ (v : Visit). v.step) old ++ k ∷ []) shows.step

-- one step more elsewhere
visits-kept : (flows : List Flow) (states : ℕ → Machine) (n : ℕ) (old : List Visit) → (IsHead flows (states n).place → ⊥) → AreVisits flows states n old
    → AreVisits flows states (n + 1) old
visits-kept flows states n old none are = record {
  steps = record {
    ordered = are.steps.ordered;
    exactly = λ k. (
      λ h. let found = (are.steps.exactly k).0 h in (omega (arith, found.0), found.1),
      λ h. elim (cases_lt k n) [
        | inl less ↦ (are.steps.exactly k).1 (less, h.1)
        | inr le ↦
            let lt : k < n + 1 = h.0 in
            let same : k ≡ n = omega arith in
            absurd (none (subst (λ (j : ℕ). IsHead flows (states j).place) same h.1))
      ],
    );
  };
  each = are.each;
}

-- the visits of one step more
pub visits-more : (flows : List Flow) (states : ℕ → Machine) (n : ℕ) (s : Machine) (old new : List Visit) → s ≡ states n → Visits flows s n old new
    → AreVisits flows states n old → AreVisits flows states (n + 1) new
visits-more flows states n s old new is (AtHead head visit shows made) are =
    subst (λ (vs : List Visit). AreVisits flows states (n + 1) vs) (sym made)
    (visits-pushed flows states n old visit (subst (λ (m : Machine). IsHead flows m.place) is head) (subst (λ (m : Machine). Shows m n visit) is shows) are)
visits-more flows states n s old new is (Elsewhere none made) are =
    subst (λ (vs : List Visit). AreVisits flows states (n + 1) vs) (sym made)
    (visits-kept flows states n old (λ head. none (subst (λ (m : Machine). IsHead flows m.place) (sym is) head)) are)

-- the vectors up to one more
pub vectors-more : (here : List (List ℕ)) (vecs : List Bytes32) (n : ℕ) (v : Bytes32) → length vecs ≡ 16 → n < 16 → slice_get here n ≡ Some v.bytes
    → ((k : ℕ) → k < n → slice_get (map (λ (u : Bytes32). u.bytes) vecs) k ≡ slice_get here k)
    → (length (set vecs n v) ≡ 16) × ((k : ℕ) → k < n + 1 → slice_get (map (λ (u : Bytes32). u.bytes) (set vecs n v)) k ≡ slice_get here k)
vectors-more here vecs n v sixteen lt is before = (
  count ∙ sixteen,
  λ k less. elim (cases_lt k n) [
    | inl below ↦ slice_get-map bytes_of (set vecs n v) k ∙ ap (λ (o : Option Bytes32). option_map bytes_of o) (others k below) ∙ sym (slice_get-map bytes_of vecs k) ∙ before k below
    | inr le ↦
        let same : n ≡ k = omega arith in
        slice_get-map bytes_of (set vecs n v) k
        ∙ ap (λ (j : ℕ). option_map bytes_of (slice_get (set vecs n v) j)) (sym same)
        ∙ ap (λ (o : Option Bytes32). option_map bytes_of o) (slice_get-get_or (set vecs n v) n v within ∙ ap (λ (u : Bytes32). Some u) (get_or-set_same vecs n v v inside))
        ∙ sym is ∙ ap (λ (j : ℕ). slice_get here j) same
  ],
)
  where
    count : length (set vecs n v) ≡ length vecs
    count = length-set vecs n v

    inside : n < length vecs
    inside = omega (arith, sixteen)

    within : n < length (set vecs n v)
    within = omega (arith, length-set vecs n v, sixteen)

    others : (k : ℕ) → k < n → slice_get (set vecs n v) k ≡ slice_get vecs k
    others k below =
        let apart : k ≢ n = omega arith in
        slice_get-get_or (set vecs n v) k v (omega (arith, length-set vecs n v, sixteen)) ∙ ap (λ (u : Bytes32). Some u) (get_or-set_other vecs n k v v apart)
        ∙ sym (slice_get-get_or vecs k v (omega (arith, sixteen)))
