-- Every alignment matches two traces in some way.
use Rattle.std.proofs.Common.{◌≡◌, ℕ, zero, suc, ◌+◌, ◌-◌, ◌*◌, ◌^◌, ◌%◌, ◌<◌, ◌≤◌, ◌⊎◌, inl, inr, List, [], ◌∷◌, length, Option, Some, None, slice_get, get_or, refl, sym, ◌∙◌, subst, arith}
use Rattle.std.proofs.lemmas.Bool.{cases_eq, cases_lt}
use Rattle.std.proofs.lemmas.Option.{same_Some, slice_get_within}
use Rattle.tracer.specs.declared.alignments.Alignment.{Alignment}
use Rattle.tracer.specs.declared.alignments.Equation.{Equation}
use Rattle.tracer.specs.declared.recording.Visit.{Visit}
use Rattle.tracer.specs.declared.traces.Trace.{Trace}
use Rattle.tracer.specs.Matching.{AreMatched, HoldsBy, IsMatching, IsNext, Satisfy, entry_term}

-- the least number above i of which Q holds
record IsLeast (Q : ℕ → Type 0) (i k : ℕ) : Type 0 where
  above : i < k
  holds : Q k
  least : (j : ℕ) → i < j → Q j → k ≤ j

-- it is so or it is not
abbrev Decided : Type 0 → Type 0
Decided P = P ⊎ (P → ⊥)

-- of the d numbers above i there is a least one of which Q holds, or it holds of none
least-or-none : (Q : ℕ → Type 0) → ((k : ℕ) → Decided (Q k)) → (d i : ℕ) → ((k : ℕ) × IsLeast Q i k) ⊎ ((k : ℕ) → i < k → k ≤ i + d → Q k → ⊥)
least-or-none Q decide zero i = inr (λ k above within holds. absurd (omega arith))
least-or-none Q decide (suc d) i = here (decide (i + 1)) (least-or-none Q decide d (i + 1))
  where
    next : (k : ℕ) → i < k → (i + 1 ≡ k) ⊎ (i + 1 < k)
    next k above = elim (cases_eq (i + 1) k) [ inl same ↦ inl same | inr other ↦ inr (elim (cases_lt (i + 1) k) [ inl less ↦ less | inr more ↦ absurd (other (omega arith)) ]) ]

    here : Decided (Q (i + 1)) → ((k : ℕ) × IsLeast Q (i + 1) k) ⊎ ((k : ℕ) → i + 1 < k → k ≤ i + 1 + d → Q k → ⊥)
        → ((k : ℕ) × IsLeast Q i k) ⊎ ((k : ℕ) → i < k → k ≤ i + suc d → Q k → ⊥)
    here (inl holds) later = inl (i + 1, record { above = omega arith; holds = holds; least = λ j above there. omega arith })
    here (inr not) (inl later) =
        inl (
          later.0,
          record {
            above = omega (arith, later.1.above);
            holds = later.1.holds;
            least = λ j above there. elim (next j above) [ inl same ↦ absurd (not (subst Q (sym same) there)) | inr more ↦ later.1.least j more there ];
          },
        )
    here (inr not) (inr none) =
        inr (λ k above within holds. elim (next k above) [ inl same ↦ not (subst Q (sym same) holds) | inr more ↦ none k more (omega arith) holds ])

module _ (M : ℕ → ℕ → Type 0) (decide : (k l : ℕ) → Decided (M k l)) (m n : ℕ) (bounded : (k l : ℕ) → M k l → (k ≤ m) × (l ≤ n)) where
  -- M holds of a number above i and this one
  abbrev IsMet : ℕ → ℕ → Type 0
  IsMet i l = (k : ℕ) × (i < k) × M k l

  met : (i l : ℕ) → Decided (IsMet i l)
  met i l =
      elim (least-or-none (λ k. M k l) (λ k. decide k l) m i) [
        | inl found ↦ inl (found.0, found.1.above, found.1.holds)
        | inr none ↦ inr (λ there. let low = (bounded there.0 l there.2).0 in none there.0 there.1 (omega arith) there.2)
      ]

  -- the pair that follows, or none does
  next-or-none : (i j : ℕ) → ((pair : ℕ × ℕ) × IsNext M i j pair) ⊎ ((k l : ℕ) → i < k → j < l → M k l → ⊥)
  next-or-none i j =
      elim (least-or-none (IsMet i) (met i) n j) [
        | inl found ↦ of_least found.0 found.1 (least-or-none (λ k. M k found.0) (λ k. decide k found.0) m i)
        | inr none ↦ inr (λ k l above beyond holds. let low = (bounded k l holds).1 in none l beyond (omega arith) (k, above, holds))
      ]
    where
      of_least : (l : ℕ) → IsLeast (IsMet i) j l → ((k : ℕ) × IsLeast (λ k. M k l) i k) ⊎ ((k : ℕ) → i < k → k ≤ i + m → M k l → ⊥)
          → ((pair : ℕ × ℕ) × IsNext M i j pair) ⊎ ((k l : ℕ) → i < k → j < l → M k l → ⊥)
      of_least l right (inl left) =
          inl (
            (left.0, l),
            record {
              left_later = left.1.above;
              right_later = right.above;
              holds = left.1.holds;
              least_right = λ k l' above beyond there. right.least l' beyond (k, above, there);
              least_left = λ k above there. left.1.least k above there;
            },
          )
      of_least l right (inr none) =
          let low = (bounded right.holds.0 l right.holds.2).0 in
          absurd (none right.holds.0 right.holds.1 (omega arith) right.holds.2)

  -- the pairs that follow, at most d of them
  matched-from : (d i j : ℕ) → n ≤ j + d → (pairs : List (ℕ × ℕ)) × AreMatched M i j pairs
  matched-from zero i j past = ([], λ k l above beyond holds. let low = (bounded k l holds).1 in absurd (omega arith))
  matched-from (suc d) i j past = by_next (matched-from d) (next-or-none i j)
    where
      by_next : ((k l : ℕ) → n ≤ l + d → (pairs : List (ℕ × ℕ)) × AreMatched M k l pairs)
          → ((pair : ℕ × ℕ) × IsNext M i j pair) ⊎ ((k l : ℕ) → i < k → j < l → M k l → ⊥) → (pairs : List (ℕ × ℕ)) × AreMatched M i j pairs
      by_next later (inl found) =
          let beyond = found.1.right_later in
          let rest = later found.0.0 found.0.1 (omega arith) in
          (found.0 ∷ rest.0, (found.1, rest.1))
      by_next later (inr none) = ([], none)

-- whether the equation of an alignment holds of two visits
holds-or-not : (equation : Option Equation) (entry : List ℕ) (left right : Visit) → Decided (HoldsBy equation entry left right)
holds-or-not None entry left right = inr (λ h. h)
holds-or-not (Some q) entry left right =
    cases_eq ((q.a * get_or left.regs q.x 0) % 2 ^ 64) ((q.b * get_or right.regs q.y 0 + entry_term entry q.e + q.c) % 2 ^ 64)

-- whether visits of two traces satisfy an alignment
satisfy-or-not : (alignment : Alignment) (left right : Trace) (i j : ℕ) → Decided (Satisfy alignment left right i j)
satisfy-or-not alignment left right i j =
    by_visits (slice_get left.visits.items (i - 1)) (slice_get right.visits.items (j - 1)) refl refl (cases_lt 0 i) (cases_lt 0 j)
  where
    by_holds : (a b : Visit) → slice_get left.visits.items (i - 1) ≡ Some a → slice_get right.visits.items (j - 1) ≡ Some b → 0 < i → 0 < j
        → Decided (HoldsBy alignment.equation left.entry a b) → Decided (Satisfy alignment left right i j)
    by_holds a b one two low high (inl holds) = inl (record { left_visit = a; right_visit = b; from_one = (low, high); left_is = one; right_is = two; holds = holds })
    by_holds a b one two low high (inr not) =
        inr (λ s.
        let left_same : s.left_visit ≡ a = same_Some s.left_visit a (sym s.left_is ∙ one) in
        let right_same : s.right_visit ≡ b = same_Some s.right_visit b (sym s.right_is ∙ two) in
        let moved = subst (λ (x : Visit). HoldsBy alignment.equation left.entry x s.right_visit) left_same s.holds in
        not (subst (λ (x : Visit). HoldsBy alignment.equation left.entry a x) right_same moved))

    by_visits : (x y : Option Visit) → slice_get left.visits.items (i - 1) ≡ x → slice_get right.visits.items (j - 1) ≡ y → (0 < i) ⊎ (i ≤ 0) → (0 < j) ⊎ (j ≤ 0)
        → Decided (Satisfy alignment left right i j)
    by_visits None y one two low high = inr (λ s. let e : None ≡ Some s.left_visit = sym one ∙ s.left_is in cc)
    by_visits (Some a) None one two low high = inr (λ s. let e : None ≡ Some s.right_visit = sym two ∙ s.right_is in cc)
    by_visits (Some a) (Some b) one two (inr none) high = inr (λ s. let low = s.from_one.0 in absurd (omega arith))
    by_visits (Some a) (Some b) one two (inl low) (inr none) = inr (λ s. let high = s.from_one.1 in absurd (omega arith))
    by_visits (Some a) (Some b) one two (inl low) (inl high) = by_holds a b one two low high (holds-or-not alignment.equation left.entry a b)

satisfy-bounded : (alignment : Alignment) (left right : Trace) (i j : ℕ) → Satisfy alignment left right i j → (i ≤ length left.visits.items) × (j ≤ length right.visits.items)
satisfy-bounded alignment left right i j s =
    let one = slice_get_within left.visits.items (i - 1) s.left_visit s.left_is in
    let two = slice_get_within right.visits.items (j - 1) s.right_visit s.right_is in
    (omega arith, omega arith)

-- some pairs are matched
pub matched-some : (alignment : Alignment) (left right : Trace) → (pairs : List (ℕ × ℕ)) × IsMatching alignment left right pairs
matched-some alignment left right =
    let n = length right.visits.items in
    matched-from (Satisfy alignment left right) (satisfy-or-not alignment left right) (length left.visits.items) n (satisfy-bounded alignment left right) n 0 0 (omega arith)
