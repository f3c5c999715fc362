-- Collecting heads and cut points from the first instructions on.
use Rattle.std.proofs.Common.{◌≡◌, ◌≢◌, ◌⊎◌, ◌↔◌, inl, inr, ℕ, ◌+◌, ◌<◌, ◌≤◌, List, [], ◌∷◌, ◌++◌, length, Option, Some, None, Result, Ok, Err, IfOk, eqb, slice_get, refl, sym, ◌∙◌, subst, arith}
use Rattle.std.specs.Prelude.{Contains, option_and_then}
use Rattle.std.specs.List.{dedup}
use Rattle.std.specs.List.Sorted.{IsPermutation, IsSorted, IsStrictlyIncreasing}
use Rattle.std.specs.Ordering.{nat_cmp}
use Rattle.std.proofs.lemmas.Bool.{cases_lt}
use Rattle.std.proofs.lemmas.List.Kept.{Contains-dedup_nat, Contains-from_dedup}
use Rattle.std.proofs.lemmas.List.Sorted.{Contains-permutation, IsPermutation-sym}
use Rattle.std.proofs.lemmas.Map.Keys.{IsStrictlyIncreasing-dedup}
use Rattle.std.proofs.lemmas.List.Elements.{Contains-append_left, Contains-push, Contains-push_cases}
use Rattle.std.proofs.lemmas.Option.{same_Some, slice_get_within}
use Rattle.flow_graph.specs.declared.control.Flow.{Flow}
use Rattle.flow_graph.specs.declared.control.Flow.TheVariants.{Return}
use Rattle.flow_graph.specs.Flows.{IsCut, IsHead, ListsInOrder, target_of}
use Rattle.flow_graph.specs.Marks.{IsInOrderOf}

-- a fact on an answer's value, from another
pub each_ok : {T E : Type 0} {P : T → Type 0} (Q : T → Type 0) (r : Result T E) → IfOk r P → ((x : T) → P x → Q x) → IfOk r Q
each_ok Q (Ok x) h each = each x h
each_ok Q (Err e) h each = h

-- a head whose jump is one of the first n instructions
pub record HeadBefore (flows : List Flow) (n place : ℕ) : Type 0 where
  pub jump : ℕ
  pub below : jump < n
  pub backward : place ≤ jump
  pub target : option_and_then target_of (slice_get flows jump) ≡ Some place

-- these are the targets of the backward jumps among the first n instructions
pub record AreTargets (flows : List Flow) (n : ℕ) (targets : List ℕ) : Type 0 where
  pub exactly : (place : ℕ) → Contains targets place ↔ HeadBefore flows n place

weakened : (flows : List Flow) (n place : ℕ) → HeadBefore flows n place → HeadBefore flows (n + 1) place
weakened flows n place h = record { jump = h.jump; below = omega arith; backward = h.backward; target = h.target }

-- what the last of n + 1 instructions is, where it is the jump
from_last : (flows : List Flow) (n place : ℕ) (flow : Flow) → slice_get flows n ≡ Some flow → (h : HeadBefore flows (n + 1) place) → n ≤ h.jump
    → (target_of flow ≡ Some place) × (place ≤ n)
from_last flows n place flow there h le =
    let same : h.jump ≡ n = omega arith in
    let at = subst (λ (j : ℕ). option_and_then target_of (slice_get flows j) ≡ Some place) same h.target in
    (subst (λ (o : Option Flow). option_and_then target_of o ≡ Some place) there at, subst (λ (j : ℕ). place ≤ j) same h.backward)

-- no target among no instructions
pub no_targets : (flows : List Flow) → AreTargets flows 0 []
no_targets flows = record { exactly = λ place. (λ h. absurd (omega (arith, h.1)), λ h. absurd (omega (arith, h.below))) }

-- one instruction more, which is no backward jump
pub targets-kept : (flows : List Flow) (n : ℕ) (targets : List ℕ) (flow : Flow) → slice_get flows n ≡ Some flow
    → ((place : ℕ) → target_of flow ≡ Some place → n < place) → AreTargets flows n targets → AreTargets flows (n + 1) targets
targets-kept flows n targets flow there none are = record {
  exactly = λ place. (
    λ h. weakened flows n place ((are.exactly place).0 h),
    λ h. elim (cases_lt h.jump n) [
      | inl lt ↦ (are.exactly place).1 (record { jump = h.jump; below = lt; backward = h.backward; target = h.target })
      | inr le ↦ let last = from_last flows n place flow there h le in absurd (omega (arith, none place last.0, last.1))
    ],
  );
}

-- one instruction more, which is a backward jump
pub targets-pushed : (flows : List Flow) (n : ℕ) (targets : List ℕ) (flow : Flow) (target : ℕ) → slice_get flows n ≡ Some flow
    → target_of flow ≡ Some target → target ≤ n → AreTargets flows n targets → AreTargets flows (n + 1) (targets ++ target ∷ [])
targets-pushed flows n targets flow target there is le are = record {
  exactly = λ place. (
    λ h. elim (Contains-push_cases targets target place h) [
      | inl old ↦ weakened flows n place ((are.exactly place).0 old)
      | inr e ↦ subst (λ (p : ℕ). HeadBefore flows (n + 1) p) e
          (record { jump = n; below = omega arith; backward = le; target = subst (λ (o : Option Flow). option_and_then target_of o ≡ Some target) (sym there) is })
    ],
    λ h. elim (cases_lt h.jump n) [
      | inl lt ↦ Contains-append_left targets (target ∷ []) place
          ((are.exactly place).1 (record { jump = h.jump; below = lt; backward = h.backward; target = h.target }))
      | inr after ↦
          let last = from_last flows n place flow there h after in
          subst (λ (p : ℕ). Contains (targets ++ target ∷ []) p) (same_Some target place (sym is ∙ last.0)) (Contains-push targets target)
    ],
  );
}

-- a sorted list of the places, without those that it has twice, is in order
pub ordered-by_sort : (places sorted ordered : List ℕ) → IsPermutation places sorted → IsSorted nat_cmp sorted → ordered ≡ dedup eqb sorted → IsInOrderOf places ordered
ordered-by_sort places sorted ordered moved rises e = record {
  rising = subst (λ (xs : List ℕ). IsStrictlyIncreasing xs) (sym e) (IsStrictlyIncreasing-dedup sorted rises);
  same = λ place. (
    λ h. Contains-permutation sorted places place (IsPermutation-sym places sorted moved)
        (Contains-from_dedup eqb sorted place (subst (λ (xs : List ℕ). Contains xs place) e h)),
    λ h. subst (λ (xs : List ℕ). Contains xs place) (sym e) (Contains-dedup_nat sorted place (Contains-permutation places sorted place moved h)),
  );
}

-- what is put in order is what was collected
pub listed : (P : ℕ → Type 0) (places ordered : List ℕ) → IsInOrderOf places ordered → ((place : ℕ) → Contains places place ↔ P place) → ListsInOrder P ordered
listed P places ordered is each = record {
  ordered = is.rising;
  exactly = λ place. (λ h. (each place).0 ((is.same place).0 h), λ h. (is.same place).1 ((each place).1 h));
}

-- the targets among all instructions are the heads
pub heads-listed : (flows : List Flow) (n : ℕ) (targets ordered : List ℕ) → n ≡ length flows → AreTargets flows n targets → IsInOrderOf targets ordered
    → ListsInOrder (IsHead flows) ordered
heads-listed flows n targets ordered all are is =
    listed (IsHead flows) targets ordered is (λ place. (
      λ h. let found = (are.exactly place).0 h in record { jump = found.jump; backward = found.backward; target = found.target },
      λ h. (are.exactly place).1
          (record { jump = h.jump; below = subst (λ (k : ℕ). h.jump < k) (sym all) (jump_within flows h.jump place (slice_get flows h.jump) refl h.target); backward = h.backward; target = h.target }),
    ))
  where
    jump_within : (flows : List Flow) (jump place : ℕ) (o : Option Flow) → slice_get flows jump ≡ o → option_and_then target_of o ≡ Some place → jump < length flows
    jump_within flows jump place None there h = absurd (cc)
    jump_within flows jump place (Some flow) there h = slice_get_within flows jump flow there

-- a cut point, of the returns only one among the first n instructions
abbrev pub CutBefore : List Flow → ℕ → ℕ → Type 0
CutBefore flows n place = (place ≡ 0) ⊎ (IsHead flows place ⊎ ((place < n) × (slice_get flows place ≡ Some Return)))

-- these are the entry, the heads, and the returns among the first n instructions
pub record AreCutsBefore (flows : List Flow) (n : ℕ) (cuts : List ℕ) : Type 0 where
  pub exactly : (place : ℕ) → Contains cuts place ↔ CutBefore flows n place

-- the heads and the entry
pub first-cuts : (flows : List Flow) (heads : List ℕ) → ListsInOrder (IsHead flows) heads → AreCutsBefore flows 0 (heads ++ 0 ∷ [])
first-cuts flows heads are = record {
  exactly = λ place. (
    λ h. elim (Contains-push_cases heads 0 place h) [
      | inl old ↦ inr (inl ((are.exactly place).0 old))
      | inr e ↦ inl (sym e)
    ],
    λ h. elim h [
      | inl e ↦ subst (λ (p : ℕ). Contains (heads ++ 0 ∷ []) p) (sym e) (Contains-push heads 0)
      | inr more ↦ elim more [
        | inl head ↦ Contains-append_left heads (0 ∷ []) place ((are.exactly place).1 head)
        | inr return ↦ absurd (omega (arith, return.0))
      ]
    ],
  );
}

cut-weakened : (flows : List Flow) (n place : ℕ) → CutBefore flows n place → CutBefore flows (n + 1) place
cut-weakened flows n place (inl e) = inl e
cut-weakened flows n place (inr (inl head)) = inr (inl head)
cut-weakened flows n place (inr (inr return)) = inr (inr (omega (arith, return.0), return.1))

-- one instruction more, which is no return
pub cuts-kept : (flows : List Flow) (n : ℕ) (cuts : List ℕ) (flow : Flow) → slice_get flows n ≡ Some flow → flow ≢ Return
    → AreCutsBefore flows n cuts → AreCutsBefore flows (n + 1) cuts
cuts-kept flows n cuts flow there none are = record {
  exactly = λ place. (λ h. cut-weakened flows n place ((are.exactly place).0 h), λ h. (are.exactly place).1 (back place h));
}
  where
    back : (place : ℕ) → CutBefore flows (n + 1) place → CutBefore flows n place
    back place (inl e) = inl e
    back place (inr (inl head)) = inr (inl head)
    back place (inr (inr return)) =
        elim (cases_lt place n) [
          | inl lt ↦ inr (inr (lt, return.1))
          | inr le ↦
              let lt : place < n + 1 = return.0 in
              let same : place ≡ n = omega arith in
              let at = subst (λ (j : ℕ). slice_get flows j ≡ Some Return) same return.1 in
              absurd (none (same_Some flow Return (sym there ∙ at)))
        ]

-- one instruction more, which is a return
pub cuts-pushed : (flows : List Flow) (n : ℕ) (cuts : List ℕ) (flow : Flow) → slice_get flows n ≡ Some flow → flow ≡ Return
    → AreCutsBefore flows n cuts → AreCutsBefore flows (n + 1) (cuts ++ n ∷ [])
cuts-pushed flows n cuts flow there is are = record {
  exactly = λ place. (
    λ h. elim (Contains-push_cases cuts n place h) [
      | inl old ↦ cut-weakened flows n place ((are.exactly place).0 old)
      | inr e ↦ subst (λ (p : ℕ). CutBefore flows (n + 1) p) e (inr (inr (omega arith, subst (λ (f : Flow). slice_get flows n ≡ Some f) is there)))
    ],
    λ h. back place h,
  );
}
  where
    back : (place : ℕ) → CutBefore flows (n + 1) place → Contains (cuts ++ n ∷ []) place
    back place (inl e) = Contains-append_left cuts (n ∷ []) place ((are.exactly place).1 (inl e))
    back place (inr (inl head)) = Contains-append_left cuts (n ∷ []) place ((are.exactly place).1 (inr (inl head)))
    back place (inr (inr return)) =
        elim (cases_lt place n) [
          | inl lt ↦ Contains-append_left cuts (n ∷ []) place ((are.exactly place).1 (inr (inr (lt, return.1))))
          | inr le ↦
              let lt : place < n + 1 = return.0 in
              let same : n ≡ place = omega arith in
              subst (λ (p : ℕ). Contains (cuts ++ n ∷ []) p) same (Contains-push cuts n)
        ]

-- those among all instructions are the cut points
pub cuts-listed : (flows : List Flow) (n : ℕ) (cuts ordered : List ℕ) → n ≡ length flows → AreCutsBefore flows n cuts → IsInOrderOf cuts ordered
    → ListsInOrder (IsCut flows) ordered
cuts-listed flows n cuts ordered all are is =
    listed (IsCut flows) cuts ordered is (λ place. (λ h. forth place ((are.exactly place).0 h), λ h. (are.exactly place).1 (back place h)))
  where
    forth : (place : ℕ) → CutBefore flows n place → IsCut flows place
    forth place (inl e) = inl e
    forth place (inr (inl head)) = inr (inl head)
    forth place (inr (inr return)) = inr (inr return.1)

    back : (place : ℕ) → IsCut flows place → CutBefore flows n place
    back place (inl e) = inl e
    back place (inr (inl head)) = inr (inl head)
    back place (inr (inr return)) =
        inr (inr (subst (λ (k : ℕ). place < k) (sym all) (slice_get_within flows place Return return), return))
