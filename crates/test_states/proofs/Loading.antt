-- What loading a test answers.
use Rattle.std.proofs.Common.{◌≡◌, ℕ, ◌+◌, ◌-◌, ◌<◌, ◌≤◌, ◌==◌, Bool, true, false, not, ◌&&◌, nat_le, nat_lt, List, None, Some, Result, Ok, Err, IfErr, IfOk, inl, inr, refl, sym, ap, subst, arith}
use Rattle.std.specs.Prelude.{sum_by}
use Rattle.std.specs.List.{Any, list_any}
use Rattle.std.proofs.lemmas.Bool.{eq-eqb, false≢true}
use Rattle.std.proofs.lemmas.Bool.Decides.{nat_tests}
use Rattle.std.proofs.lemmas.List.Folds.{Any-from_list_any, list_any-from_Any}
use Rattle.outcomes.specs.Answering.{Answers, Gives}
use Rattle.outcomes.proofs.Answering.{unless-map}
use Rattle.memory_spans.specs.declared.region.Region.{Region}
use Rattle.machine.specs.Kept.{Kept, pure_of}
use Rattle.machine.specs.Machine.{IsStart}
use Rattle.admission.specs.declared.admission.Admission.{Admission}
use Rattle.admission.specs.Admitted.{HasByte, regions_of}
use Rattle.admitted_starts.specs.AdmittedStarts.{IsAdmittedStart}
use Rattle.tests_text.specs.declared.test.Test.{Test}
use Rattle.test_states.specs.declared.refusal.LoadRefusal.{LoadRefusal}
use Rattle.test_states.specs.declared.refusal.LoadRefusal.TheVariants.{ByteOutside, Memory, NotAdmitted, RegionsLarge}
use Rattle.test_states.specs.Choosing.{least_outside, region_has}
use Rattle.test_states.specs.Loads.{IsRefused, LoadsAs}
use Rattle.test_states.specs.Starts.{IsFirstOutside, IsInRegion, IsLoadable, IsNamed, start_of, total_length}
use Rattle.test_states.proofs.Keeping.{named_from_test}
use Rattle.test_states.proofs.Outside.{is_named, least_is, none_outside}

test_from_named : (named : List (ℕ × ℕ)) (at : ℕ) → Any (λ (pair : ℕ × ℕ). pair.0 ≡ at) named → is_named named at ≡ true
test_from_named named at a = list_any-from_Any (λ (pair : ℕ × ℕ). pair.0 == at) named (a.0, a.1, a.2, a.3, eq-eqb a.1.0 at a.4)

byte_of_region : (r : Region) (at : ℕ) → region_has at r ≡ true → HasByte r at
byte_of_region r at h = let b = has_from r.base r.len at h in b
  where
    has_from : (base len at : ℕ) → (nat_le base at && nat_lt (at - base) len) ≡ true → (base ≤ at) × (at < base + len)
    has_from base len at h = grind (arith, nat_tests)

region_of_byte : (r : Region) (at : ℕ) → HasByte r at → region_has at r ≡ true
region_of_byte r at h = has_to r.base r.len at h.0 h.1
  where
    has_to : (base len at : ℕ) → base ≤ at → at < base + len → (nat_le base at && nat_lt (at - base) len) ≡ true
    has_to base len at low high = grind (arith, nat_tests)

in_region : (rs : List Region) (at : ℕ) → list_any (region_has at) rs ≡ true → Any (λ (r : Region). HasByte r at) rs
in_region rs at h = let a = Any-from_list_any (region_has at) rs h in (a.0, a.1, a.2, a.3, byte_of_region a.1 at a.4)

in_region_test : (rs : List Region) (at : ℕ) → Any (λ (r : Region). HasByte r at) rs → list_any (region_has at) rs ≡ true
in_region_test rs at a = list_any-from_Any (region_has at) rs (a.0, a.1, a.2, a.3, region_of_byte a.1 at a.4)

not-true : (b : Bool) → not b ≡ true → b ≡ true → ⊥
not-true true h k = false≢true h
not-true false h k = false≢true k

not-false : (b : Bool) → not b ≡ false → b ≡ true
not-false true h = refl
not-false false h = sym h

from_not-true : (b : Bool) → (b ≡ true → ⊥) → not b ≡ true
from_not-true true h = absurd (h refl)
from_not-true false h = refl

-- where the regions are those of the admission
module _ (a : Admission) (t : Test) (rs : List Region) (regions : rs ≡ regions_of t.regs a) where
  here : (at : ℕ) → list_any (region_has at) rs ≡ true → IsInRegion a t at
  here at h = subst (λ (us : List Region). Any (λ (r : Region). HasByte r at) us) regions (in_region rs at h)

  there : (at : ℕ) → IsInRegion a t at → list_any (region_has at) rs ≡ true
  there at h = in_region_test rs at (subst (λ (us : List Region). Any (λ (r : Region). HasByte r at) us) (sym regions) h)

  pub all_inside : None ≡ least_outside rs None t.bytes → (at : ℕ) → IsNamed t at → IsInRegion a t at
  all_inside none at named =
      here at (not-false (list_any (region_has at) rs) ((none_outside rs None t.bytes (sym none)).1 at (test_from_named t.bytes at named)))

  pub first_outside : (at : ℕ) → Some at ≡ least_outside rs None t.bytes → IsFirstOutside a t at
  first_outside at some = let l = least_is rs None t.bytes at (sym some) in record {
    outside = elim l.origin [
      | inl found ↦ absurd (cc)
      | inr h ↦ record {
        named = named_from_test t.bytes at h.0;
        outside = λ inside. not-true (list_any (region_has at) rs) h.1 (there at inside);
      }
    ];
    least = λ x below out. (let least : at ≤ x = l.lowest x (test_from_named t.bytes x out.named)
        (from_not-true (list_any (region_has x) rs) (λ inside. out.outside (here x inside))) in omega arith);
  }

  pub is_small : nat_lt 65536 (sum_by (λ (r : Region). r.len) rs + a.stack) ≡ false → total_length a t ≤ 65536
  is_small h = subst (λ (us : List Region). sum_by (λ (r : Region). r.len) us + a.stack ≤ 65536) regions (at_most (sum_by (λ (r : Region). r.len) rs + a.stack) h)
    where
      at_most : (n : ℕ) → nat_lt 65536 n ≡ false → n ≤ 65536
      at_most n h = grind (arith, nat_tests)

  pub is_large : nat_lt 65536 (sum_by (λ (r : Region). r.len) rs + a.stack) ≡ true → 65536 < total_length a t
  is_large h = subst (λ (us : List Region). 65536 < sum_by (λ (r : Region). r.len) us + a.stack) regions (above (sum_by (λ (r : Region). r.len) rs + a.stack) h)
    where
      above : (n : ℕ) → nat_lt 65536 n ≡ true → 65536 < n
      above n h = grind (arith, nat_tests)

same_first : (a : Admission) (t : Test) (x y : ℕ) → IsFirstOutside a t x → IsFirstOutside a t y → x ≡ y
same_first a t x y f g = same_number x y (λ less. g.least x less f.outside) (λ less. f.least y less g.outside)
  where
    same_number : (x y : ℕ) → (x < y → ⊥) → (y < x → ⊥) → x ≡ y
    same_number x y f g = omega arith

too_large : {n : ℕ} → n ≤ 65536 → 65536 < n → ⊥
too_large small large = omega arith

-- a test that is refused has no start state
pub refused_or_not : (a : Admission) (t : Test) (e : LoadRefusal) → IsRefused a t e → IsLoadable a t → ⊥
refused_or_not a t NotAdmitted h l = h l.admitted
refused_or_not a t RegionsLarge h l = too_large l.small h.1
refused_or_not a t (ByteOutside at) h l = h.2.outside.outside (l.inside at h.2.outside.named)
refused_or_not a t Memory h l = h

-- a test is refused for one reason
pub one_refusal : (a : Admission) (t : Test) (e d : LoadRefusal) → IsRefused a t e → IsRefused a t d → d ≡ e
one_refusal a t NotAdmitted NotAdmitted h k = refl
one_refusal a t NotAdmitted RegionsLarge h k = absurd (h k.0)
one_refusal a t NotAdmitted (ByteOutside x) h k = absurd (h k.0)
one_refusal a t RegionsLarge NotAdmitted h k = absurd (k h.0)
one_refusal a t RegionsLarge RegionsLarge h k = refl
one_refusal a t RegionsLarge (ByteOutside x) h k = absurd (too_large k.1 h.1)
one_refusal a t (ByteOutside at) NotAdmitted h k = absurd (k h.0)
one_refusal a t (ByteOutside at) RegionsLarge h k = absurd (too_large h.1 k.1)
one_refusal a t (ByteOutside at) (ByteOutside x) h k = ap ByteOutside (same_first a t x at k.2 h.2)
one_refusal a t Memory d h k = absurd h
one_refusal a t NotAdmitted Memory h k = absurd k
one_refusal a t RegionsLarge Memory h k = absurd k
one_refusal a t (ByteOutside at) Memory h k = absurd k

-- so of a test one answer is so at most
pub gives_state : (a : Admission) (t : Test) (r : Result Kept LoadRefusal) → Answers Memory (LoadsAs a t) (IsRefused a t) r → IsLoadable a t → IfErr r (λ e. e ≡ Memory)
gives_state a t (Ok s) l h = tt
gives_state a t (Err e) (inl memory) h = memory
gives_state a t (Err e) (inr is) h = absurd (refused_or_not a t e is h)

pub gives_refusal : (a : Admission) (t : Test) (r : Result Kept LoadRefusal) → Answers Memory (LoadsAs a t) (IsRefused a t) r → (e : LoadRefusal) → IsRefused a t e
    → Gives Memory r (Err e)
gives_refusal a t (Ok s) l e h = absurd (refused_or_not a t e h l.0)
gives_refusal a t (Err d) l e h = unless-map (λ (is : IsRefused a t d). ap (λ (x : LoadRefusal). Err x) (one_refusal a t d e is h)) l

-- the state of a test that is loaded is an admitted start state
pub admitted_start : (a : Admission) (t : Test) (s : Kept) → IsLoadable a t × (pure_of s ≡ start_of a t) → IsStart (pure_of s) → IsAdmittedStart a (pure_of s)
admitted_start a t s l start = subst (IsAdmittedStart a) (sym l.1) (record {
  start = subst IsStart l.1 start;
  regions = refl;
  stack = refl;
  admitted = l.0.admitted;
})

pub admitted_ok : (a : Admission) (t : Test) (r : Result Kept LoadRefusal) → Answers Memory (LoadsAs a t) (IsRefused a t) r → IfOk r (λ s. IsStart (pure_of s)) → IfOk r (λ s. IsAdmittedStart a (pure_of s))
admitted_ok a t (Ok s) l start = admitted_start a t s l start
admitted_ok a t (Err e) l start = tt
