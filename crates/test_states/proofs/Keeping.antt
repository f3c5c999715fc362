-- The start state of a test is kept in the spans of its ranges.
use Rattle.std.proofs.Common.{◌≡◌, ℕ, ◌+◌, ◌%◌, ◌^◌, ◌<◌, ◌≤◌, ◌==◌, Bool, true, false, ◌||◌, nat_lt, List, [], ◌∷◌, slice_index, inl, inr, refl, sym, ◌∙◌, subst, arith}
use Rattle.std.specs.List.{AllByRecursion, Any, list_any}
use Rattle.std.proofs.lemmas.Bool.{cases_Bool, eqb-true, false≢true}
use Rattle.std.proofs.lemmas.Bool.Decides.{nat_tests}
use Rattle.std.proofs.lemmas.List.Folds.{Any-from_list_any, list_any-from_Any}
use Rattle.lane_views.specs.declared.Bytes32.{Bytes32}
use Rattle.memory_spans.specs.declared.region.Region.{Region}
use Rattle.memory_spans.specs.declared.span.Span.{Span}
use Rattle.memory_spans.specs.Spans.{AreOrdered, byte_of, is_spanned}
use Rattle.machine.specs.Kept.{IsKept, pure_of}
use Rattle.memory_spans.specs.Memory.{offset_from}
use Rattle.machine.specs.Start.{kept_start}
use Rattle.admission.specs.declared.admission.Admission.{Admission}
use Rattle.admission.specs.Admitted.{HasByte, IsPlaced, regions_of}
use Rattle.tests_text.specs.declared.test.Test.{Test}
use Rattle.test_states.specs.declared.range.Range.{Range}
use Rattle.test_states.specs.Naming.{named_or}
use Rattle.test_states.specs.Ranges.{in_either, in_regions, is_covered}
use Rattle.test_states.specs.Starts.{IsInRegion, IsNamed, start_of}
use Rattle.test_states.proofs.Naming.{unnamed}
use Rattle.test_states.proofs.Spanning.{unspanned}

or_first : (b c : Bool) → b ≡ true → (b || c) ≡ true
or_first true c h = refl
or_first false c h = absurd (false≢true h)

or_second : (b c : Bool) → c ≡ true → (b || c) ≡ true
or_second true c h = refl
or_second false c h = h

below_test : (a b : ℕ) → a < b → nat_lt a b ≡ true
below_test a b h = grind (arith, nat_tests)

offset_in : (base len at : ℕ) → base ≤ at → at < base + len → at < 2 ^ 64 → offset_from base at < len
offset_in base len at low high small = omega arith

spanned_regions : (pointer stack : ℕ) (spans : List Span) (rs : List Region) → AllByRecursion (IsPlaced pointer stack) rs
    → ((at : ℕ) → at < 2 ^ 64 → in_regions rs at ≡ true → is_spanned spans at ≡ true)
    → AllByRecursion (λ (r : Region). (at : ℕ) → r.base ≤ at → at < r.base + r.len → is_spanned spans at ≡ true) rs
spanned_regions pointer stack spans [] all covers = tt
spanned_regions pointer stack spans (r ∷ rs) all covers = (
  λ at low high. (let small : at < 2 ^ 64 = omega (arith, all.0.fits) in
      covers at small (or_first (nat_lt (offset_from r.base at) r.len) (in_regions rs at) (below_test (offset_from r.base at) r.len (offset_in r.base r.len at low high small)))),
  spanned_regions pointer stack spans rs all.1 (λ at small h. covers at small (or_second (nat_lt (offset_from r.base at) r.len) (in_regions rs at) h)),
)

-- spans that have the addresses of the stack range and of regions that are placed
pub start_is_kept : (regs : List ℕ) (vecs : List Bytes32) (spans : List Span) (rs : List Region) (stack : ℕ) (ranges : List Range)
    → stack ≤ 4096 → AllByRecursion (IsPlaced (slice_index regs 4) stack) rs → AreOrdered 0 spans
    → ((x : ℕ) → is_spanned spans x ≡ is_covered ranges x)
    → ((x : ℕ) → x < 2 ^ 64 → is_covered ranges x ≡ in_either (slice_index regs 4) stack rs x)
    → IsKept (kept_start regs vecs spans rs stack)
start_is_kept regs vecs spans rs stack ranges small placed ordered spanned covered = record {
  ordered = ordered;
  regions = placed;
  spanned = spanned_regions (slice_index regs 4) stack spans rs placed (λ at low h. spanned at ∙ covered at low
      ∙ or_second (nat_lt (offset_from (offset_from stack (slice_index regs 4)) at) (stack + 8)) (in_regions rs at) h);
  stack_spanned = λ at low inside. spanned at ∙ covered at low
      ∙ or_first (nat_lt (offset_from (offset_from stack (slice_index regs 4)) at) (stack + 8)) (in_regions rs at)
      (below_test (offset_from (offset_from stack (slice_index regs 4)) at) (stack + 8) inside);
  small = small;
}

-- the test of pairs for an address, in words
pub named_from_test : (named : List (ℕ × ℕ)) (at : ℕ) → list_any (λ (pair : ℕ × ℕ). pair.0 == at) named ≡ true → Any (λ (pair : ℕ × ℕ). pair.0 ≡ at) named
named_from_test named at h = let a = Any-from_list_any (λ (pair : ℕ × ℕ). pair.0 == at) named h in (a.0, a.1, a.2, a.3, eqb-true a.1.0 at a.4)

in_regions_from : (rs : List Region) (x : ℕ) → x < 2 ^ 64 → Any (λ (r : Region). HasByte r x) rs → in_regions rs x ≡ true
in_regions_from rs x small a = list_any-from_Any (λ (r : Region). nat_lt (offset_from r.base x) r.len) rs
    (a.0, a.1, a.2, a.3, below_test (offset_from a.1.base x) a.1.len (offset_in a.1.base a.1.len x a.4.0 a.4.1 small))

-- such spans, whose bytes are as the test names them, mean the start state of the test
module _ (a : Admission) (t : Test) (spans : List Span) (rs : List Region) (ranges : List Range)
    (regions : rs ≡ regions_of t.regs a)
    (spanned : (x : ℕ) → is_spanned spans x ≡ is_covered ranges x)
    (bytes : (x : ℕ) → is_covered ranges x ≡ true → byte_of spans x ≡ named_or 0 t.bytes x)
    (covered : (x : ℕ) → x < 2 ^ 64 → is_covered ranges x ≡ in_either (slice_index t.regs 4) a.stack rs x)
    (inside : (at : ℕ) → IsNamed t at → IsInRegion a t at) where
  covers_named : (x : ℕ) → x < 2 ^ 64 → IsNamed t x → is_covered ranges x ≡ true
  covers_named x small named = covered x small
      ∙ or_second (nat_lt (offset_from (offset_from a.stack (slice_index t.regs 4)) x) (a.stack + 8)) (in_regions rs x)
      (in_regions_from rs x small (subst (λ (us : List Region). Any (λ (r : Region). HasByte r x) us) (sym regions) (inside x named)))

  same_byte : (x : ℕ) → x < 2 ^ 64 → byte_of spans x ≡ named_or 0 t.bytes x
  same_byte x small = elim (cases_Bool (is_covered ranges x)) [
    | inl there ↦ bytes x there
    | inr not_there ↦ unspanned spans x (spanned x ∙ not_there) ∙ sym (elim (cases_Bool (list_any (λ (pair : ℕ × ℕ). pair.0 == x) t.bytes)) [
      | inl named ↦ absurd (false≢true (sym not_there ∙ covers_named x small (named_from_test t.bytes x named)))
      | inr not_named ↦ unnamed 0 t.bytes x not_named
    ])
  ]

  wrapped : (x : ℕ) → x % 2 ^ 64 < 2 ^ 64
  wrapped x = omega arith

  pub start_is_pure : pure_of (kept_start t.regs t.vecs spans rs a.stack) ≡ start_of a t
  start_is_pure = λ i. record (start_of a t) { memory = λ x. same_byte (x % 2 ^ 64) (wrapped x) i; regions = regions i }
