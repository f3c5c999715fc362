-- What a run from the start state of a test may change, and the reports of tests one after another.
use Rattle.std.proofs.Common.{◌≡◌, inl, inr, ℕ, ◌+◌, ◌^◌, ◌<◌, Bool, true, false, ◌&&◌, ◌||◌, nat_lt, List, [], ◌∷◌, ◌++◌, append_assoc, append-nil, Result, Ok, Err, OnOk, length, slice_index, refl, sym, ◌∙◌, ap, subst, arith}
use Rattle.std.specs.List.{list_any}
use Rattle.std.proofs.lemmas.Bool.{false≢true}
use Rattle.std.proofs.lemmas.Bool.Decides.{nat_tests}
use Rattle.outcomes.specs.declared.memory.Memory.{Memory}
use Rattle.insn_table.specs.declared.insn.Function.{Function}
use Rattle.runs.specs.declared.ends.RunEnd.{RunEnd}
use Rattle.runs.specs.declared.ends.RunEnd.TheVariants.{Returned, Faulted, Unset, Running}
use Rattle.memory_spans.specs.declared.region.Region.{Region}
use Rattle.machine.specs.Frame.{SameUnwritable, has_address, is_writable}
use Rattle.machine.specs.Machine.{Machine}
use Rattle.memory_spans.specs.Memory.{offset_from}
use Rattle.admission.specs.declared.admission.Admission.{Admission}
use Rattle.admission.specs.Admitted.{regions_of}
use Rattle.tests_text.specs.declared.test.Test.{Test}
use Rattle.test_states.specs.declared.range.Range.{Range}
use Rattle.test_states.specs.Ranges.{in_either, in_regions, is_covered}
use Rattle.test_states.specs.declared.refusal.LoadRefusal.{LoadRefusal}
use Rattle.test_states.specs.Loads.{IsRefused}
use Rattle.test_states.specs.Starts.{IsLoadable, start_of}
use Rattle.align_report.specs.Changes.{piece_lines}
use Rattle.align_report.specs.Outputs.{output_lines}
use Rattle.align_report.specs.RunReport.{AreDetails, AreTestReports, IsTestReport, Ran, Refused, end_name, refusal_name, test_line, test_run}
use Rattle.align_report.specs.Telling.{AppendsTest}
use Rattle.align_report.specs.Writing.{AppendsChanges, AreSameOutside}

or_first_false : (b c : Bool) → (b || c) ≡ false → b ≡ false
or_first_false true c h = h
or_first_false false c h = refl

or_second_false : (b c : Bool) → (b || c) ≡ false → c ≡ false
or_second_false true c h = absurd (false≢true (sym h))
or_second_false false c h = h

or_from_false : (b c : Bool) → b ≡ false → c ≡ false → (b || c) ≡ false
or_from_false true c h k = h
or_from_false false c h k = k

and_second_false : (b c : Bool) → c ≡ false → (b && c) ≡ false
and_second_false true c h = h
and_second_false false c h = refl

writable_in_regions : (rs : List Region) (x : ℕ) → in_regions rs x ≡ false → list_any (λ (r : Region). r.write && has_address x r) rs ≡ false
writable_in_regions [] x h = refl
writable_in_regions (r ∷ rs) x h = or_from_false (r.write && has_address x r) (list_any (λ (r : Region). r.write && has_address x r) rs)
    (and_second_false r.write (has_address x r) (or_first_false (nat_lt (offset_from r.base x) r.len) (in_regions rs x) h))
    (writable_in_regions rs x (or_second_false (nat_lt (offset_from r.base x) r.len) (in_regions rs x) h))

in_declared : (n m : ℕ) → nat_lt n (m + 8) ≡ false → nat_lt n m ≡ false
in_declared n m h = grind (arith, nat_tests)

unwritable : (a : Admission) (t : Test) (x : ℕ) → in_either (slice_index t.regs 4) a.stack (regions_of t.regs a) x ≡ false → is_writable (start_of a t) x ≡ false
unwritable a t x h = or_from_false (list_any (λ (r : Region). r.write && has_address x r) (regions_of t.regs a))
    (nat_lt (offset_from (offset_from a.stack (slice_index t.regs 4)) x) a.stack)
    (writable_in_regions (regions_of t.regs a) x
    (or_second_false (nat_lt (offset_from (offset_from a.stack (slice_index t.regs 4)) x) (a.stack + 8)) (in_regions (regions_of t.regs a) x) h))
    (in_declared (offset_from (offset_from a.stack (slice_index t.regs 4)) x) a.stack
    (or_first_false (nat_lt (offset_from (offset_from a.stack (slice_index t.regs 4)) x) (a.stack + 8)) (in_regions (regions_of t.regs a) x) h))

-- a run from a test's start state changes no byte outside of the ranges
pub same_outside : (a : Admission) (t : Test) (start end : Machine) (ranges : List Range) → start ≡ start_of a t
    → ((x : ℕ) → x < 2 ^ 64 → is_covered ranges x ≡ in_either (slice_index t.regs 4) a.stack (regions_of t.regs a) x)
    → SameUnwritable start end → AreSameOutside ranges start.memory end.memory
same_outside a t start end ranges is covered frame = λ x small out. elim (frame x) [
  | inl same ↦ sym same
  | inr writable ↦ absurd (false≢true (sym (unwritable a t x (sym (covered x small) ∙ out)) ∙ subst (λ (m : Machine). is_writable m x ≡ true) is writable))
]

-- the report of a run that returned
pub returned : (f : Function) (a : Admission) (steps k n : ℕ) (t : Test) (end : Machine) (before first second after : List ℕ) → IsLoadable a t
    → test_run f a steps t ≡ (end, Returned n) → first ≡ before ++ test_line k (end_name (Returned n)) → second ≡ first ++ output_lines end a.live
    → AppendsChanges (start_of a t).memory end.memory second after → AppendsTest f a steps k t before after
returned f a steps k n t end before first second after loadable run line outputs changes = record {
  here = test_line k (end_name (Returned n)) ++ (output_lines end a.live ++ piece_lines end.memory changes.pieces);
  lines = changes.lines ∙ ap (λ s. s ++ piece_lines end.memory changes.pieces) (outputs ∙ ap (λ s. s ++ output_lines end a.live) line)
      ∙ append_assoc (before ++ test_line k (end_name (Returned n))) (output_lines end a.live) (piece_lines end.memory changes.pieces)
      ∙ append_assoc before (test_line k (end_name (Returned n))) (output_lines end a.live ++ piece_lines end.memory changes.pieces);
  is = Ran (output_lines end a.live ++ piece_lines end.memory changes.pieces) loadable
      (subst (λ r. AreDetails a.live (start_of a t) r (output_lines end a.live ++ piece_lines end.memory changes.pieces)) (sym run)
      (record { pieces = changes.pieces; changed = changes.are; lines = refl }))
      (ap (λ e. test_line k (end_name e) ++ (output_lines end a.live ++ piece_lines end.memory changes.pieces)) (ap (λ r. r.1) (sym run)));
}

-- the report of a run that ended otherwise
pub not_returned : (f : Function) (a : Admission) (steps k : ℕ) (t : Test) (end : Machine) (e : RunEnd) (before after : List ℕ) → IsLoadable a t
    → test_run f a steps t ≡ (end, e) → ((n : ℕ) → e ≡ Returned n → ⊥) → after ≡ before ++ test_line k (end_name e) → AppendsTest f a steps k t before after
not_returned f a steps k t end e before after loadable run other line = record {
  here = test_line k (end_name e);
  lines = line;
  is = Ran [] loadable (subst (λ r. AreDetails a.live (start_of a t) r []) (sym run) (nothing e other))
      (sym (append-nil (test_line k (end_name e))) ∙ ap (λ x. test_line k (end_name x) ++ []) (ap (λ r. r.1) (sym run)));
}
  where
    nothing : (e : RunEnd) → ((n : ℕ) → e ≡ Returned n → ⊥) → AreDetails a.live (start_of a t) (end, e) []
    nothing (Returned n) other = absurd (other n refl)
    nothing (Faulted n) other = refl
    nothing (Unset n) other = refl
    nothing Running other = refl

-- one report more
pub reports_more : (f : Function) (a : Admission) (steps k n : ℕ) (ts : List Test) (t : Test) (text here : List ℕ) → AreTestReports f a steps k ts text
    → n ≡ k + length ts → IsTestReport f a steps n t here → AreTestReports f a steps k (ts ++ t ∷ []) (text ++ here)
reports_more f a steps k n [] t text here are same is =
    let e : n ≡ k = omega (arith, same) in
    (here, [], rw are (sym (append-nil here)), subst (λ j. IsTestReport f a steps j t here) e is, refl)
reports_more f a steps k n (s ∷ ss) t text here are same is = (
  are.0,
  are.1 ++ here,
  ap (λ u. u ++ here) are.2 ∙ append_assoc are.0 are.1 here,
  are.3,
  reports_more f a steps (k + 1) n ss t are.1 here are.4 (omega (arith, same)) is,
)

-- the report of a test that has no start state
pub refused : (f : Function) (a : Admission) (steps k : ℕ) (t : Test) (e : LoadRefusal) (before after : List ℕ) (r : Result (Unit {0}) Memory) → IsRefused a t e
    → OnOk r (after ≡ before ++ test_line k (refusal_name e)) → OnOk r (AppendsTest f a steps k t before after)
refused f a steps k t e before after (Ok u) is line = record { here = test_line k (refusal_name e); lines = line; is = Refused e is refl }
refused f a steps k t e before after (Err m) is line = tt
