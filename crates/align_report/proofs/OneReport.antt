-- There is one report at most.
use Rattle.std.proofs.Common.{◌≡◌, inl, inr, ℕ, ◌+◌, ◌^◌, ◌<◌, ◌≤◌, List, [], ◌∷◌, ◌++◌, refl, sym, ◌∙◌, ap, subst, arith}
use Rattle.insn_ops.specs.declared.output.Output.{Output}
use Rattle.insn_table.specs.declared.insn.Function.{Function}
use Rattle.runs.specs.Run.{Run}
use Rattle.runs.specs.declared.ends.RunEnd.TheVariants.{Returned, Faulted, Unset, Running}
use Rattle.machine.specs.Machine.{Machine}
use Rattle.admission.specs.declared.admission.Admission.{Admission}
use Rattle.tests_text.specs.declared.test.Test.{Test}
use Rattle.test_states.specs.Starts.{start_of}
use Rattle.test_states.proofs.Loading.{one_refusal, refused_or_not}
use Rattle.align_report.specs.Changes.{ArePieces, IsPiece, piece_lines}
use Rattle.align_report.specs.Outputs.{output_lines}
use Rattle.align_report.specs.RunReport.{AreDetails, AreTestReports, IsTestReport, Ran, Refused, end_name, refusal_name, test_line, test_run}

module _ (old new : ℕ → ℕ) where
  no_piece : (from at n : ℕ) → from ≤ at → IsPiece old new at n → ((x : ℕ) → from ≤ x → x < 2 ^ 64 → old x ≡ new x) → ⊥
  no_piece from at n low p same = p.changed at (omega arith) (omega (arith, p.some)) (same at low (omega (arith, p.some, p.within)))

  not_sooner : (from a n b m : ℕ) → from ≤ a → IsPiece old new a n → ((x : ℕ) → from ≤ x → x < b → old x ≡ new x) → a < b → ⊥
  not_sooner from a n b m low p same less = p.changed a (omega arith) (omega (arith, p.some)) (same a low less)

  not_shorter : (a n m : ℕ) → IsPiece old new a n → IsPiece old new a m → n < m → ⊥
  not_shorter a n m p q less = elim (p.whole (omega (arith, q.few))) [
    | inl end ↦ omega (arith, end, q.within)
    | inr same ↦ q.changed (a + n) (omega arith) (omega arith) same
  ]

  same_number : (a b : ℕ) → (a < b → ⊥) → (b < a → ⊥) → a ≡ b
  same_number a b f g = omega arith

  one_list : (from : ℕ) (ps qs : List (ℕ × ℕ)) → ArePieces old new from ps → ArePieces old new from qs → ps ≡ qs
  one_list from [] [] are be = refl
  one_list from [] (q ∷ qs) are be = absurd (no_piece from q.0 q.1 be.0 be.2 are)
  one_list from (p ∷ ps) [] are be = absurd (no_piece from p.0 p.1 are.0 are.2 be)
  one_list from (p ∷ ps) (q ∷ qs) are be =
      let at : p.0 ≡ q.0 = same_number p.0 q.0 (not_sooner from p.0 p.1 q.0 q.1 are.0 are.2 be.1) (not_sooner from q.0 q.1 p.0 p.1 be.0 be.2 are.1) in
      let here : IsPiece old new q.0 p.1 = subst (λ x. IsPiece old new x p.1) at are.2 in
      let n : p.1 ≡ q.1 = same_number p.1 q.1 (not_shorter q.0 p.1 q.1 here be.2) (not_shorter q.0 q.1 p.1 be.2 here) in
      let rest : ArePieces old new (q.0 + q.1) ps = subst (λ x. ArePieces old new x ps) (λ i. at i + n i) are.3 in
      λ i. (at i, n i) ∷ one_list (q.0 + q.1) ps qs rest be.3 i

one_details : (live : List Output) (start : Machine) (run : Run Machine) (x y : List ℕ) → AreDetails live start run x → AreDetails live start run y → x ≡ y
one_details live start (s, Returned n) x y are be =
    are.lines ∙ ap (λ ps. output_lines s live ++ piece_lines s.memory ps) (one_list start.memory s.memory 0 are.pieces be.pieces are.changed be.changed) ∙ sym be.lines
one_details live start (s, Faulted n) x y are be = are ∙ sym be
one_details live start (s, Unset n) x y are be = are ∙ sym be
one_details live start (s, Running) x y are be = are ∙ sym be

one_test : (f : Function) (a : Admission) (steps k : ℕ) (t : Test) (x y : List ℕ) → IsTestReport f a steps k t x → IsTestReport f a steps k t y → x ≡ y
one_test f a steps k t x y (Refused e h is) (Refused d g be) = is ∙ ap (λ r. test_line k (refusal_name r)) (sym (one_refusal a t e d h g)) ∙ sym be
one_test f a steps k t x y (Refused e h is) (Ran details l are be) = absurd (refused_or_not a t e h l)
one_test f a steps k t x y (Ran details l are is) (Refused d g be) = absurd (refused_or_not a t d g l)
one_test f a steps k t x y (Ran details l are is) (Ran others m also be) =
    is ∙ ap (λ s. test_line k (end_name (test_run f a steps t).1) ++ s) (one_details a.live (start_of a t) (test_run f a steps t) details others are also) ∙ sym be

pub one_text : (f : Function) (a : Admission) (steps k : ℕ) (ts : List Test) (x y : List ℕ) → AreTestReports f a steps k ts x → AreTestReports f a steps k ts y → x ≡ y
one_text f a steps k [] x y are be = are ∙ sym be
one_text f a steps k (t ∷ ts) x y are be =
    are.2 ∙ ap (λ s. s ++ are.1) (one_test f a steps k t are.0 be.0 are.3 be.3) ∙ ap (λ s. be.0 ++ s) (one_text f a steps (k + 1) ts are.1 be.1 are.4 be.4) ∙ sym be.2
