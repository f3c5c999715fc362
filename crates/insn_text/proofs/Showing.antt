-- The lines of a function, one after another.
use Rattle.std.proofs.Common.{◌≡◌, ◌↔◌, ℕ, ◌+◌, ◌<◌, ◌≤◌, Bool, IsTrue, List, [], ◌∷◌, ◌++◌, length, drop, get_or, refl, sym, ◌∙◌, ap, subst, append_assoc, add-one}
use Rattle.std.proofs.Math.Seq.{drop-cons}
use Rattle.std.proofs.lemmas.List.{append-nil, drop_all}
use Rattle.flow_graph.specs.Flows.{IsCut, flows_of}
use Rattle.insn_table.specs.declared.insn.Function.{Function}
use Rattle.insn_table.specs.declared.insn.Insn.{Insn}
use Rattle.insn_text.specs.ShowText.{AreLines, IsShown, heading, insn_line}

-- the heading and the lines of the first n instructions, to which those of the others can be added
pub record IsShownUpTo (f : Function) (n : ℕ) (text : List ℕ) : Type 0 where
  pub done : List ℕ
  pub whole : text ≡ heading f ++ done
  pub rest : (more : List ℕ) → AreLines (flows_of f.insns) n (drop n f.insns) more → AreLines (flows_of f.insns) 0 f.insns (done ++ more)

-- the heading alone
pub shown-none : (f : Function) (text : List ℕ) → text ≡ heading f → IsShownUpTo f 0 text
shown-none f text h = record { done = []; whole = h ∙ sym (append-nil (heading f)); rest = λ more are. are }

-- the line of one instruction more
pub shown-more : (f : Function) (insns : List Insn) (n : ℕ) (old new line : List ℕ) (marked : Bool) (d : Insn) → insns ≡ f.insns → n < length insns
    → (IsTrue marked ↔ IsCut (flows_of f.insns) n) → line ≡ insn_line marked n (get_or insns n d) → new ≡ old ++ line → IsShownUpTo f n old → IsShownUpTo f (n + 1) new
shown-more f insns n old new line marked d same lt marks is made so_far = record {
  done = so_far.done ++ line;
  whole = made ∙ ap (λ (xs : List ℕ). xs ++ line) so_far.whole ∙ append_assoc (heading f) so_far.done line;
  rest = λ more are.
      let next : AreLines (flows_of f.insns) n (get_or f.insns n d ∷ drop (n + 1) f.insns) (line ++ more) =
      (marked, more, marks, ap (λ (xs : List ℕ). xs ++ more) is_line, are) in
      let here : AreLines (flows_of f.insns) n (drop n f.insns) (line ++ more) =
      subst (λ (is : List Insn). AreLines (flows_of f.insns) n is (line ++ more)) (sym (drop_at f.insns n d (subst (λ (is : List Insn). n < length is) same lt))) next in
      subst (λ (xs : List ℕ). AreLines (flows_of f.insns) 0 f.insns xs) (sym (append_assoc so_far.done line more)) (so_far.rest (line ++ more) here);
}
  where
    is_line : line ≡ insn_line marked n (get_or f.insns n d)
    is_line = subst (λ (is : List Insn). line ≡ insn_line marked n (get_or is n d)) same is

    drop_at : (insns : List Insn) (n : ℕ) (d : Insn) → n < length insns → drop n insns ≡ get_or insns n d ∷ drop (n + 1) insns
    drop_at insns n d lt = rw add-one (drop-cons insns n d lt)

-- all lines
pub shown-all : (f : Function) (n : ℕ) (text : List ℕ) → length f.insns ≤ n → IsShownUpTo f n text → IsShown f text
shown-all f n text le so_far = record {
  lines = so_far.done ++ [];
  whole = so_far.whole ∙ ap (λ (xs : List ℕ). heading f ++ xs) (sym (append-nil so_far.done));
  each = so_far.rest [] (subst (λ (is : List Insn). AreLines (flows_of f.insns) n is []) (sym (drop_all n f.insns le)) refl);
}
