-- What the answer of fits says of the forms.
use Rattle.std.proofs.Common.{◌≡◌, ℕ, Bool, true, false, ◌↔◌, if◌then◌else◌, List, [], ◌∷◌, Option, Some, None, Result, Ok, Err, refl, sym, ◌∙◌, subst, arith}
use Rattle.std.specs.List.{find, list_any}
use Rattle.std.proofs.lemmas.Grind.{common_steps}
use Rattle.std.proofs.lemmas.Bool.{false≢true}
use Rattle.insn_table.specs.declared.insn.Operand.{Operand}
use Rattle.insn_table.specs.declared.insn.Insn.{Insn}
use Rattle.insn_spellings.specs.declared.shape.Shape.{Shape}
use Rattle.insn_table.specs.declared.fitting.Misfit.{Misfit}
use Rattle.insn_table.specs.declared.fitting.Misfit.TheVariants.{BadOperand, BadNumber}
use Rattle.insn_spellings.specs.Widths.{is_shape}
use Rattle.insn_table.specs.Classes.{OperandForm, takes}
use Rattle.insn_table.specs.Forms.{forms, insn_of, found_form, judged_by, fits_of, HasForm}

-- none is found where none passes, and one is found where one passes
find-none : {X : Type 0} (p : X → Bool) (xs : List X) → find p xs ≡ None → list_any p xs ≡ false
find-none p [] h = refl
find-none p (x ∷ xs) h = grind (arith, common_steps, find-none p xs)

find-some : {X : Type 0} (p : X → Bool) (xs : List X) (y : X) → find p xs ≡ Some y → list_any p xs ≡ true
find-some p [] y h = cc
find-some p (x ∷ xs) y h = grind (arith, common_steps, find-some p xs y)

found-no_bad_operand : (b : Bool) (i : Insn) → (if b then Ok i else Err BadNumber) ≡ Err BadOperand → ⊥
found-no_bad_operand true i h = cc
found-no_bad_operand false i h = cc

-- no form was found where the shape has no mnemonic, or no form takes the operands
not_named : (b : Bool) (found : Option OperandForm) → (if b then found else None) ≡ None → b ≡ true → found ≡ None
not_named true found h b = h
not_named false found h b = cc

none-any : (shape : Shape) (i : Insn) → found_form shape i ≡ None → HasForm shape i → ⊥
none-any shape i h has =
    let none : list_any (takes i.args) (forms i.op i.vex i.w) ≡ false =
    find-none (takes i.args) (forms i.op i.vex i.w) (not_named (is_shape shape) _ h has.named) in
    false≢true (sym none ∙ has.taken)

some-named : (b : Bool) (found : Option OperandForm) (form : OperandForm) → (if b then found else None) ≡ Some form → (b ≡ true) × (found ≡ Some form)
some-named true found form h = (refl, h)
some-named false found form h = cc

some-has : (shape : Shape) (i : Insn) (form : OperandForm) → found_form shape i ≡ Some form → HasForm shape i
some-has shape i form h =
    let found = some-named (is_shape shape) (find (takes i.args) (forms i.op i.vex i.w)) form h in
    record { named = found.0; taken = find-some (takes i.args) (forms i.op i.vex i.w) form found.1 }

bad_operand-found : (shape : Shape) (i : Insn) (found : Option OperandForm) → found ≡ found_form shape i → (judged_by found i ≡ Err BadOperand) ↔ (HasForm shape i → ⊥)
bad_operand-found shape i None e = ((λ h has. none-any shape i (sym e) has), (λ n. refl))
bad_operand-found shape i (Some form) e = ((λ h. absurd (found-no_bad_operand _ i h)), (λ n. absurd (n (some-has shape i form (sym e)))))

-- fits answers BadOperand exactly where no mnemonic names the shape or no form takes the kinds of operands
pub bad_operand_clause : (shape : Shape) (args : List Operand) (line : ℕ) (r : Result Insn Misfit) → r ≡ fits_of shape args line
    → (r ≡ Err BadOperand) ↔ (HasForm shape (insn_of shape args line) → ⊥)
bad_operand_clause shape args line r e =
    let i : Insn = insn_of shape args line in
    subst (λ (x : Result Insn Misfit). (x ≡ Err BadOperand) ↔ (HasForm shape (insn_of shape args line) → ⊥)) (sym e) (bad_operand-found shape i (found_form shape i) refl)
