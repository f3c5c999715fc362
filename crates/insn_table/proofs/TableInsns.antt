-- Instructions of the table have mnemonics, and fits answers such instructions.
use Rattle.std.proofs.Common.{◌≡◌, ℕ, zero, suc, Bool, true, false, ◌&&◌, ◌||◌, ◌==◌, if◌then◌else◌, List, [], ◌∷◌, Option, Some, None, Ok, Err, refl, sym, ap, ◌∙◌, subst, inl, inr, ◌⊎◌, ⊎_elim, arith}
use Rattle.std.specs.List.{AllByRecursion, list_any, find}
use Rattle.std.proofs.lemmas.Bool.Decides.{Decides-eqb, nat_tests}
use Rattle.std.proofs.lemmas.Bool.{and_parts, or_cases}
use Rattle.insn_ops.specs.declared.op.Op.{Op}
use Rattle.insn_ops.specs.declared.op.Op.TheVariants.{Mov, Shl, Shr, Sar, Vector}
use Rattle.insn_ops.specs.declared.vector_op.VectorOp.TheVariants.{Moving}
use Rattle.insn_ops.specs.declared.vector_op.MoveOp.TheVariants.{Movq}
use Rattle.insn_table.specs.declared.insn.Operand.{Operand}
use Rattle.insn_table.specs.declared.insn.Operand.TheVariants.{Reg, Imm, Mem, Vec, Pool, Target, Nothing}
use Rattle.insn_table.specs.declared.insn.Insn.{Insn}
use Rattle.insn_spellings.specs.declared.shape.Shape.{Shape}
use Rattle.insn_table.specs.declared.fitting.Misfit.TheVariants.{BadNumber}
use Rattle.insn_spellings.specs.Rows.{general, named}
use Rattle.insn_spellings.specs.Spellings.{table_rows}
use Rattle.insn_spellings.specs.Widths.{is_wide, has_suffix, has_shape, is_shape}
use Rattle.insn_table.specs.Classes.{OperandForm, takes, numbers_fit}
use Rattle.insn_table.specs.Forms.{forms, is_shift, is_lone, counted_once, completed, width_of, is_quadword_move, is_vector, chosen, insn_with, insn_of, found_form, judged_by, fits_of}
use Rattle.insn_table.specs.Table.{HasRegisters, IsTableInsn}
use Rattle.insn_spellings.proofs.Rows.{rows-named, named-row}

-- the wide widths
pub wide-cases : (w : ℕ) → is_wide w ≡ true → (w ≡ 16) ⊎ ((w ≡ 32) ⊎ (w ≡ 64))
wide-cases w h =
    ⊎_elim (λ (e : (w == 16) ≡ true). inl ((Decides-eqb w 16).0 e))
    (λ (e : (w == 32 || w == 64) ≡ true). ⊎_elim (λ (f : (w == 32) ≡ true). inr (inl ((Decides-eqb w 32).0 f))) (λ (f : (w == 64) ≡ true). inr (inr ((Decides-eqb w 64).0 f))) (or_cases _ _ e))
    (or_cases _ _ h)

judged-same : (b : Bool) (i j : Insn) → (if b then Ok i else Err BadNumber) ≡ Ok j → (i ≡ j) × (b ≡ true)
judged-same true i j h = (cc, refl)
judged-same false i j h = cc

-- an accepted instruction is the one that is judged, and a form was found for it, which its numbers fit
pub judged-ok : (found : Option OperandForm) (i j : Insn) → judged_by found i ≡ Ok j
    → (i ≡ j) × ((form : OperandForm) × (found ≡ Some form) × (numbers_fit i.args form ≡ true))
judged-ok None i j h = cc
judged-ok (Some form) i j h =
    let same = judged-same (numbers_fit i.args form) i j h in (same.0, (form, refl, same.1))

found-named : (b : Bool) (found : Option OperandForm) (form : OperandForm) → (if b then found else None) ≡ Some form → (b ≡ true) × (found ≡ Some form)
found-named true found form h = (refl, h)
found-named false found form h = cc

-- What an accepted instruction passed: it is made of the shape, a mnemonic names the shape, and a form takes its operands.
pub record IsMade (shape : Shape) (args : List Operand) (line : ℕ) (i : Insn) : Type 0 where
  pub same : insn_of shape args line ≡ i
  pub named : is_shape shape ≡ true
  pub form : OperandForm
  pub taken : find (takes i.args) (forms i.op i.vex i.w) ≡ Some form
  pub numbers : numbers_fit i.args form ≡ true

-- fits makes instructions that passed
pub fitted-made : (shape : Shape) (args : List Operand) (line : ℕ) (i : Insn) → fits_of shape args line ≡ Ok i → IsMade shape args line i
fitted-made shape args line i good =
    let judged = judged-ok (found_form shape (insn_of shape args line)) (insn_of shape args line) i good in
    let found = found-named (is_shape shape) _ judged.1.0 judged.1.1 in
    record {
      same = judged.0;
      named = found.0;
      form = judged.1.0;
      taken = subst (λ (x : Insn). find (takes x.args) (forms x.op x.vex x.w) ≡ Some judged.1.0) judged.0 found.1;
      numbers = subst (λ (x : Insn). numbers_fit x.args judged.1.0 ≡ true) judged.0 judged.1.2;
    }

-- completing the operands twice is completing them once
lone-counted : (args : List Operand) → is_lone (counted_once args) ≡ false
lone-counted [] = refl
lone-counted (Reg n w ∷ []) = refl
lone-counted (Imm v ∷ []) = refl
lone-counted (Mem base index scale disp ∷ []) = refl
lone-counted (Vec n w ∷ []) = refl
lone-counted (Pool at ∷ []) = refl
lone-counted (Target place ∷ []) = refl
lone-counted (Nothing ∷ []) = refl
lone-counted (first ∷ second ∷ rest) = refl

completed_again : (shift lone : Bool) (args : List Operand) → is_lone args ≡ lone →
    (if shift && is_lone (if shift && is_lone args then counted_once args else args) then counted_once (if shift && is_lone args then counted_once args else args) else (if shift && is_lone args then counted_once args else args))
    ≡ (if shift && is_lone args then counted_once args else args)
completed_again false lone args e = refl
completed_again true false args e = rw (e, e) refl
completed_again true true args e = rw (e, lone-counted args) refl

completed-twice : (op : Op) (args : List Operand) → completed op (completed op args) ≡ completed op args
completed-twice op args = completed_again (is_shift op) (is_lone args) args refl

-- a shift is chosen of its own shape alone, which has a width
shift_chosen : (b : Bool) (shape : Shape) → is_shift (if b then general (Vector (Moving Movq)) 128 else shape).op ≡ true → is_shift shape.op ≡ true
shift_chosen true shape h = cc
shift_chosen false shape h = h

shift-no_move : (op : Op) (w : ℕ) (vex : Bool) → is_shift op ≡ true → is_quadword_move op w vex ≡ false
shift-no_move Mov w vex h = cc
shift-no_move _ w vex h = refl

shift-kept : (shape : Shape) (args : List Operand) → is_shift shape.op ≡ true → chosen shape args ≡ shape
shift-kept shape args h = rw (shift-no_move shape.op shape.w shape.vex h) refl

suffix-wide : (w : ℕ) → has_suffix w ≡ true → (w == 0) ≡ false
suffix-wide zero h = cc
suffix-wide (suc w) h = grind (arith, nat_tests)

shift-wide : (op : Op) (vex : Bool) (w : ℕ) → is_shift op ≡ true → has_shape op vex w ≡ true → (w == 0) ≡ false
shift-wide Shl vex w h s = suffix-wide w (and_parts _ _ s).1
shift-wide Shr vex w h s = suffix-wide w (and_parts _ _ s).1
shift-wide Sar vex w h s = suffix-wide w (and_parts _ _ s).1
shift-wide _ vex w h s = cc

-- an operation that doesn't shift keeps its operands, so it is made of them again
unshifted-again : (shape : Shape) (args : List Operand) (line : ℕ) (i : Insn) → is_shift (chosen shape args).op ≡ false → fits_of shape args line ≡ Ok i → fits_of shape i.args i.line ≡ Ok i
unshifted-again shape args line i kept good =
    let made = fitted-made shape args line i good in
    let complete : completed (chosen shape args).op args ≡ args = rw kept refl in
    let operands : args ≡ i.args = sym complete ∙ ap (λ (x : Insn). x.args) made.same in
    let place : line ≡ i.line = ap (λ (x : Insn). x.line) made.same in
    subst (λ (x : List Operand). fits_of shape x i.line ≡ Ok i) operands (subst (λ (n : ℕ). fits_of shape args n ≡ Ok i) place good)

-- a shift is made again of its completed operands
shift_made-again : (shape : Shape) (args : List Operand) (line : ℕ) → is_shift shape.op ≡ true → (shape.w == 0) ≡ false
    → insn_of shape (completed shape.op args) line ≡ insn_with shape args line
shift_made-again shape args line shift wide =
    let width : width_of shape (completed shape.op args) ≡ width_of shape args = rw wide refl in
    let again : insn_with shape (completed shape.op args) line ≡ insn_with shape args line =
    (λ k. record { op = shape.op; w = width k; vex = shape.vex; args = completed-twice shape.op args k; line = line }) in
    ap (λ (row : Shape). insn_with row (completed shape.op args) line) (shift-kept shape (completed shape.op args) shift) ∙ again

shifted-again : (shape : Shape) (args : List Operand) (line : ℕ) (i : Insn) → is_shift (chosen shape args).op ≡ true → fits_of shape args line ≡ Ok i → fits_of shape i.args i.line ≡ Ok i
shifted-again shape args line i shifts good =
    let made = fitted-made shape args line i good in
    let shift : is_shift shape.op ≡ true = shift_chosen (is_quadword_move shape.op shape.w shape.vex && list_any is_vector args) shape shifts in
    let wide : (shape.w == 0) ≡ false = shift-wide shape.op shape.vex shape.w shift made.named in
    let whole : insn_of shape args line ≡ insn_with shape args line = ap (λ (row : Shape). insn_with row args line) (shift-kept shape args shift) in
    let judged : judged_by (found_form shape (insn_with shape args line)) (insn_with shape args line) ≡ Ok i =
    subst (λ (x : Insn). judged_by (found_form shape x) x ≡ Ok i) whole good in
    let again : fits_of shape (completed shape.op args) line ≡ Ok i =
    ap (λ (x : Insn). judged_by (found_form shape x) x) (shift_made-again shape args line shift wide) ∙ judged in
    let same : insn_with shape args line ≡ i = sym whole ∙ made.same in
    subst (λ (x : Insn). fits_of shape x.args x.line ≡ Ok i) same again

again_by : (b : Bool) (shape : Shape) (args : List Operand) (line : ℕ) (i : Insn) → is_shift (chosen shape args).op ≡ b → fits_of shape args line ≡ Ok i → fits_of shape i.args i.line ≡ Ok i
again_by true shape args line i e good = shifted-again shape args line i e good
again_by false shape args line i e good = unshifted-again shape args line i e good

-- fits makes an instruction again of the operands of one that it made
pub fitted-again : (shape : Shape) (args : List Operand) (line : ℕ) (i : Insn) → fits_of shape args line ≡ Ok i → fits_of shape i.args i.line ≡ Ok i
fitted-again shape args line i good = again_by (is_shift (chosen shape args).op) shape args line i refl good

-- what fits makes of a named shape, with registers that there are, is an instruction of the table
pub fitted-insn : (mnemonic : List ℕ) (shape : Shape) (args : List Operand) (line : ℕ) (i : Insn) → named table_rows mnemonic ≡ Some shape → fits_of shape args line ≡ Ok i → AllByRecursion HasRegisters i.args → IsTableInsn i
fitted-insn mnemonic shape args line i h good registers = record {
  mnemonic = mnemonic;
  shape = shape;
  row = named-row mnemonic shape h;
  accepted = fitted-again shape args line i good;
  registers = registers;
}

pub table-mnemonic : (i : Insn) → IsTableInsn i
    → (mnemonic : List ℕ) × ((shape : Shape) × (named table_rows mnemonic ≡ Some shape) × (fits_of shape i.args i.line ≡ Ok i))
table-mnemonic i t = (t.mnemonic, (t.shape, rows-named t.row.index (t.mnemonic, t.shape) t.row.there, t.accepted))

pub ruleset mnemonics = (table-mnemonic)

pub ruleset fitted = (fitted-insn)
