-- Closed functions can be run: what the table says of an instruction is what running it needs.
use Rattle.std.proofs.Common.{◌≡◌, ◌⊎◌, ℕ, zero, suc, ◌-◌, ◌<◌, ◌==◌, Bool, true, false, ◌&&◌, ◌||◌, if◌then◌else◌, inl, inr, List, [], ◌∷◌, length, slice_get, unwrap_or, Some, None, cond, refl, sym, ◌∙◌, subst, arith, ⊎_elim}
use Rattle.std.specs.List.{AllByRecursion, find, list_any}
use Rattle.std.specs.Cmp.Lexicographic.{pointwise}
use Rattle.std.proofs.lemmas.Bool.{ltb-true, and_parts, or_cases}
use Rattle.std.proofs.lemmas.Bool.Decides.{Decides-eqb}
use Rattle.insn_ops.specs.declared.op.Op.{Op}
use Rattle.insn_ops.specs.declared.op.Op.TheVariants as ops
use Rattle.insn_ops.specs.declared.vector_op.VectorOp.{VectorOp}
use Rattle.insn_ops.specs.declared.vector_op.VectorOp.TheVariants.{Moving, Vzeroupper}
use Rattle.insn_ops.specs.declared.vector_op.MoveOp.TheVariants.{Movq}
use Rattle.insn_table.specs.declared.insn.Insn.{Insn}
use Rattle.insn_table.specs.declared.insn.Operand.{Operand}
use Rattle.insn_table.specs.declared.insn.Operand.TheVariants.{Reg, Imm, Mem, Vec, Pool, Target, Nothing}
use Rattle.insn_table.specs.declared.classes.Class.{Class}
use Rattle.insn_table.specs.declared.classes.Class.TheVariants.{Register, Readable, Writable, Count, Address, Label, Absent}
use Rattle.insn_spellings.specs.declared.shape.Shape.{Shape}
use Rattle.insn_table.specs.Classes.{OperandForm, is_target, number_fits, numbers_fit, one, takes, takes_kind, two, is_nothing}
use Rattle.insn_spellings.specs.Rows.{general}
use Rattle.insn_spellings.specs.Widths.{has_shape, has_suffix, has_width, is_long, is_shape, is_wide, widens_to}
use Rattle.insn_table.specs.Forms.{forms, chosen, is_quadword_move, is_vector, told_width, width_of}
use Rattle.insn_table.specs.Closed.{IsClosed, IsInside}
use Rattle.insn_table.specs.Table.{HasRegisters, IsTableInsn}
use Rattle.insn_table.proofs.TableInsns.{IsMade, fitted-made, wide-cases}
use Rattle.machine.specs.Access.{arity}
use Rattle.machine.specs.Family.{family_of, vector_family}
use Rattle.machine.specs.Operands.{operand}
use Rattle.machine.specs.Runnable.{HasCount, HasRowOf, HasWidth, IsGeneralRegister, IsRunnable, IsRunnableFunction, IsWidth, JumpsBelow}
use Rattle.machine.specs.Step.{jump_place, target_operand}
use Rattle.machine.proofs.VectorTable.{HasLanes, quadword-has, vector-row, vectors-have}

-- widths

-- What a mnemonic says of an instruction that was made: the width is the one that the mnemonic names, where it names one,
-- and lanes are of widths that the row has.
IsNamed : Op → ℕ → ℕ → Type 0
IsNamed (ops.Vector op) v w = HasLanes op
IsNamed op v w = (has_width op v ≡ true) × ((v ≡ 0) ⊎ (w ≡ v))

row-named : (op : Op) (vex : Bool) (v w : ℕ) → (v ≡ 0) ⊎ (w ≡ v) → has_shape op vex v ≡ true → IsNamed op v w
unfolding IsNamed
row-named (ops.Vector op) vex v w e h = vectors-have op vex (and_parts _ _ h).0
row-named _ vex v w e h = ((and_parts _ _ h).1, e)

either-width : (b : Bool) (v told : ℕ) → (v == 0) ≡ b → (v ≡ 0) ⊎ ((if b then told else v) ≡ v)
either-width true v told e = inl ((Decides-eqb v 0).0 e)
either-width false v told e = inr refl

chosen-named : (b : Bool) (shape : Shape) (args : List Operand) → is_shape shape ≡ true
    → IsNamed (if b then general (ops.Vector (Moving Movq)) 128 else shape).op (if b then general (ops.Vector (Moving Movq)) 128 else shape).w
    (width_of (if b then general (ops.Vector (Moving Movq)) 128 else shape) args)
unfolding IsNamed
chosen-named true shape args h = quadword-has
chosen-named false shape args h =
    row-named shape.op shape.vex shape.w (width_of shape args) (either-width (shape.w == 0) shape.w (told_width shape.vex args) refl) h

-- an instruction that was made, by the row that its operands chose
made-named : (shape : Shape) (args : List Operand) (line : ℕ) (i : Insn) → IsMade shape args line i → (v : ℕ) × IsNamed i.op v i.w
made-named shape args line i made =
    let b : Bool = is_quadword_move shape.op shape.w shape.vex && list_any is_vector args in
    subst (λ (x : Insn). (v : ℕ) × IsNamed x.op v x.w) made.same ((chosen shape args).w, chosen-named b shape args made.named)

suffix-width : (v : ℕ) → has_suffix v ≡ true → IsWidth v
suffix-width v h = ⊎_elim (λ (e : (v == 8) ≡ true). inl ((Decides-eqb v 8).0 e)) (λ (e : is_wide v ≡ true). inr (wide-cases v e)) (or_cases _ _ h)

long-width : (v : ℕ) → is_long v ≡ true → (v ≡ 32) ⊎ (v ≡ 64)
long-width v h = ⊎_elim (λ (e : (v == 32) ≡ true). inl ((Decides-eqb v 32).0 e)) (λ (e : (v == 64) ≡ true). inr ((Decides-eqb v 64).0 e)) (or_cases _ _ h)

-- a source that is widened, and what it is widened to
IsWidened : ℕ → ℕ → Type 0
IsWidened m v = IsWidth m × IsWidth v × (m < v)

bytes-widened : (m v : ℕ) → m ≡ 8 → (v ≡ 16) ⊎ ((v ≡ 32) ⊎ (v ≡ 64)) → IsWidened m v
unfolding IsWidened
bytes-widened m v e (inl f) = (inl e, inr (inl f), omega arith)
bytes-widened m v e (inr (inl f)) = (inl e, inr (inr (inl f)), omega arith)
bytes-widened m v e (inr (inr f)) = (inl e, inr (inr (inr f)), omega arith)

words-widened : (m v : ℕ) → m ≡ 16 → (v ≡ 32) ⊎ (v ≡ 64) → IsWidened m v
unfolding IsWidened
words-widened m v e (inl f) = (inr (inl e), inr (inr (inl f)), omega arith)
words-widened m v e (inr f) = (inr (inl e), inr (inr (inr f)), omega arith)

doubles-widened : (m v : ℕ) → m ≡ 32 → v ≡ 64 → IsWidened m v
unfolding IsWidened
doubles-widened m v e f = (inr (inr (inl e)), inr (inr (inr f)), omega arith)

widened : (m v : ℕ) → widens_to m v ≡ true → IsWidened m v
widened m v h =
    ⊎_elim (λ (e : (m == 8 && is_wide v) ≡ true). let both = and_parts (m == 8) (is_wide v) e in bytes-widened m v ((Decides-eqb m 8).0 both.0) (wide-cases v both.1))
    (λ (e : (m == 16 && is_long v) ≡ true). let both = and_parts (m == 16) (is_long v) e in words-widened m v ((Decides-eqb m 16).0 both.0) (long-width v both.1))
    (or_cases _ _ h)

signed-widened : (m v : ℕ) → (widens_to m v || (m == 32 && v == 64)) ≡ true → IsWidened m v
signed-widened m v h =
    ⊎_elim (λ (e : widens_to m v ≡ true). widened m v e)
    (λ (e : (m == 32 && v == 64) ≡ true). let both = and_parts (m == 32) (v == 64) e in doubles-widened m v ((Decides-eqb m 32).0 both.0) ((Decides-eqb v 64).0 both.1))
    (or_cases _ _ h)

not_zero : (v : ℕ) → IsWidth v → v ≡ 0 → ⊥
not_zero v (inl e) z = omega arith
not_zero v (inr (inl e)) z = omega arith
not_zero v (inr (inr (inl e))) z = omega arith
not_zero v (inr (inr (inr e))) z = omega arith

-- where the mnemonic names a width, it is the instruction's
named-is : (v w : ℕ) → IsWidth v → (v ≡ 0) ⊎ (w ≡ v) → w ≡ v
named-is v w width (inl z) = absurd (not_zero v width z)
named-is v w width (inr e) = e

width-of_named : (v w : ℕ) → IsWidth v → (v ≡ 0) ⊎ (w ≡ v) → IsWidth w
width-of_named v w width e = subst IsWidth (sym (named-is v w width e)) width

found_only_wide : (b : Bool) (p : OperandForm → Bool) (form found : OperandForm) → find p (if b then form ∷ [] else []) ≡ Some found → b ≡ true
found_only_wide true p form found h = refl
found_only_wide false p form found h = cc

vector-width : (op : VectorOp) (w : ℕ) → HasWidth (vector_family op) w
vector-width Vzeroupper w = tt
vector-width _ w = tt

quad-width : (v : ℕ) → (v == 64) ≡ true → IsWidth v
quad-width v h = inr (inr (inr ((Decides-eqb v 64).0 h)))

-- An operation of which a form was found has a width.
form-width : (op : Op) (vex : Bool) (v w : ℕ) (p : OperandForm → Bool) (form : OperandForm) → IsNamed op v w → find p (forms op vex w) ≡ Some form → HasWidth (family_of op) w
unfolding IsNamed IsWidened
form-width (ops.Cmov c) vex v w p form named found = inr (wide-cases w (found_only_wide (is_wide w) p (two (Readable w) (Register w)) form found))
form-width (ops.Vector op) vex v w p form named found = vector-width op w
form-width ops.Imul vex v w p form named found = width-of_named v w (inr (wide-cases v named.0)) named.1
form-width ops.Lea vex v w p form named found = width-of_named v w (inr (inr (long-width v named.0))) named.1
form-width (ops.Movzx m) vex v w p form named found = width-of_named v w (widened m v named.0).1 named.1
form-width (ops.Movsx m) vex v w p form named found = width-of_named v w (signed-widened m v named.0).1 named.1
form-width (ops.Set c) vex v w p form named found = width-of_named v w (inl ((Decides-eqb v 8).0 named.0)) named.1
form-width ops.Mov vex v w p form named found = width-of_named v w (suffix-width v named.0) named.1
form-width ops.Add vex v w p form named found = width-of_named v w (suffix-width v named.0) named.1
form-width ops.Sub vex v w p form named found = width-of_named v w (suffix-width v named.0) named.1
form-width ops.Cmp vex v w p form named found = width-of_named v w (suffix-width v named.0) named.1
form-width ops.Test vex v w p form named found = width-of_named v w (suffix-width v named.0) named.1
form-width ops.And vex v w p form named found = width-of_named v w (suffix-width v named.0) named.1
form-width ops.Or vex v w p form named found = width-of_named v w (suffix-width v named.0) named.1
form-width ops.Xor vex v w p form named found = width-of_named v w (suffix-width v named.0) named.1
form-width ops.Inc vex v w p form named found = width-of_named v w (suffix-width v named.0) named.1
form-width ops.Dec vex v w p form named found = width-of_named v w (suffix-width v named.0) named.1
form-width ops.Neg vex v w p form named found = width-of_named v w (suffix-width v named.0) named.1
form-width ops.Not vex v w p form named found = width-of_named v w (suffix-width v named.0) named.1
form-width ops.Shl vex v w p form named found = width-of_named v w (suffix-width v named.0) named.1
form-width ops.Shr vex v w p form named found = width-of_named v w (suffix-width v named.0) named.1
form-width ops.Sar vex v w p form named found = width-of_named v w (suffix-width v named.0) named.1
form-width _ vex v w p form named found = width-of_named v w (quad-width v named.0) named.1

-- operands

-- what holds of two lists item by item holds of two items
pointwise_at : {A B : Type 0} (E : A → B → Bool) (xs : List A) (ys : List B) (k : ℕ) (x : A) (d : B) → pointwise E xs ys ≡ true → slice_get xs k ≡ Some x
    → E x (unwrap_or (slice_get ys k) d) ≡ true
pointwise_at E [] ys k x d h there = absurd (cc)
pointwise_at E (y ∷ xs) [] k x d h there = absurd (cc)
pointwise_at E (y ∷ xs) (z ∷ ys) zero x d h there = let same : y ≡ x = cc in subst (λ (v : _). E v z ≡ true) same (and_parts _ _ h).0
pointwise_at E (y ∷ xs) (z ∷ ys) (suc k) x d h there = pointwise_at E xs ys k x d (and_parts _ _ h).1 there

all_at : (P : Operand → Type 0) (args : List Operand) (k : ℕ) → P Nothing → AllByRecursion P args → P (unwrap_or (slice_get args k) Nothing)
all_at P [] k none each = none
all_at P (a ∷ args) zero none each = each.0
all_at P (a ∷ args) (suc k) none each = all_at P args k none each.1

found-by : (b : Bool) (form found : OperandForm) → cond b (Some form) None ≡ Some found → (form ≡ found) × (b ≡ true)
found-by true form found h = (cc, refl)
found-by false form found h = cc

-- an instruction is taken by the one form of its operation, which its numbers fit
abbrev IsTaken : OperandForm → Insn → Type 0
IsTaken form i = (pointwise takes_kind form i.args ≡ true) × (numbers_fit i.args form ≡ true)

taken-by_one : (i : Insn) (form found : OperandForm) → find (takes i.args) (form ∷ []) ≡ Some found → numbers_fit i.args found ≡ true → IsTaken form i
taken-by_one i form found h fits =
    let it = found-by (takes i.args form) form found h in
    ((and_parts _ _ it.1).0, subst (λ (x : OperandForm). numbers_fit i.args x ≡ true) (sym it.0) fits)

kind_at : (i : Insn) (form : OperandForm) (k : ℕ) (class : Class) → IsTaken form i → slice_get form k ≡ Some class → takes_kind class (operand i k) ≡ true
kind_at i form k class taken there = pointwise_at takes_kind form i.args k class Nothing taken.0 there

number_at : (i : Insn) (form : OperandForm) (k : ℕ) (class : Class) → IsTaken form i → slice_get form k ≡ Some class → number_fits class (operand i k) ≡ true
number_at i form k class taken there = pointwise_at number_fits form i.args k class Nothing taken.1 there

-- the count of a shift

count_of : (w : ℕ) (o : Operand) → takes_kind (Count w) o ≡ true → number_fits (Count w) o ≡ true → (n : ℕ) × (o ≡ Imm n) × (0 < n) × (n < w)
count_of w (Imm n) kind fits = let parts = and_parts _ _ fits in (n, refl, ltb-true 0 n parts.0, ltb-true n w parts.1)
count_of w (Reg n v) kind fits = absurd (cc)
count_of w (Mem base index scale disp) kind fits = absurd (cc)
count_of w (Vec n v) kind fits = absurd (cc)
count_of w (Pool at) kind fits = absurd (cc)
count_of w (Target place) kind fits = absurd (cc)
count_of w Nothing kind fits = absurd (cc)

shift-count : (i : Insn) → IsTaken (two (Count i.w) (Writable i.w)) i → HasCount i
shift-count i taken =
    let form = two (Count i.w) (Writable i.w) in
    let c = count_of i.w (operand i 0) (kind_at i form 0 (Count i.w) taken refl) (number_at i form 0 (Count i.w) taken refl) in
    record { count = c.0; source = c.1; some = c.2; below = c.3 }

-- the register that `lea` writes

register_is : (w : ℕ) (o : Operand) → takes_kind (Register w) o ≡ true → IsGeneralRegister o
register_is w (Reg n v) kind = tt
register_is w (Imm n) kind = absurd (cc)
register_is w (Mem base index scale disp) kind = absurd (cc)
register_is w (Vec n v) kind = absurd (cc)
register_is w (Pool at) kind = absurd (cc)
register_is w (Target place) kind = absurd (cc)
register_is w Nothing kind = absurd (cc)

something : (class : Class) (o : Operand) → takes_kind class o ≡ true → takes_kind class Nothing ≡ false → is_nothing o ≡ false
something class Nothing kind none = absurd (cc)
something class (Reg n v) kind none = refl
something class (Imm n) kind none = refl
something class (Mem base index scale disp) kind none = refl
something class (Vec n v) kind none = refl
something class (Pool at) kind none = refl
something class (Target place) kind none = refl

two_operands : (i : Insn) → is_nothing (operand i 0) ≡ false → is_nothing (operand i 1) ≡ false → is_nothing (operand i 2) ≡ true → arity i ≡ 2
two_operands i first second third = rw (first, second, third) refl

nothing_is : (o : Operand) → takes_kind Absent o ≡ true → is_nothing o ≡ true
nothing_is Nothing kind = refl
nothing_is (Reg n v) kind = absurd (cc)
nothing_is (Imm n) kind = absurd (cc)
nothing_is (Mem base index scale disp) kind = absurd (cc)
nothing_is (Vec n v) kind = absurd (cc)
nothing_is (Pool at) kind = absurd (cc)
nothing_is (Target place) kind = absurd (cc)

lea-target : (i : Insn) → IsTaken (two Address (Register i.w)) i → IsGeneralRegister (target_operand ops.Lea i)
lea-target i taken =
    let form = two Address (Register i.w) in
    let regs_with = kind_at i form 1 (Register i.w) taken refl in
    let first = something Address (operand i 0) (kind_at i form 0 Address taken refl) refl in
    let second = something (Register i.w) (operand i 1) regs_with refl in
    let third = nothing_is (operand i 2) (kind_at i form 2 Absent taken refl) in
    subst (λ (n : ℕ). IsGeneralRegister (operand i (n - 1))) (sym (two_operands i first second third)) (register_is i.w (operand i 1) regs_with)

-- what a row needs, from the form that was found

widened-to : (m v w : ℕ) → IsWidened m v → (v ≡ 0) ⊎ (w ≡ v) → IsWidth m × (m < w)
unfolding IsWidened
widened-to m v w wide e = (wide.0, subst (λ (x : ℕ). m < x) (sym (named-is v w wide.1 e)) wide.2)

table-row : (op : Op) (i : Insn) (v : ℕ) (form : OperandForm) → IsNamed op v i.w → find (takes i.args) (forms op i.vex i.w) ≡ Some form → numbers_fit i.args form ≡ true
    → HasRowOf op i
unfolding IsNamed
table-row ops.Shl i v form named found fits = shift-count i (taken-by_one i (two (Count i.w) (Writable i.w)) form found fits)
table-row ops.Shr i v form named found fits = shift-count i (taken-by_one i (two (Count i.w) (Writable i.w)) form found fits)
table-row ops.Sar i v form named found fits = shift-count i (taken-by_one i (two (Count i.w) (Writable i.w)) form found fits)
table-row ops.Lea i v form named found fits = lea-target i (taken-by_one i (two Address (Register i.w)) form found fits)
table-row (ops.Movzx m) i v form named found fits = widened-to m v i.w (widened m v named.0) named.1
table-row (ops.Movsx m) i v form named found fits = widened-to m v i.w (signed-widened m v named.0) named.1
table-row ops.Cltq i v form named found fits = named-is v i.w (quad-width v named.0) named.1 ∙ (Decides-eqb v 64).0 named.0
table-row (ops.Set c) i v form named found fits = named-is v i.w (inl ((Decides-eqb v 8).0 named.0)) named.1 ∙ (Decides-eqb v 8).0 named.0
table-row (ops.Vector op) i v form named found fits = vector-row op i.vex i.w (takes i.args) form named found
table-row _ i v form named found fits = tt

-- jumps

place_inside : (n : ℕ) (o : Operand) → is_target o ≡ true → IsInside n o → jump_place o < n
place_inside n (Target place) kind inside = inside
place_inside n (Reg m v) kind inside = absurd (cc)
place_inside n (Imm v) kind inside = absurd (cc)
place_inside n (Mem base index scale disp) kind inside = absurd (cc)
place_inside n (Vec m v) kind inside = absurd (cc)
place_inside n (Pool at) kind inside = absurd (cc)
place_inside n Nothing kind inside = absurd (cc)

jump-inside : (n : ℕ) (i : Insn) → IsTaken (one Label) i → AllByRecursion (IsInside n) i.args → jump_place (operand i 0) < n
jump-inside n i taken inside = place_inside n (operand i 0) (kind_at i (one Label) 0 Label taken refl) (all_at (IsInside n) i.args 0 tt inside)

table-jump : (n : ℕ) (op : Op) (i : Insn) (form : OperandForm) → find (takes i.args) (forms op i.vex i.w) ≡ Some form → numbers_fit i.args form ≡ true
    → AllByRecursion (IsInside n) i.args → JumpsBelow n op i
table-jump n (ops.Jump c) i form found fits inside = jump-inside n i (taken-by_one i (one Label) form found fits) inside
table-jump n ops.Jmp i form found fits inside = jump-inside n i (taken-by_one i (one Label) form found fits) inside
table-jump n _ i form found fits inside = tt

-- an instruction of the table was made of its mnemonic's shape and its own operands
table-made : (i : Insn) (t : IsTableInsn i) → IsMade t.shape i.args i.line i
table-made i t = fitted-made t.shape i.args i.line i t.accepted

-- what its row needs
insn-row : (i : Insn) → IsTableInsn i → HasRowOf i.op i
insn-row i t =
    let made = table-made i t in
    let named = made-named t.shape i.args i.line i made in
    table-row i.op i named.0 made.form named.1 made.taken made.numbers

-- an instruction of the table can be run
pub table-runnable : (n : ℕ) (i : Insn) → IsTableInsn i → AllByRecursion (IsInside n) i.args → IsRunnable n i
table-runnable n i t inside =
    let made = table-made i t in
    let named = made-named t.shape i.args i.line i made in
    record {
      width = form-width i.op i.vex named.0 i.w (takes i.args) made.form named.1 made.taken;
      numbers = λ k. all_at HasRegisters i.args k tt t.registers;
      row = insn-row i t;
      jump = table-jump n i.op i made.form made.taken made.numbers inside;
    }

-- A closed function can be run.
pub closed-runnable : (insns : List Insn) → IsClosed insns → IsRunnableFunction insns
closed-runnable insns c = record {
  some = c.some;
  few = c.few;
  each = λ k i at. table-runnable (length insns) i (c.each k i at) (c.targets k i at);
  last = c.last;
}

-- What `lea` writes is a register.
pub lea_register : (i : Insn) → IsTableInsn i → i.op ≡ ops.Lea → IsGeneralRegister (target_operand ops.Lea i)
lea_register i t e = subst (λ (op : Op). HasRowOf op i) e (insn-row i t)
