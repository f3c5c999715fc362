-- At most one form of an operation takes given operands.
use Rattle.std.proofs.Common.{◌≡◌, ℕ, zero, suc, ◌+◌, ◌≤◌, Bool, true, false, cond, if◌then◌else◌, List, [], ◌∷◌, Some, slice_get, refl, subst, arith}
use Rattle.std.specs.List.{count_by}
use Rattle.std.specs.Cmp.Lexicographic.{pointwise}
use Rattle.std.proofs.lemmas.List.Sums.{count_by-le-length}
use Rattle.std.proofs.lemmas.Option.{same_Some}
use Rattle.std.proofs.lemmas.Bool.{and_parts}
use Rattle.insn_ops.specs.declared.op.Op.{Op}
use Rattle.insn_ops.specs.declared.op.Op.TheVariants.{Cmov, Imul, Vector}
use Rattle.insn_ops.specs.declared.vector_op.VectorOp.{VectorOp}
use Rattle.insn_ops.specs.declared.vector_op.VectorOp.TheVariants.{Moving}
use Rattle.insn_ops.specs.declared.vector_op.MoveOp.{MoveOp}
use Rattle.insn_ops.specs.declared.vector_op.MoveOp.TheVariants as moves
use Rattle.insn_table.specs.declared.insn.Operand.{Operand}
use Rattle.insn_table.specs.declared.insn.Operand.TheVariants.{Imm, Nothing, Vec}
use Rattle.insn_table.specs.declared.classes.Class.{Class}
use Rattle.insn_table.specs.declared.classes.Class.TheVariants.{Register, Writable, Readable, Immediate, Address, VectorRegister, VectorSource, Control, Absent}
use Rattle.insn_table.specs.Classes.{OperandForm, two, three, takes_kind, takes}
use Rattle.insn_table.specs.VectorForms.{copied, exchanged, extracted, moved_quadword, joined, shuffled, move_forms, forms_at, is_vector_width}
use Rattle.insn_table.specs.Forms.{forms, general_forms}
use Rattle.insn_spellings.specs.Widths.{is_wide}

one_of_two : (a b : Bool) → (a ≡ true → b ≡ true → ⊥) → 0 + cond a 1 0 + cond b 1 0 ≤ 1
one_of_two true true f = absurd (f refl refl)
one_of_two true false f = omega arith
one_of_two false true f = omega arith
one_of_two false false f = omega arith

one_of_three : (a b c : Bool) → (a ≡ true → b ≡ true → ⊥) → (a ≡ true → c ≡ true → ⊥) → (b ≡ true → c ≡ true → ⊥) → 0 + cond a 1 0 + cond b 1 0 + cond c 1 0 ≤ 1
one_of_three true true c f g h = absurd (f refl refl)
one_of_three true false true f g h = absurd (g refl refl)
one_of_three true false false f g h = omega arith
one_of_three false true true f g h = absurd (h refl refl)
one_of_three false true false f g h = omega arith
one_of_three false false true f g h = omega arith
one_of_three false false false f g h = omega arith

-- no operand is of both classes
AreApart : Class → Class → Type 0
AreApart class other = (a : Operand) → takes_kind class a ≡ true → takes_kind other a ≡ true → ⊥

readable-no_number : (w v : ℕ) → AreApart (Readable w) (Immediate v)
unfolding AreApart
readable-no_number w v (Imm n) h k = cc
readable-no_number w v _ h k = cc

absent-no_register : (w : ℕ) → AreApart Absent (Register w)
unfolding AreApart
absent-no_register w Nothing h k = cc
absent-no_register w _ h k = cc

vector-no_address : (w : ℕ) → AreApart (VectorRegister w) Address
unfolding AreApart
vector-no_address w (Vec n v) h k = cc
vector-no_address w _ h k = cc

readable-no_vector : (w v : ℕ) → AreApart (Readable w) (VectorRegister v)
unfolding AreApart
readable-no_vector w v (Vec n u) h k = cc
readable-no_vector w v _ h k = cc

vector-no_readable : (w v : ℕ) → AreApart (VectorRegister v) (Readable w)
unfolding AreApart
vector-no_readable w v a h k = readable-no_vector w v a k h

vector-not_writable : (w v : ℕ) → AreApart (VectorRegister v) (Writable w)
unfolding AreApart
vector-not_writable w v (Vec n u) h k = cc
vector-not_writable w v _ h k = cc

-- forms with such classes at one place don't both take the same operands
classes-apart : (k : ℕ) (c d : Class) (form other : OperandForm) (args : List Operand) → slice_get form k ≡ Some c → slice_get other k ≡ Some d → AreApart c d
    → pointwise takes_kind form args ≡ true → pointwise takes_kind other args ≡ true → ⊥
unfolding AreApart
classes-apart k c d [] other args at there apart h g = cc
classes-apart k c d (e ∷ form) [] args at there apart h g = cc
classes-apart k c d (e ∷ form) (f ∷ other) [] at there apart h g = cc
classes-apart zero c d (e ∷ form) (f ∷ other) (a ∷ args) at there apart h g =
    apart a (subst (λ (x : Class). takes_kind x a ≡ true) (same_Some e c at) (and_parts _ _ h).0)
    (subst (λ (x : Class). takes_kind x a ≡ true) (same_Some f d there) (and_parts _ _ g).0)
classes-apart (suc k) c d (e ∷ form) (f ∷ other) (a ∷ args) at there apart h g =
    classes-apart k c d form other args at there apart (and_parts _ _ h).1 (and_parts _ _ g).1

-- the same, of forms that take operands
apart-at : (k : ℕ) (c d : Class) (form other : OperandForm) (args : List Operand) → slice_get form k ≡ Some c → slice_get other k ≡ Some d → AreApart c d
    → takes args form ≡ true → takes args other ≡ true → ⊥
apart-at k c d form other args at there apart h g = classes-apart k c d form other args at there apart (and_parts _ _ h).0 (and_parts _ _ g).0

one_form : (form : OperandForm) (args : List Operand) → count_by (takes args) (form ∷ []) ≤ 1
one_form form args = omega (arith, count_by-le-length (takes args) (form ∷ []))

where_so : (b : Bool) (list : List OperandForm) (args : List Operand) → count_by (takes args) list ≤ 1 → count_by (takes args) (if b then list else []) ≤ 1
where_so true list args h = h
where_so false list args h = omega arith

product-apart : (w : ℕ) (args : List Operand) → count_by (takes args) (general_forms Imul w) ≤ 1
product-apart w args =
    let first : OperandForm = two (Readable w) (Register w) in
    let second : OperandForm = two (Immediate w) (Register w) in
    let third : OperandForm = three (Immediate w) (Readable w) (Register w) in
    one_of_three (takes args first) (takes args second) (takes args third)
    (apart-at 0 (Readable w) (Immediate w) first second args refl refl (readable-no_number w w))
    (apart-at 0 (Readable w) (Immediate w) first third args refl refl (readable-no_number w w))
    (apart-at 2 Absent (Register w) second third args refl refl (absent-no_register w))

general-apart : (op : Op) (w : ℕ) (args : List Operand) → count_by (takes args) (general_forms op w) ≤ 1
general-apart Imul w args = product-apart w args
general-apart (Cmov c) w args = where_so (is_wide w) (two (Readable w) (Register w) ∷ []) args (one_form (two (Readable w) (Register w)) args)
general-apart op w args = omega (arith, count_by-le-length (takes args) (general_forms op w))

copied-apart : (w : ℕ) (args : List Operand) → count_by (takes args) (copied w) ≤ 1
copied-apart w args =
    let load : OperandForm = two (VectorSource w) (VectorRegister w) in
    let store : OperandForm = two (VectorRegister w) Address in
    one_of_two (takes args load) (takes args store)
    (apart-at 1 (VectorRegister w) Address load store args refl refl (vector-no_address w))

exchanged-apart : (v : ℕ) (args : List Operand) → count_by (takes args) (exchanged v) ≤ 1
exchanged-apart v args =
    let load : OperandForm = two (Readable v) (VectorRegister 128) in
    let store : OperandForm = two (VectorRegister 128) (Writable v) in
    one_of_two (takes args load) (takes args store)
    (apart-at 0 (Readable v) (VectorRegister 128) load store args refl refl (readable-no_vector v 128))

quadword-apart : (args : List Operand) → count_by (takes args) moved_quadword ≤ 1
quadword-apart args =
    let copy : OperandForm = two (VectorRegister 128) (VectorRegister 128) in
    let load : OperandForm = two (Readable 64) (VectorRegister 128) in
    let store : OperandForm = two (VectorRegister 128) (Writable 64) in
    one_of_three (takes args copy) (takes args load) (takes args store)
    (apart-at 0 (VectorRegister 128) (Readable 64) copy load args refl refl (vector-no_readable 64 128))
    (apart-at 1 (VectorRegister 128) (Writable 64) copy store args refl refl (vector-not_writable 64 128))
    (apart-at 0 (Readable 64) (VectorRegister 128) load store args refl refl (readable-no_vector 64 128))

extracted-apart : (args : List Operand) → count_by (takes args) extracted ≤ 1
extracted-apart args =
    let kept : OperandForm = three Control (VectorRegister 256) (VectorRegister 128) in
    let store : OperandForm = three Control (VectorRegister 256) Address in
    one_of_two (takes args kept) (takes args store)
    (apart-at 2 (VectorRegister 128) Address kept store args refl refl (vector-no_address 128))

moves-apart : (op : MoveOp) (vex : Bool) (w : ℕ) (args : List Operand) → count_by (takes args) (move_forms op vex w) ≤ 1
moves-apart moves.Movd vex w args = where_so _ (exchanged 32) args (exchanged-apart 32 args)
moves-apart moves.Movq vex w args = where_so _ moved_quadword args (quadword-apart args)
moves-apart moves.Movdqa vex w args = copied-apart w args
moves-apart moves.Movdqu vex w args = copied-apart w args
moves-apart moves.Movaps vex w args = copied-apart w args
moves-apart moves.Movups vex w args = copied-apart w args
moves-apart moves.Extracti128 vex w args = where_so _ extracted args (extracted-apart args)
moves-apart moves.Inserti128 vex w args = where_so _ (joined 128 ∷ []) args (one_form (joined 128) args)
moves-apart moves.Perm2i128 vex w args = where_so _ (joined 256 ∷ []) args (one_form (joined 256) args)
moves-apart moves.Permq vex w args = where_so _ (shuffled 256 ∷ []) args (one_form (shuffled 256) args)
moves-apart op vex w args = omega (arith, count_by-le-length (takes args) (move_forms op vex w))

vectors-apart : (op : VectorOp) (vex : Bool) (w : ℕ) (args : List Operand) → count_by (takes args) (forms_at op vex w) ≤ 1
vectors-apart (Moving op) vex w args = moves-apart op vex w args
vectors-apart op vex w args = omega (arith, count_by-le-length (takes args) (forms_at op vex w))

pub forms-apart : (op : Op) (vex : Bool) (w : ℕ) (args : List Operand) → count_by (takes args) (forms op vex w) ≤ 1
forms-apart (Vector op) vex w args = where_so (is_vector_width vex w) (forms_at op vex w) args (vectors-apart op vex w args)
forms-apart op vex w args = general-apart op w args
