-- Operands that are read again are taken by the table.
use Rattle.std.proofs.Common.{◌≡◌, ℕ, zero, suc, ◌+◌, ◌-◌, ◌==◌, Bool, true, false, ◌&&◌, ◌||◌, inl, inr, ⊎_elim, max, cond, nat_le, List, [], ◌∷◌, ◌++◌, length, replicate, Option, Some, None, Ok, Err, slice_get, refl, sym, ◌∙◌, ap, subst}
use Rattle.std.specs.Cmp.Lexicographic.{pointwise}
use Rattle.std.specs.List.{AllByRecursion, AllZip, count_by, find, list_any}
use Rattle.std.proofs.lemmas.Bool.{and_from, and_parts, or_cases}
use Rattle.std.proofs.lemmas.Bool.Decides.{Decides-eqb}
use Rattle.std.proofs.lemmas.Option.{same_Some}
use Rattle.insn_ops.specs.declared.op.Op.{Op}
use Rattle.insn_ops.specs.declared.op.Op.TheVariants as ops
use Rattle.insn_table.proofs.TableInsns.{fitted-made}
use Rattle.insn_table.specs.Classes.{OperandForm, is_memory, is_nothing, number_fits, numbers_fit, takes, takes_kind, two}
use Rattle.insn_table.specs.Forms.{chosen, completed, counted_once, fits_of, forms, found_form, general_forms, insn_of, insn_with, is_lone, is_quadword_move, is_shift, is_vector, judged_by, register_width, told_width, vector_register_width, widest, width_of}
use Rattle.insn_spellings.specs.Rows.{general}
use Rattle.insn_table.specs.VectorForms.{computed, exchanged, extracted, forms_at, is_vector_width, joined, lane_form, move_forms, moved_quadword, shifted, shuffled}
use Rattle.insn_spellings.specs.Widths.{is_wide}
use Rattle.insn_spellings.specs.declared.shape.Shape.{Shape}
use Rattle.insn_ops.specs.declared.vector_op.LaneOp.{LaneOp}
use Rattle.insn_ops.specs.declared.vector_op.LaneOp.TheVariants as lanes
use Rattle.insn_ops.specs.declared.vector_op.MoveOp.{MoveOp}
use Rattle.insn_ops.specs.declared.vector_op.MoveOp.TheVariants as moves
use Rattle.insn_ops.specs.declared.vector_op.VectorOp.{VectorOp}
use Rattle.insn_ops.specs.declared.vector_op.VectorOp.TheVariants.{Lanewise, Moving, Pmaddwd, Pmovmskb, Psadbw, Pshufb, Vzeroupper}
use Rattle.insn_table.specs.declared.fitting.Misfit.TheVariants.{BadNumber}
use Rattle.insn_table.specs.declared.classes.Class.TheVariants as class
use Rattle.insn_table.specs.declared.insn.Insn.{Insn}
use Rattle.insn_table.specs.declared.insn.Operand.{Operand}
use Rattle.insn_table.specs.declared.insn.Operand.TheVariants.{Imm, Mem, Nothing, Reg}
use Rattle.att_bodies.proofs.Counts.{count-cons}
use Rattle.att_statements.specs.Statements.{four}
use Rattle.att_round_trip.proofs.Numbers.{IsVectorWidth}
use Rattle.att_round_trip.proofs.Written.{IsOfWidth, IsSameKind, is_single}

-- the classes of forms have the widths of the forms

abbrev AreOfWidth : ℕ → OperandForm → Type 0
AreOfWidth w form = AllByRecursion (IsOfWidth w) form

where_so : (t : Bool) (w : ℕ) (forms : List OperandForm) → (t ≡ true → AllByRecursion (AreOfWidth w) forms) → AllByRecursion (AreOfWidth w) (cond t forms [])
where_so true w forms h = h refl
where_so false w forms h = tt

general-widths : (op : Op) (w : ℕ) → AllByRecursion (AreOfWidth w) (general_forms op w)
general-widths ops.Mov w = ((refl, (tt, (tt, (tt, tt)))), tt)
general-widths ops.Movabs w = ((tt, (tt, (tt, (tt, tt)))), tt)
general-widths ops.Add w = ((refl, (tt, (tt, (tt, tt)))), tt)
general-widths ops.Sub w = ((refl, (tt, (tt, (tt, tt)))), tt)
general-widths ops.Cmp w = ((refl, (tt, (tt, (tt, tt)))), tt)
general-widths ops.Test w = ((refl, (tt, (tt, (tt, tt)))), tt)
general-widths ops.And w = ((refl, (tt, (tt, (tt, tt)))), tt)
general-widths ops.Or w = ((refl, (tt, (tt, (tt, tt)))), tt)
general-widths ops.Xor w = ((refl, (tt, (tt, (tt, tt)))), tt)
general-widths ops.Shl w = ((refl, (tt, (tt, (tt, tt)))), tt)
general-widths ops.Shr w = ((refl, (tt, (tt, (tt, tt)))), tt)
general-widths ops.Sar w = ((refl, (tt, (tt, (tt, tt)))), tt)
general-widths ops.Imul w = ((tt, (tt, (tt, (tt, tt)))), ((refl, (tt, (tt, (tt, tt)))), ((refl, (tt, (tt, (tt, tt)))), tt)))
general-widths (ops.Cmov c) w = where_so (is_wide w) w (two (class.Readable w) (class.Register w) ∷ []) (λ e. ((tt, (tt, (tt, (tt, tt)))), tt))
general-widths (ops.Vector op) w = tt
general-widths _ w = ((tt, (tt, (tt, (tt, tt)))), tt)

computed-widths : (vex : Bool) (w : ℕ) → AreOfWidth w (computed vex w)
computed-widths true w = (tt, (tt, (tt, (tt, tt))))
computed-widths false w = (tt, (tt, (tt, (tt, tt))))

shifted-widths : (vex : Bool) (w : ℕ) → IsVectorWidth w → AreOfWidth w (shifted vex w)
shifted-widths true w e = (e, (tt, (tt, (tt, tt))))
shifted-widths false w e = (e, (tt, (tt, (tt, tt))))

lane-widths : (op : LaneOp) (vex : Bool) (w : ℕ) → IsVectorWidth w → AreOfWidth w (lane_form op vex w)
lane-widths (lanes.Psll l) vex w e = shifted-widths vex w e
lane-widths (lanes.Psrl l) vex w e = shifted-widths vex w e
lane-widths (lanes.Psra l) vex w e = shifted-widths vex w e
lane-widths (lanes.Pabs l) vex w e = (tt, (tt, (tt, (tt, tt))))
lane-widths _ vex w e = computed-widths vex w

move-widths : (op : MoveOp) (vex : Bool) (w : ℕ) → IsVectorWidth w → AllByRecursion (AreOfWidth w) (move_forms op vex w)
move-widths moves.Pslldq vex w e = (shifted-widths vex w e, tt)
move-widths moves.Psrldq vex w e = (shifted-widths vex w e, tt)
move-widths (moves.Punpckl l) vex w e = (computed-widths vex w, tt)
move-widths (moves.Punpckh l) vex w e = (computed-widths vex w, tt)
move-widths (moves.Packss l) vex w e = (computed-widths vex w, tt)
move-widths moves.Packuswb vex w e = (computed-widths vex w, tt)
move-widths moves.Pshufd vex w e = ((e, (tt, (tt, (tt, tt)))), tt)
move-widths moves.Pshuflw vex w e = ((e, (tt, (tt, (tt, tt)))), tt)
move-widths moves.Pshufhw vex w e = ((e, (tt, (tt, (tt, tt)))), tt)
move-widths moves.Movd vex w e = where_so (w == 128) w (exchanged 32) (λ h. ((tt, (tt, (tt, (tt, tt)))), ((tt, (tt, (tt, (tt, tt)))), tt)))
move-widths moves.Movq vex w e = where_so (w == 128) w moved_quadword (λ h. ((tt, (tt, (tt, (tt, tt)))), ((tt, (tt, (tt, (tt, tt)))), ((tt, (tt, (tt, (tt, tt)))), tt))))
move-widths moves.Movdqa vex w e = ((tt, (tt, (tt, (tt, tt)))), ((tt, (tt, (tt, (tt, tt)))), tt))
move-widths moves.Movdqu vex w e = ((tt, (tt, (tt, (tt, tt)))), ((tt, (tt, (tt, (tt, tt)))), tt))
move-widths moves.Movaps vex w e = ((tt, (tt, (tt, (tt, tt)))), ((tt, (tt, (tt, (tt, tt)))), tt))
move-widths moves.Movups vex w e = ((tt, (tt, (tt, (tt, tt)))), ((tt, (tt, (tt, (tt, tt)))), tt))
move-widths moves.Extracti128 vex w e = where_so (w == 256) w extracted (λ h. ((e, (tt, (tt, (tt, tt)))), ((e, (tt, (tt, (tt, tt)))), tt)))
move-widths moves.Inserti128 vex w e = where_so (w == 256) w (joined 128 ∷ []) (λ h. ((e, (tt, (tt, (tt, tt)))), tt))
move-widths moves.Perm2i128 vex w e = where_so (w == 256) w (joined 256 ∷ []) (λ h. ((e, (tt, (tt, (tt, tt)))), tt))
move-widths moves.Permq vex w e = where_so (w == 256) w (shuffled 256 ∷ []) (λ h. ((e, (tt, (tt, (tt, tt)))), tt))
move-widths _ vex w e = ((tt, (tt, (tt, (tt, tt)))), tt)

vector-widths : (op : VectorOp) (vex : Bool) (w : ℕ) → IsVectorWidth w → AllByRecursion (AreOfWidth w) (forms_at op vex w)
vector-widths (Lanewise op) vex w e = (lane-widths op vex w e, tt)
vector-widths (Moving op) vex w e = move-widths op vex w e
vector-widths Pmaddwd vex w e = (computed-widths vex w, tt)
vector-widths Psadbw vex w e = (computed-widths vex w, tt)
vector-widths Pshufb vex w e = (computed-widths vex w, tt)
vector-widths Pmovmskb vex w e = ((tt, (tt, (tt, (tt, tt)))), tt)
vector-widths Vzeroupper vex w e = ((tt, (tt, (tt, (tt, tt)))), tt)

width-by : (vex : Bool) (w : ℕ) → is_vector_width vex w ≡ true → IsVectorWidth w
width-by vex w h =
    ⊎_elim (λ (e : (w == 128) ≡ true). inl ((Decides-eqb w 128).0 e))
    (λ (e : (vex && w == 256) ≡ true). inr ((Decides-eqb w 256).0 (and_parts vex (w == 256) e).1))
    (or_cases (w == 128) (vex && w == 256) h)

form-widths : (op : Op) (vex : Bool) (w : ℕ) → AllByRecursion (AreOfWidth w) (forms op vex w)
form-widths (ops.Vector op) vex w = where_so (is_vector_width vex w) w (forms_at op vex w) (λ h. vector-widths op vex w (width-by vex w h))
form-widths op vex w = general-widths op w

-- what holds of all holds of the one that is found
found-in : {X : Type 0} (P : X → Type 0) (p : X → Bool) (xs : List X) (x : X) → AllByRecursion P xs → find p xs ≡ Some x → P x
found-in P p [] x all h = cc
found-in P p (y ∷ ys) x all h = go (p y) (found-in P p ys x all.1) h
  where
    go : (t : Bool) → (find p ys ≡ Some x → P x) → cond t (Some y) (find p ys) ≡ Some x → P x
    go true later e = subst P (same_Some y x e) all.0
    go false later e = later e

-- tests that agree find the same
find-same : {X : Type 0} (p q : X → Bool) (xs : List X) → ((x : X) → p x ≡ q x) → find p xs ≡ find q xs
find-same p q [] agree = refl
find-same p q (x ∷ xs) agree = ap (λ (t : Bool). cond t (Some x) (find p xs)) (agree x) ∙ ap (λ o. cond (q x) (Some x) o) (find-same p q xs agree)

-- lists of operands of the same kinds

abbrev pub AreSameKinds : ℕ → List Operand → List Operand → Type 0
AreSameKinds w xs ys = AllZip (IsSameKind w) xs ys

kinds-taken : (w : ℕ) (form : OperandForm) (xs ys : List Operand) → AreSameKinds w xs ys → pointwise takes_kind form ys ≡ pointwise takes_kind form xs
kinds-taken w [] [] [] same = refl
kinds-taken w [] (a ∷ xs) (b ∷ ys) same = refl
kinds-taken w (c ∷ form) [] [] same = refl
kinds-taken w (c ∷ form) (a ∷ xs) (b ∷ ys) same =
    ap (λ (t : Bool). t && pointwise takes_kind form ys) (same.0.kind c) ∙ ap (λ (t : Bool). takes_kind c a && t) (kinds-taken w form xs ys same.1)
kinds-taken w form [] (b ∷ ys) same = absurd same
kinds-taken w form (a ∷ xs) [] same = absurd same

memory-counted : (w : ℕ) (xs ys : List Operand) → AreSameKinds w xs ys → count_by is_memory ys ≡ count_by is_memory xs
memory-counted w [] [] same = refl
memory-counted w (a ∷ xs) (b ∷ ys) same =
    count-cons is_memory b ys ∙ ap (λ (t : Bool). cond t 1 0 + count_by is_memory ys) (same.0.memory)
    ∙ ap (λ (n : ℕ). cond (is_memory a) 1 0 + n) (memory-counted w xs ys same.1) ∙ sym (count-cons is_memory a xs)
memory-counted w [] (b ∷ ys) same = absurd same
memory-counted w (a ∷ xs) [] same = absurd same

takes-same : (w : ℕ) (xs ys : List Operand) → AreSameKinds w xs ys → (form : OperandForm) → takes ys form ≡ takes xs form
takes-same w xs ys same form =
    ap (λ (t : Bool). t && nat_le (count_by is_memory ys) 1) (kinds-taken w form xs ys same)
    ∙ ap (λ (n : ℕ). pointwise takes_kind form xs && nat_le n 1) (memory-counted w xs ys same)

numbers-kept : (w : ℕ) (form : OperandForm) (xs ys : List Operand) → AreSameKinds w xs ys → AreOfWidth w form → numbers_fit xs form ≡ true → numbers_fit ys form ≡ true
numbers-kept w [] [] [] same of h = refl
numbers-kept w [] (a ∷ xs) (b ∷ ys) same of h = cc
numbers-kept w (c ∷ form) [] [] same of h = cc
numbers-kept w (c ∷ form) (a ∷ xs) (b ∷ ys) same of h =
    let parts = and_parts (number_fits c a) (numbers_fit xs form) h in
    and_from (number_fits c b) (numbers_fit ys form) (same.0.fits c of.0 parts.0) (numbers-kept w form xs ys same.1 of.1 parts.1)
numbers-kept w form [] (b ∷ ys) same of h = absurd same
numbers-kept w form (a ∷ xs) [] same of h = absurd same

-- a list is lone by its first two operands
pub lone-by : (a b : Operand) (rest : List Operand) → is_lone (a ∷ b ∷ rest) ≡ (is_single a && is_nothing b)
lone-by (Reg n w) Nothing rest = refl
lone-by (Reg n w) (Reg m v) rest = refl
lone-by (Reg n w) _ rest = refl
lone-by (Mem base index scale disp) Nothing rest = refl
lone-by (Mem base index scale disp) (Reg m v) rest = refl
lone-by (Mem base index scale disp) _ rest = refl
lone-by (Imm v) b rest = refl
lone-by _ b rest = refl

lone-same : (w : ℕ) (xs ys : List Operand) → AreSameKinds w xs ys → is_lone ys ≡ is_lone xs
lone-same w [] [] same = refl
lone-same w (a ∷ []) (b ∷ []) same = one b ∙ sym (one a)
  where
    one : (x : Operand) → is_lone (x ∷ []) ≡ false
    one (Reg n v) = refl
    one (Mem base index scale disp) = refl
    one _ = refl
lone-same w (a ∷ c ∷ xs) (b ∷ d ∷ ys) same =
    lone-by b d ys ∙ ap (λ (t : Bool). t && is_nothing d) (same.0.single) ∙ ap (λ (t : Bool). is_single a && t) (same.1.0.kind class.Absent) ∙ sym (lone-by a c xs)
lone-same w [] (b ∷ ys) same = absurd same
lone-same w (a ∷ xs) [] same = absurd same
lone-same w (a ∷ []) (b ∷ d ∷ ys) same = absurd same.1
lone-same w (a ∷ c ∷ xs) (b ∷ []) same = absurd same.1

lone-counted : (args : List Operand) → is_lone (counted_once args) ≡ true → is_lone args ≡ true → ⊥
lone-counted [] h k = cc
lone-counted (Reg n w ∷ []) h k = cc
lone-counted (Mem base index scale disp ∷ []) h k = cc
lone-counted (_ ∷ []) h k = cc
lone-counted (first ∷ second ∷ rest) h k = cc

-- operands that are complete stay so
completed-same : (op : Op) (w : ℕ) (xs ys : List Operand) → AreSameKinds w xs ys → completed op xs ≡ xs → completed op ys ≡ ys
completed-same op w xs ys same complete =
    ap (λ (t : Bool). cond (is_shift op && t) (counted_once ys) ys) (lone-same w xs ys same) ∙ go (is_shift op) (is_lone xs) refl complete
  where
    go : (s t : Bool) → is_lone xs ≡ t → cond (s && t) (counted_once xs) xs ≡ xs → cond (s && t) (counted_once ys) ys ≡ ys
    go true true e h = absurd (lone-counted xs (ap is_lone h ∙ e) e)
    go true false e h = refl
    go false t e h = refl

width-at : (w k : ℕ) (xs ys : List Operand) → AreSameKinds w xs ys → register_width (slice_get ys k) ≡ register_width (slice_get xs k)
width-at w k [] [] same = refl
width-at w zero (a ∷ xs) (b ∷ ys) same = same.0.width
width-at w (suc k) (a ∷ xs) (b ∷ ys) same = width-at w k xs ys same.1
width-at w k [] (b ∷ ys) same = absurd same
width-at w k (a ∷ xs) [] same = absurd same

-- the instruction with these operands on this line
abbrev pub with_operands : Insn → List Operand → ℕ → Insn
with_operands i args line = record { op = i.op; w = i.w; vex = i.vex; args = args; line = line }

judged-kept : (found : Option OperandForm) (form : OperandForm) (j : Insn) → found ≡ Some form → numbers_fit j.args form ≡ true → judged_by found j ≡ Ok j
judged-kept found form j is fit = ap (λ (o : Option OperandForm). judged_by o j) is ∙ ap (λ (t : Bool). cond t (Ok j) (Err BadNumber)) fit

vectors-same : (w : ℕ) (xs ys : List Operand) → AreSameKinds w xs ys → list_any is_vector ys ≡ list_any is_vector xs
vectors-same w [] [] same = refl
vectors-same w (a ∷ xs) (b ∷ ys) same =
    ap (λ (t : Bool). t || list_any is_vector ys) (same.0.vector) ∙ ap (λ (t : Bool). is_vector a || t) (vectors-same w xs ys same.1)
vectors-same w [] (b ∷ ys) same = absurd same
vectors-same w (a ∷ xs) [] same = absurd same

widest-same : (w : ℕ) (xs ys : List Operand) → AreSameKinds w xs ys → widest ys ≡ widest xs
widest-same w [] [] same = refl
widest-same w (a ∷ xs) (b ∷ ys) same =
    ap (λ (n : ℕ). max n (widest ys)) (same.0.vector_width) ∙ ap (λ (n : ℕ). max (vector_register_width a) n) (widest-same w xs ys same.1)
widest-same w [] (b ∷ ys) same = absurd same
widest-same w (a ∷ xs) [] same = absurd same

told-same : (vex : Bool) (w : ℕ) (xs ys : List Operand) → AreSameKinds w xs ys → told_width vex ys ≡ told_width vex xs
told-same true w xs ys same = widest-same w xs ys same
told-same false w xs ys same = width-at w 1 xs ys same

-- operands of the same kinds are taken
pub fits-again : (shape : Shape) (i : Insn) (ys : List Operand) (line : ℕ) → fits_of shape i.args i.line ≡ Ok i → AreSameKinds i.w i.args ys
    → fits_of shape ys line ≡ Ok (with_operands i ys line)
fits-again shape i ys line accepted same =
    let made = fitted-made shape i.args i.line i accepted in
    let form = made.form in
    let row : Shape = chosen shape i.args in
    let row_same : chosen shape ys ≡ row =
    ap (λ (t : Bool). cond (is_quadword_move shape.op shape.w shape.vex && t) (general (ops.Vector (Moving moves.Movq)) 128) shape) (vectors-same i.w i.args ys same) in
    let complete : completed row.op i.args ≡ i.args = ap (λ (x : Insn). x.args) made.same in
    let args : completed row.op ys ≡ ys = completed-same row.op i.w i.args ys same complete in
    let width : width_of row ys ≡ i.w =
    ap (λ (n : ℕ). cond (row.w == 0) n row.w) (told-same row.vex i.w i.args ys same) ∙ ap (λ (x : Insn). x.w) made.same in
    let op : row.op ≡ i.op = ap (λ (x : Insn). x.op) made.same in
    let vex : row.vex ≡ i.vex = ap (λ (x : Insn). x.vex) made.same in
    let written : insn_with row ys line ≡ with_operands i ys line = (λ k. record { op = op k; w = width k; vex = vex k; args = args k; line = line }) in
    let again : insn_of shape ys line ≡ with_operands i ys line = ap (λ (r : Shape). insn_with r ys line) row_same ∙ written in
    let kept : found_form shape (with_operands i ys line) ≡ Some form =
    ap (λ (t : Bool). cond t (find (takes ys) (forms i.op i.vex i.w)) None) made.named
    ∙ find-same (takes ys) (takes i.args) (forms i.op i.vex i.w) (takes-same i.w i.args ys same) ∙ made.taken in
    let of = found-in (AreOfWidth i.w) (takes i.args) (forms i.op i.vex i.w) form (form-widths i.op i.vex i.w) made.taken in
    ap (λ (x : Insn). judged_by (found_form shape x) x) again
    ∙ judged-kept (found_form shape (with_operands i ys line)) form (with_operands i ys line) kept (numbers-kept i.w form i.args ys same of made.numbers)

-- four operands

nothings : (R : Operand → Operand → Type 0) (k : ℕ) → R Nothing Nothing → AllZip R (replicate k Nothing) (replicate k Nothing)
nothings R zero none = tt
nothings R (suc k) none = (none, nothings R k none)

four-by : (R : Operand → Operand → Type 0) (k : ℕ) (xs ys : List Operand) → R Nothing Nothing → AllZip R xs ys
    → AllZip R (xs ++ replicate k Nothing) (ys ++ replicate k Nothing)
four-by R k [] [] none same = nothings R k none
four-by R k (a ∷ xs) (b ∷ ys) none same = (same.0, four-by R k xs ys none same.1)
four-by R k [] (b ∷ ys) none same = absurd same
four-by R k (a ∷ xs) [] none same = absurd same

-- what holds of operands, place by place, holds of four
pub four-zip : (R : Operand → Operand → Type 0) (xs ys : List Operand) → R Nothing Nothing → length ys ≡ length xs → AllZip R xs ys → AllZip R (four xs) (four ys)
four-zip R xs ys none count same =
    subst (λ (n : ℕ). AllZip R (four xs) (ys ++ replicate (4 - n) Nothing)) (sym count) (four-by R (4 - length xs) xs ys none same)
