-- The text of an instruction gives one of the table, which jumps to places that labels lead to.
use Rattle.std.proofs.Common.{◌≡◌, ℕ, ◌-◌, ◌<◌, Bool, true, false, cond, eqb, ◌&&◌, ◌||◌, if◌then◌else◌, inl, inr, List, [], ◌∷◌, ◌++◌, length, replicate, Option, Some, None, Ok, Err, IfSome, zero, suc, sym, subst}
use Rattle.std.specs.List.{AllByRecursion}
use Rattle.insn_ops.specs.declared.op.Op.{Op}
use Rattle.insn_table.specs.declared.insn.Operand.{Operand}
use Rattle.insn_table.specs.declared.insn.Operand.TheVariants.{Reg, Vec, Nothing}
use Rattle.insn_table.specs.declared.insn.Insn.{Insn}
use Rattle.insn_table.specs.declared.fitting.Misfit.TheVariants as misfits
use Rattle.insn_table.specs.Classes.{OperandForm, numbers_fit}
use Rattle.insn_table.specs.Forms.{chosen, is_shift, is_lone, counted_once, completed, insn_of, found_form, judged_by}
use Rattle.insn_table.specs.Table.{IsScale, HasRegisters, IsTableInsn}
use Rattle.insn_table.specs.Closed.{IsInside}
use Rattle.insn_table.proofs.TableInsns.{fitted-insn}
use Rattle.register_names.proofs.NameTexts.{names_there}
use Rattle.register_names.specs.Names.{IsRegisterText}
use Rattle.att_statements.specs.Operands.{IsBase, IsIndex, AreAddressParts, Written, Immediate, Label, Plain, IsOperandText, IsOperandPart}
use Rattle.att_statements.specs.Statements.{AreWritten, StandsFor, StandFor, HasPlace, four, IsInsnText}

-- what an operand of a function of n instructions may be
abbrev IsClosedOperand : ℕ → Operand → Type 0
IsClosedOperand n o = HasRegisters o × IsInside n o

register-below : (text : List ℕ) (n w : ℕ) → IsRegisterText text n w → n < 16
register-below text n w h = (names_there.alone h.name w n h.known).1

base-below : (part : List ℕ) (base : Option ℕ) → IsBase part base → IfSome base (λ n. n < 16)
base-below part base (inl none) = subst (λ o. IfSome o (λ n. n < 16)) (sym none.1) tt
base-below part base (inr some) = subst (λ o. IfSome o (λ n. n < 16)) (sym some.2) (register-below some.1.0 some.0 64 some.1.2)

index-below : (part : List ℕ) (index : Option ℕ) → IsIndex part index → IfSome index (λ n. n < 16)
index-below part index some = subst (λ o. IfSome o (λ n. n < 16)) (sym some.3) (register-below some.1.0 some.0 64 some.1.2)

scale_one : (s : ℕ) → s ≡ 1 → IsScale s
scale_one s one = inl one

address-right : (parts : List (List ℕ)) (base index : Option ℕ) (scale : ℕ) → AreAddressParts parts base index scale
    → IfSome base (λ n. n < 16) × IfSome index (λ n. n < 16) × IsScale scale
address-right [] base index scale h = absurd h
address-right (b ∷ []) base index scale h =
    (subst (λ o. IfSome o (λ n. n < 16)) (sym h.0.2) (register-below h.0.1.0 h.0.0 64 h.0.1.2), subst (λ o. IfSome o (λ n. n < 16)) (sym h.1) tt, scale_one scale h.2)
address-right (b ∷ i ∷ []) base index scale h = (base-below b base h.0, index-below i index h.1, scale_one scale h.2)
address-right (b ∷ i ∷ s ∷ []) base index scale h = (base-below b base h.0, index-below i index h.1, h.2.3)
address-right (b ∷ i ∷ s ∷ more ∷ rest) base index scale h = absurd h

register-closed : (n r w : ℕ) (vector : Bool) → r < 16 → IsClosedOperand n (if vector then Vec r w else Reg r w)
register-closed n r w true low = (low, tt)
register-closed n r w false low = (low, tt)

plain-right : (n : ℕ) (text : List ℕ) (operand : Operand) → IsOperandText text (Plain operand) → IsClosedOperand n operand
plain-right n text operand (inl register) =
    subst (IsClosedOperand n) (sym register.3)
    (register-closed n register.0 register.1 (eqb register.1 128 || eqb register.1 256) (register-below text register.0 register.1 register.2))
plain-right n text operand (inr memory) =
    subst (IsClosedOperand n) (sym memory.means) (address-right memory.parts memory.base memory.index memory.scale memory.address, tt)

module _ (n : ℕ) {L : List ℕ → ℕ → Type 0} (few : (name : List ℕ) (place : ℕ) → L name place → place < n) where
  operand-right : (part : List ℕ) (w : Written) (o : Operand) → IsOperandPart part w → StandsFor L w o → HasPlace L w → IsClosedOperand n o
  operand-right part (Immediate negative amount) o spelled stands placed = subst (IsClosedOperand n) (sym stands) (tt, tt)
  operand-right part (Label name) o spelled (inl place) placed = subst (IsClosedOperand n) (sym place.2) (tt, few name place.0 place.1)
  operand-right part (Label name) o spelled (inr lost) placed = absurd (lost.0 placed.0 placed.1)
  operand-right part (Plain operand) o spelled stands placed = subst (IsClosedOperand n) (sym stands) (plain-right n spelled.0 operand spelled.2)

  operands-right : (parts : List (List ℕ)) (ws : List Written) (os : List Operand) → AreWritten parts ws → StandFor L ws os → AllByRecursion (HasPlace L) ws
      → AllByRecursion (IsClosedOperand n) os
  operands-right [] [] [] spelled stand placed = tt
  operands-right [] [] (o ∷ os) spelled stand placed = absurd stand
  operands-right [] (w ∷ ws) os spelled stand placed = absurd spelled
  operands-right (part ∷ parts) [] os spelled stand placed = absurd spelled
  operands-right (part ∷ parts) (w ∷ ws) [] spelled stand placed = absurd stand
  operands-right (part ∷ parts) (w ∷ ws) (o ∷ os) spelled stand placed =
      (operand-right part w o spelled.0 stand.0 placed.0, operands-right parts ws os spelled.1 stand.1 placed.1)

nothing-right : (n k : ℕ) → AllByRecursion (IsClosedOperand n) (replicate k Nothing)
nothing-right n zero = tt
nothing-right n (suc k) = ((tt, tt), nothing-right n k)

all-append : {X : Type 0} (P : X → Type 0) (xs ys : List X) → AllByRecursion P xs → AllByRecursion P ys → AllByRecursion P (xs ++ ys)
all-append P [] ys one two = two
all-append P (x ∷ xs) ys one two = (one.0, all-append P xs ys one.1 two)

counted-right : (n : ℕ) (os : List Operand) → AllByRecursion (IsClosedOperand n) os → AllByRecursion (IsClosedOperand n) (counted_once os)
counted-right n [] all = all
counted-right n (a ∷ []) all = all
counted-right n (a ∷ b ∷ rest) all = ((tt, tt), (all.0, all.1.1))

completed-right : (n : ℕ) (op : Op) (os : List Operand) → AllByRecursion (IsClosedOperand n) os → AllByRecursion (IsClosedOperand n) (completed op os)
completed-right n op os all =
    elim (is_shift op && is_lone os) as (λ (t : Bool). AllByRecursion (IsClosedOperand n) (cond t (counted_once os) os)) [ true ↦ counted-right n os all | false ↦ all ]

judged_same : (found : Option OperandForm) (made i : Insn) → judged_by found made ≡ Ok i → made ≡ i
judged_same None made i h = cc
judged_same (Some form) made i h =
    elim (numbers_fit made.args form) as (λ (t : Bool). cond t (Ok made) (Err misfits.BadNumber) ≡ Ok i → made ≡ i) [ true ↦ λ e. cc | false ↦ λ e. cc ] h

split-all : (n : ℕ) (os : List Operand) → AllByRecursion (IsClosedOperand n) os → AllByRecursion HasRegisters os × AllByRecursion (IsInside n) os
split-all n [] all = (tt, tt)
split-all n (o ∷ os) all = let more = split-all n os all.1 in ((all.0.0, more.0), (all.0.1, more.1))

-- the text of an instruction of a function of n instructions, whose labels lead to some of them
pub insn-closed : (n : ℕ) (L : List ℕ → ℕ → Type 0) (text : List ℕ) (line : ℕ) (i : Insn) → ((name : List ℕ) (place : ℕ) → L name place → place < n)
    → IsInsnText L text line i → IsTableInsn i × AllByRecursion (IsInside n) i.args
insn-closed n L text line i few h =
    let operands = operands-right n few h.made.parts h.written h.operands h.made.spelled h.made.stand h.placed in
    let made = insn_of h.shape (four h.operands) line in
    let args = completed-right n (chosen h.shape (four h.operands)).op (four h.operands) (all-append (IsClosedOperand n) h.operands _ operands (nothing-right n (4 - length h.operands))) in
    let same : made ≡ i = judged_same (found_form h.shape made) made i h.fits in
    let right = split-all n i.args (subst (λ (x : Insn). AllByRecursion (IsClosedOperand n) x.args) same args) in
    (fitted-insn h.made.mnemonic h.shape (four h.operands) line i h.made.row h.fits right.0, right.1)
