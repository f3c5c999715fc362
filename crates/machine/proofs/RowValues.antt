-- What a row computes, by its family.
use Rattle.std.proofs.Common.{◌≡◌, ◌⊎◌, ℕ, zero, suc, ◌%◌, ◌^◌, ◌<◌, Bool, true, false, inl, inr, List, refl, sym, ◌∙◌, ap, subst, if◌then◌else◌, arith, lit<}
use Rattle.std.proofs.Math.Nat.{mod-eq_of_lt, div-one, pow-suc}
use Rattle.insn_ops.specs.declared.op.Flags.{Flags}
use Rattle.insn_ops.specs.declared.op.Cond.{Cond}
use Rattle.insn_ops.specs.declared.op.Op.{Op}
use Rattle.insn_ops.specs.declared.op.Op.TheVariants as ops
use Rattle.insn_table.specs.declared.insn.Insn.{Insn}
use Rattle.insn_semantics.specs.Words.{bit}
use Rattle.insn_semantics.specs.Exprs.{value}
use Rattle.insn_semantics.specs.Rows.{Computes, computed, row_expr}
use Rattle.insn_semantics.specs.FlagRules.{flags_after}
use Rattle.machine.specs.declared.operands.Family.TheVariants.{Computing, Address, Choice, Setting}
use Rattle.machine.specs.Access.{source_width}
use Rattle.machine.proofs.VectorFamilies.{no_vectors, not_a_width, row_width}
use Rattle.machine.specs.Family.{family_of}
use Rattle.machine.specs.Machine.{Machine}
use Rattle.machine.specs.Operands.{address_of, operand, value_of}
use Rattle.machine.specs.Ready.{finished_row}
use Rattle.machine.specs.Runnable.{HasCount, HasRowOf, IsGeneralRegister, IsWidth}
use Rattle.machine.specs.Step.{after_row, destination_value, result_of, operand_leaves, source_operand, source_value, target_operand}

-- a computing row reads its source as a number
pub source_read : (pool : List ℕ) (op : Op) (i : Insn) (s : Machine) → family_of op ≡ Computing → source_value pool op i s ≡ value_of pool (source_width op i.w) s (source_operand op i)
source_read pool ops.Lea i s e = cc
source_read pool _ i s e = refl

-- a computing row's value is what it computes
pub computes : (op : Op) (w c a b : ℕ) → family_of op ≡ Computing → value (operand_leaves a b c) (row_expr op w b) ≡ computed op w a b
computes (ops.Cmov cond) w c a b e = cc
computes (ops.Set cond) w c a b e = cc
computes _ w c a b e = refl

positive : (w : ℕ) → IsWidth w → 0 < w
positive w (inl e) = omega arith
positive w (inr (inl e)) = omega arith
positive w (inr (inr (inl e))) = omega arith
positive w (inr (inr (inr e))) = omega arith

narrow : (w : ℕ) → IsWidth w → w < 65
narrow w (inl e) = omega arith
narrow w (inr (inl e)) = omega arith
narrow w (inr (inr (inl e))) = omega arith
narrow w (inr (inr (inr e))) = omega arith

-- the source of a row has a width
pub source_is_width : (op : Op) (i : Insn) → IsWidth i.w → HasRowOf op i → IsWidth (source_width op i.w)
source_is_width (ops.Movzx m) i w row = row.0
source_is_width (ops.Movsx m) i w row = row.0
source_is_width ops.Cltq i w row = inr (inr (inl refl))
source_is_width (ops.Vector op) i w row = absurd (not_a_width i.w (row_width op i.w row) w)
source_is_width _ i w row = w

below_own_power : (n : ℕ) → n < 2 ^ n
below_own_power zero = lit< tt
below_own_power (suc n) = omega (arith, below_own_power n, pow-suc 2 n)

count_below : (n w : ℕ) → n < w → n < 2 ^ w
count_below n w h = omega (arith, below_own_power w)

shift_count : (pool : List ℕ) (i : Insn) (s : Machine) (b : ℕ) → b ≡ value_of pool i.w s (operand i 0) → HasCount i → (0 < b) × (b < i.w)
shift_count pool i s b e c =
    let read : value_of pool i.w s (operand i 0) ≡ c.count % 2 ^ i.w = ap (value_of pool i.w s) c.source in
    let same : b ≡ c.count = e ∙ read ∙ mod-eq_of_lt (count_below c.count i.w c.below) in
    subst (λ (n : ℕ). (0 < n) × (n < i.w)) (sym same) (c.some, c.below)

-- the row's operands are those that it computes on
pub row_computes : (pool : List ℕ) (op : Op) (i : Insn) (s : Machine) (a b : ℕ) → family_of op ≡ Computing → IsWidth i.w → HasRowOf op i
    → a < 2 ^ i.w → b < 2 ^ source_width op i.w → b ≡ value_of pool (source_width op i.w) s (source_operand op i) → Computes op i.w a b
row_computes pool ops.Shl i s a b f w row low high e = let count = shift_count pool i s b e row in (narrow i.w w, low, count.0, count.1)
row_computes pool ops.Shr i s a b f w row low high e = let count = shift_count pool i s b e row in (narrow i.w w, low, count.0, count.1)
row_computes pool ops.Sar i s a b f w row low high e = let count = shift_count pool i s b e row in (narrow i.w w, low, count.0, count.1)
row_computes pool (ops.Movzx m) i s a b f w row low high e = (positive m row.0, row.1, narrow i.w w, high)
row_computes pool (ops.Movsx m) i s a b f w row low high e = (positive m row.0, row.1, narrow i.w w, high)
row_computes pool ops.Cltq i s a b f w row low high e = (row, high)
row_computes pool ops.Lea i s a b f w row low high e = cc
row_computes pool (ops.Cmov c) i s a b f w row low high e = cc
row_computes pool (ops.Set c) i s a b f w row low high e = cc
row_computes pool (ops.Jump c) i s a b f w row low high e = cc
row_computes pool ops.Jmp i s a b f w row low high e = cc
row_computes pool ops.Push i s a b f w row low high e = cc
row_computes pool ops.Pop i s a b f w row low high e = cc
row_computes pool ops.Ret i s a b f w row low high e = cc
row_computes pool ops.Nop i s a b f w row low high e = cc
row_computes pool ops.Endbr64 i s a b f w row low high e = cc
row_computes pool (ops.Vector v) i s a b f w row low high e = absurd (no_vectors v Computing tt f)
row_computes pool _ i s a b f w row low high e = (positive i.w w, narrow i.w w, low, high)

-- a row by its result and its flags
pub row_after : (pool : List ℕ) (i : Insn) (s : Machine) (a b word : ℕ) (flags : Flags) → family_of i.op ≡ Computing
    → a ≡ destination_value pool i s → b ≡ value_of pool (source_width i.op i.w) s (source_operand i.op i)
    → word ≡ computed i.op i.w a b → flags ≡ flags_after i.op i.w a b s.flags → finished_row i s word flags ≡ after_row pool i s 0
row_after pool i s a b word flags f da sb w g =
    let source : b ≡ source_value pool i.op i s = sb ∙ sym (source_read pool i.op i s f) in
    let result : word ≡ result_of pool i s 0 = w ∙ sym (computes i.op i.w 0 a b f) ∙ (λ j. value (operand_leaves (da j) (source j) 0) (row_expr i.op i.w (source j))) in
    let after : flags ≡ flags_after i.op i.w (destination_value pool i s) (source_value pool i.op i s) s.flags = g ∙ (λ j. flags_after i.op i.w (da j) (source j) s.flags) in
    λ j. finished_row i s (result j) (after j)

-- operations that leave the flags
lea_flags : (w a b : ℕ) (f : Flags) → flags_after ops.Lea w a b f ≡ f
unfolding flags_after
lea_flags w a b f = refl

cmov_flags : (c : Cond) (w a b : ℕ) (f : Flags) → flags_after (ops.Cmov c) w a b f ≡ f
unfolding flags_after
cmov_flags c w a b f = refl

set_flags : (c : Cond) (w a b : ℕ) (f : Flags) → flags_after (ops.Set c) w a b f ≡ f
unfolding flags_after
set_flags c w a b f = refl

-- addresses, choices and settings leave the flags
pub flags_stay : (op : Op) (w a b : ℕ) (f : Flags) → (family_of op ≡ Address) ⊎ ((family_of op ≡ Choice) ⊎ (family_of op ≡ Setting)) → flags_after op w a b f ≡ f
flags_stay ops.Lea w a b f h = lea_flags w a b f
flags_stay (ops.Cmov c) w a b f h = cmov_flags c w a b f
flags_stay (ops.Set c) w a b f h = set_flags c w a b f
flags_stay (ops.Vector op) w a b f (inl e) = absurd (no_vectors op Address tt e)
flags_stay (ops.Vector op) w a b f (inr (inl e)) = absurd (no_vectors op Choice tt e)
flags_stay (ops.Vector op) w a b f (inr (inr e)) = absurd (no_vectors op Setting tt e)
flags_stay _ w a b f (inl e) = cc
flags_stay _ w a b f (inr (inl e)) = cc
flags_stay _ w a b f (inr (inr e)) = cc

-- a row that leaves the flags, by its result
kept_after : (pool : List ℕ) (i : Insn) (s : Machine) (word cond : ℕ)
    → (family_of i.op ≡ Address) ⊎ ((family_of i.op ≡ Choice) ⊎ (family_of i.op ≡ Setting)) → word ≡ result_of pool i s cond
    → finished_row i s word s.flags ≡ after_row pool i s cond
kept_after pool i s word cond f w =
    let after = flags_stay i.op i.w (destination_value pool i s) (source_value pool i.op i s) s.flags f in
    λ j. finished_row i s (w j) (sym after j)

-- the value of the row of `lea`
pub address_result : (op : Op) (w a b : ℕ) → family_of op ≡ Address → value (operand_leaves a b 0) (row_expr op w b) ≡ b % 2 ^ w
address_result ops.Lea w a b f = ap (λ (x : ℕ). x % 2 ^ w) (div-one b)
address_result (ops.Vector op) w a b f = absurd (no_vectors op Address tt f)
address_result _ w a b f = cc

-- the source of `lea` is its address
pub address_source : (pool : List ℕ) (op : Op) (i : Insn) (s : Machine) → family_of op ≡ Address → source_value pool op i s ≡ address_of s.regs (operand i 0)
address_source pool ops.Lea i s f = refl
address_source pool (ops.Vector op) i s f = absurd (no_vectors op Address tt f)
address_source pool _ i s f = cc

-- `lea` writes a register
pub address_row : (op : Op) (i : Insn) → family_of op ≡ Address → HasRowOf op i → IsGeneralRegister (target_operand op i)
address_row ops.Lea i f row = row
address_row (ops.Vector op) i f row = absurd (no_vectors op Address tt f)
address_row _ i f row = cc

-- the state after `lea`
pub address_after : (pool : List ℕ) (i : Insn) (s : Machine) (word : ℕ) → family_of i.op ≡ Address → word ≡ address_of s.regs (operand i 0) % 2 ^ i.w
    → finished_row i s word s.flags ≡ after_row pool i s 0
address_after pool i s word f w = kept_after pool i s word 0 (inl f)
    (w ∙ ap (λ (x : ℕ). x % 2 ^ i.w) (sym (address_source pool i.op i s f)) ∙ sym (address_result i.op i.w (destination_value pool i s) (source_value pool i.op i s) f))

-- the value of the row of a move by condition
pub choice_result : (op : Op) (w a b : ℕ) (holds : Bool) → family_of op ≡ Choice → value (operand_leaves a b (bit holds)) (row_expr op w b) ≡ (if holds then b else a)
choice_result (ops.Cmov c) w a b true f = refl
choice_result (ops.Cmov c) w a b false f = refl
choice_result (ops.Vector op) w a b holds f = absurd (no_vectors op Choice tt f)
choice_result _ w a b holds f = cc

-- the source of a move by condition
pub choice_source : (pool : List ℕ) (op : Op) (i : Insn) (s : Machine) → family_of op ≡ Choice → source_value pool op i s ≡ value_of pool (source_width op i.w) s (source_operand op i)
choice_source pool (ops.Cmov c) i s f = refl
choice_source pool (ops.Vector op) i s f = absurd (no_vectors op Choice tt f)
choice_source pool _ i s f = cc

-- the state after a move by condition
pub choice_after : (pool : List ℕ) (i : Insn) (s : Machine) (a b word : ℕ) (holds : Bool) → family_of i.op ≡ Choice
    → a ≡ destination_value pool i s → b ≡ value_of pool (source_width i.op i.w) s (source_operand i.op i) → word ≡ (if holds then b else a)
    → finished_row i s word s.flags ≡ after_row pool i s (bit holds)
choice_after pool i s a b word holds f da sb w =
    let source : b ≡ source_value pool i.op i s = sb ∙ sym (choice_source pool i.op i s f) in
    let result : word ≡ result_of pool i s (bit holds) = w ∙ sym (choice_result i.op i.w a b holds f) ∙ (λ j. value (operand_leaves (da j) (source j) (bit holds)) (row_expr i.op i.w (source j))) in
    kept_after pool i s word (bit holds) (inr (inl f)) result

-- the value of the row of a byte set by condition
pub setting_result : (op : Op) (w a b : ℕ) (holds : Bool) → family_of op ≡ Setting → value (operand_leaves a b (bit holds)) (row_expr op w b) ≡ bit holds
setting_result (ops.Set c) w a b true f = refl
setting_result (ops.Set c) w a b false f = refl
setting_result (ops.Vector op) w a b holds f = absurd (no_vectors op Setting tt f)
setting_result _ w a b holds f = cc

-- the state after a byte set by condition
pub setting_after : (pool : List ℕ) (i : Insn) (s : Machine) (word : ℕ) (holds : Bool) → family_of i.op ≡ Setting → word ≡ bit holds
    → finished_row i s word s.flags ≡ after_row pool i s (bit holds)
setting_after pool i s word holds f w =
    kept_after pool i s word (bit holds) (inr (inr f)) (w ∙ sym (setting_result i.op i.w (destination_value pool i s) (source_value pool i.op i s) holds f))
