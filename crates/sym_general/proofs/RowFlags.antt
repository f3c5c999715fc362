-- Flags by their rules: they are flags of the later sheet, worth what the instruction leaves.
use Rattle.std.proofs.Common.{◌≡◌, ℕ, ◌≤◌, ◌==◌, Bool, true, false, List, Some, refl, sym, ◌∙◌, ap, subst}
use Rattle.std.proofs.lemmas.Bool.{false≢true, true≢false}
use Rattle.insn_ops.specs.declared.op.Op.{Op}
use Rattle.insn_ops.specs.declared.op.Op.TheVariants as ops
use Rattle.insn_semantics.specs.Exprs.{Expr, value}
use Rattle.insn_semantics.specs.FlagRules.{Rule, Keeps, Unsets, Sets, carry_rule, flag_by_rule, overflow_rule, result_rule}
use Rattle.insn_semantics.specs.FormedRows.{HasRowWidth}
use Rattle.insn_semantics.specs.OperationGroups.{is_shift, sets_flags}
use Rattle.insn_semantics.specs.Rows.{row_expr}
use Rattle.node_values.specs.declared.node.Node.{Node}
use Rattle.node_values.specs.Sheets.{value_at}
use Rattle.node_values.specs.Values.{Environment}
use Rattle.sym_rows.specs.declared.operands.Flag.{Flag}
use Rattle.sym_rows.specs.declared.operands.Flag.TheVariants as flags
use Rattle.sym_rows.specs.declared.operands.FlagNodes.{FlagNodes}
use Rattle.sym_rows.specs.declared.lazy_flags.SymFlag.{SymFlag}
use Rattle.sym_rows.specs.declared.lazy_flags.SymFlag.TheVariants.{From}
use Rattle.sym_rows.specs.FlagExprs.{flag_rule, set_to}
use Rattle.sym_rows.specs.LazyFlags.{IsSetting, shift_count}
use Rattle.sym_rows.specs.Leaves.{AreLeaves, flag_leaf}
use Rattle.sym_general.specs.Applied.{computes_word, flag_by}
use Rattle.sym_general.specs.PathFlags.{IsFlag, flag_value}

abbrev is_setting : Rule → Bool
is_setting Keeps = false
is_setting Unsets = false
is_setting (Sets x) = true

-- an operation that sets some flag
carry_sets : (op : Op) (w k : ℕ) (x : Expr) → carry_rule op w k ≡ Sets x → sets_flags op ≡ true
carry_sets ops.Add w k x e = refl
carry_sets ops.Sub w k x e = refl
carry_sets ops.Cmp w k x e = refl
carry_sets ops.Inc w k x e = refl
carry_sets ops.Dec w k x e = refl
carry_sets ops.Neg w k x e = refl
carry_sets ops.Test w k x e = refl
carry_sets ops.And w k x e = refl
carry_sets ops.Or w k x e = refl
carry_sets ops.Xor w k x e = refl
carry_sets ops.Shl w k x e = refl
carry_sets ops.Shr w k x e = refl
carry_sets ops.Sar w k x e = refl
carry_sets _ w k x e = absurd (false≢true (ap is_setting e))

overflow_sets : (op : Op) (w k : ℕ) (x : Expr) → overflow_rule op w k ≡ Sets x → sets_flags op ≡ true
overflow_sets ops.Add w k x e = refl
overflow_sets ops.Sub w k x e = refl
overflow_sets ops.Cmp w k x e = refl
overflow_sets ops.Inc w k x e = refl
overflow_sets ops.Dec w k x e = refl
overflow_sets ops.Neg w k x e = refl
overflow_sets ops.Test w k x e = refl
overflow_sets ops.And w k x e = refl
overflow_sets ops.Or w k x e = refl
overflow_sets ops.Xor w k x e = refl
overflow_sets ops.Shl w k x e = refl
overflow_sets ops.Shr w k x e = refl
overflow_sets ops.Sar w k x e = refl
overflow_sets _ w k x e = absurd (false≢true (ap is_setting e))

result_sets : (op : Op) (x y : Expr) → result_rule op x ≡ Sets y → sets_flags op ≡ true
result_sets ops.Add x y e = refl
result_sets ops.Sub x y e = refl
result_sets ops.Cmp x y e = refl
result_sets ops.Inc x y e = refl
result_sets ops.Dec x y e = refl
result_sets ops.Neg x y e = refl
result_sets ops.Test x y e = refl
result_sets ops.And x y e = refl
result_sets ops.Or x y e = refl
result_sets ops.Xor x y e = refl
result_sets ops.Shl x y e = refl
result_sets ops.Shr x y e = refl
result_sets ops.Sar x y e = refl
result_sets _ x y e = absurd (false≢true (ap is_setting e))

sets_some : (which : Flag) (op : Op) (w k : ℕ) (x : Expr) → flag_rule which op w k ≡ Sets x → sets_flags op ≡ true
sets_some flags.Carry op w k x e = carry_sets op w k x e
sets_some flags.Parity op w k x e = result_sets op _ x e
sets_some flags.Zero op w k x e = result_sets op _ x e
sets_some flags.Sign op w k x e = result_sets op _ x e
sets_some flags.Overflow op w k x e = overflow_sets op w k x e

-- an operation that computes no word keeps all flags
carry_kept : (op : Op) (w k : ℕ) → computes_word op ≡ false → carry_rule op w k ≡ Keeps
carry_kept (ops.Jump c) w k h = refl
carry_kept ops.Jmp w k h = refl
carry_kept ops.Push w k h = refl
carry_kept ops.Pop w k h = refl
carry_kept ops.Ret w k h = refl
carry_kept ops.Nop w k h = refl
carry_kept ops.Endbr64 w k h = refl
carry_kept (ops.Vector v) w k h = refl
carry_kept _ w k h = absurd (true≢false h)

overflow_kept : (op : Op) (w k : ℕ) → computes_word op ≡ false → overflow_rule op w k ≡ Keeps
overflow_kept (ops.Jump c) w k h = refl
overflow_kept ops.Jmp w k h = refl
overflow_kept ops.Push w k h = refl
overflow_kept ops.Pop w k h = refl
overflow_kept ops.Ret w k h = refl
overflow_kept ops.Nop w k h = refl
overflow_kept ops.Endbr64 w k h = refl
overflow_kept (ops.Vector v) w k h = refl
overflow_kept _ w k h = absurd (true≢false h)

result_kept : (op : Op) (x : Expr) → computes_word op ≡ false → result_rule op x ≡ Keeps
result_kept (ops.Jump c) x h = refl
result_kept ops.Jmp x h = refl
result_kept ops.Push x h = refl
result_kept ops.Pop x h = refl
result_kept ops.Ret x h = refl
result_kept ops.Nop x h = refl
result_kept ops.Endbr64 x h = refl
result_kept (ops.Vector v) x h = refl
result_kept _ x h = absurd (true≢false h)

pub rules_kept : (which : Flag) (op : Op) (w k : ℕ) → computes_word op ≡ false → flag_rule which op w k ≡ Keeps
rules_kept flags.Carry op w k h = carry_kept op w k h
rules_kept flags.Parity op w k h = result_kept op _ h
rules_kept flags.Zero op w k h = result_kept op _ h
rules_kept flags.Sign op w k h = result_kept op _ h
rules_kept flags.Overflow op w k h = overflow_kept op w k h

-- only those of a shift depend on its count
pub row_counted : (op : Op) (w k s : ℕ) → (is_shift op ≡ true → k ≡ s) → row_expr op w k ≡ row_expr op w s
row_counted ops.Shl w k s h = ap (row_expr ops.Shl w) (h refl)
row_counted ops.Shr w k s h = ap (row_expr ops.Shr w) (h refl)
row_counted ops.Sar w k s h = ap (row_expr ops.Sar w) (h refl)
row_counted _ w k s h = refl

pub rules_counted : (which : Flag) (op : Op) (w k s : ℕ) → (is_shift op ≡ true → k ≡ s) → flag_rule which op w k ≡ flag_rule which op w s
rules_counted flags.Carry op w k s h = carry_counted op w k s h
  where
    carry_counted : (op : Op) (w k s : ℕ) → (is_shift op ≡ true → k ≡ s) → carry_rule op w k ≡ carry_rule op w s
    carry_counted ops.Shl w k s h = ap (carry_rule ops.Shl w) (h refl)
    carry_counted ops.Shr w k s h = ap (carry_rule ops.Shr w) (h refl)
    carry_counted ops.Sar w k s h = ap (carry_rule ops.Sar w) (h refl)
    carry_counted _ w k s h = refl
rules_counted flags.Parity op w k s h = refl
rules_counted flags.Zero op w k s h = refl
rules_counted flags.Sign op w k s h = refl
rules_counted flags.Overflow op w k s h = overflow_counted op w k s h
  where
    overflow_counted : (op : Op) (w k s : ℕ) → (is_shift op ≡ true → k ≡ s) → overflow_rule op w k ≡ overflow_rule op w s
    overflow_counted ops.Shl w k s h = ap (overflow_rule ops.Shl w) (h refl)
    overflow_counted ops.Shr w k s h = ap (overflow_rule ops.Shr w) (h refl)
    overflow_counted ops.Sar w k s h = ap (overflow_rule ops.Sar w) (h refl)
    overflow_counted _ w k s h = refl

setting : (x : Expr) (r : Rule) → r ≡ Sets x → IsSetting r
setting x r e = subst IsSetting (sym e) tt

-- a flag by a rule of the operation, over the nodes of its result and its operands, whose words these leaves are
module _ (ns later : List Node) (which : Flag) (op : Op) (w k : ℕ) (over : FlagNodes) (byte : 8 ≤ w) (word : w ≤ 64)
    (row : HasRowWidth op w k) (count : shift_count later op over.right ≡ k)
    (leaves : sets_flags op ≡ true → AreLeaves w later (flag_leaf over)) where
  pub flag_by_is : (r : Rule) → flag_rule which op w k ≡ r → (before : SymFlag) → IsFlag later which before
      → IsFlag later which (flag_by r before (From op w over))
  flag_by_is Keeps e before h = h
  flag_by_is Unsets e before h = λ set. absurd (true≢false set)
  flag_by_is (Sets x) e before h = λ set. record {
    leaves = leaves (sets_some which op w k x e);
    row = subst (HasRowWidth op w) (sym count) row;
    byte = byte;
    word = word;
    sets = subst (λ j. IsSetting (flag_rule which op w j)) (sym count) (setting x (flag_rule which op w k) e);
  }

  pub flag_by_value : (e : Environment) (L : ℕ → ℕ) → (sets_flags op ≡ true → (i : ℕ) → value_at e later (flag_leaf over i).0 ≡ L i)
      → (r : Rule) → flag_rule which op w k ≡ r → (before old : SymFlag) → flag_value e later which before ≡ flag_value e ns which old
      → flag_value e later which (flag_by r before (From op w over)) ≡ flag_by_rule L r (flag_value e ns which old)
  flag_by_value e L words Keeps is before old same = same
  flag_by_value e L words Unsets is before old same = refl
  flag_by_value e L words (Sets x) is before old same =
      let rule : flag_rule which op w (shift_count later op over.right) ≡ Sets x = ap (flag_rule which op w) count ∙ is in
      let at : (λ i. value_at e later (flag_leaf over i).0) ≡ L = λ t. λ i. words (sets_some which op w k x is) i t in
      λ t. Some (value (at t) (set_to (rule t)) == 1)
