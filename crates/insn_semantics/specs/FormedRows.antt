-- The widths that each general row is formed over: those of its leaves, and of the expressions of its flags.
use Rattle.std.specs.Prelude.{◌≡◌, ℕ, zero, suc, ◌<◌, ◌≤◌}
use Rattle.insn_ops.specs.declared.op.Op.{Op}
use Rattle.insn_ops.specs.declared.op.Op.TheVariants as ops
use Rattle.insn_semantics.specs.FlagRules.{Rule, Keeps, Unsets, Sets}
use Rattle.insn_semantics.specs.Formed.{IsFormedAt}

-- the width of the leaf that is the source, in a form of w bits: of `lea` it is an address
abbrev pub source_leaf_width : Op → ℕ → ℕ
source_leaf_width ops.Lea w = 64
source_leaf_width (ops.Movzx m) w = m
source_leaf_width (ops.Movsx m) w = m
source_leaf_width ops.Cltq w = 32
source_leaf_width _ w = w

-- the widths of a row's leaves: of the destination, of the source, and of the condition
abbrev pub row_widths : Op → ℕ → ℕ → ℕ
row_widths op w zero = w
row_widths op w (suc zero) = source_leaf_width op w
row_widths op w (suc (suc i)) = 1

-- the widths of a row, and of a shift with its counts
abbrev pub HasRowWidth : Op → ℕ → ℕ → Type 0
HasRowWidth ops.Shl w k = (0 < k) × (k < w) × (w ≤ 64)
HasRowWidth ops.Shr w k = (0 < k) × (k < w) × (w ≤ 64)
HasRowWidth ops.Sar w k = (0 < k) × (k < w) × (w ≤ 64)
HasRowWidth (ops.Movzx m) w k = (0 < m) × (m < w) × (w ≤ 64)
HasRowWidth (ops.Movsx m) w k = (0 < m) × (m < w) × (w ≤ 64)
HasRowWidth ops.Cltq w k = w ≡ 64
HasRowWidth (ops.Set c) w k = w ≡ 8
HasRowWidth _ w k = (0 < w) × (w ≤ 64)

-- the flag that a rule sets is formed, of one bit, over words of w bits
abbrev pub IsFormedRule : ℕ → Rule → Type 0
IsFormedRule w Keeps = Unit {0}
IsFormedRule w Unsets = Unit {0}
IsFormedRule w (Sets x) = IsFormedAt (λ i. w) 1 x
