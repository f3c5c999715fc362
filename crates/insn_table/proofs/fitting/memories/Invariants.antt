use Rattle.std.proofs.Common.{◌≡◌, ◌≤◌, take}
use Rattle.std.specs.List.{count_by}
use Rattle.insn_table.specs.Classes.{is_memory}
use Rattle.insn_table.proofs.fitting.memories.Given as goal

-- those counted so far are the ones in memory among those seen
abbrev pub invariant-loop-arg : goal.invariant-loop-arg
invariant-loop-arg l = (l.count ≡ count_by is_memory (take l.arg-index l.args)) × (l.count ≤ l.arg-index)
