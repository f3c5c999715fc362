use Rattle.std.proofs.Common.{◌≡◌, ◌++◌, drop}
use Rattle.sym_memory.specs.Writes.{written_bytes}
use Rattle.sym_memory.proofs.memory.bytes_of.Given as goal

abbrev pub invariant-loop-i : goal.invariant-loop-i
invariant-loop-i l = l.bytes.items ++ written_bytes l.access l.at l.i (drop l.i l.values) ≡ written_bytes l.access l.at 0 l.values
