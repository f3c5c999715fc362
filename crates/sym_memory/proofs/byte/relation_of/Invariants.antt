use Rattle.std.proofs.Common.{◌≡◌, drop}
use Rattle.sym_memory.specs.Writes.{relation_of}
use Rattle.sym_memory.proofs.byte.relation_of.Given as goal

abbrev pub invariant-loop-entry : goal.invariant-loop-entry
invariant-loop-entry l = relation_of (drop l.entry-index l.fixed) l.i l.j ≡ relation_of l.fixed l.i l.j
