use Rattle.std.proofs.Common.{◌+◌}
use Rattle.machine.specs.Kept.{pure_of}
use Rattle.align_report.specs.Changes.{ChangedFrom}
use Rattle.align_report.proofs.changes.changed_bytes.Given as goal

abbrev pub invariant-loop-k : goal.invariant-loop-k
invariant-loop-k l = ChangedFrom (pure_of l.start).memory (pure_of l.end).memory l.at (l.at + l.k)
