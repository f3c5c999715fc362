use Rattle.std.proofs.Common.{drop, string_bytes}
use Rattle.machine.specs.Kept.{pure_of}
use Rattle.align_report.proofs.Pieces.{Writes}
use Rattle.align_report.proofs.changes.push_changes.Given as goal

abbrev pub invariant-loop-range : goal.invariant-loop-range
invariant-loop-range l =
    Writes (pure_of l.start).memory (pure_of l.end).memory (string_bytes l.initial.out) (string_bytes l.out) (drop l.range-index l.ranges)
