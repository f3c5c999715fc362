use Rattle.std.proofs.Common.{◌≡◌, ◌+◌, ◌-◌, ◌≤◌, string_bytes}
use Rattle.machine.specs.Kept.{pure_of}
use Rattle.align_report.specs.Writing.{AppendsPieces}
use Rattle.align_report.proofs.changes.push_range.Given as goal

abbrev pub invariant-loop-at : goal.invariant-loop-at
invariant-loop-at l =
    AppendsPieces (pure_of l.start).memory (pure_of l.end).memory l.fn.range.first l.at (string_bytes l.initial.out) (string_bytes l.out)
    × (l.at ≤ l.behind) × (l.behind ≡ l.fn.range.last + 1)

abbrev pub decreases-loop-at : goal.decreases-loop-at
decreases-loop-at l = l.behind - l.at
