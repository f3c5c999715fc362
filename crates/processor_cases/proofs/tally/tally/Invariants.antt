use Rattle.std.proofs.Common.{drop, map}
use Rattle.processor_cases.proofs.Tallies.{CountsTo}
use Rattle.processor_cases.proofs.tally.tally.Given as goal

abbrev pub invariant-loop-line : goal.invariant-loop-line
invariant-loop-line l = CountsTo l.counts.wrong (map (λ x. x.now) (drop l.line-index l.line-items)) (map (λ x. x.now) l.line-items)
