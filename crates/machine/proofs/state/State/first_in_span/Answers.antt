use Rattle.machine.specs.Kept.{pure_of}
use Rattle.machine.proofs.Differences.{first_of_span}
use Rattle.machine.proofs.state.State.first_in_span.Goals as goal

pub returns-then-differs_at-clause-some : goal.returns-then-differs_at-clause-some
returns-then-differs_at-clause-some c =
    first_of_span c.args.span.now c.args.scratch.now (pure_of c.args.self.now) (pure_of c.args.other.now) c.loop-i.i c.loop-i.invariant c.if-differs_at.ensures
