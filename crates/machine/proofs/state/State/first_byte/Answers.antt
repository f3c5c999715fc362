use Rattle.machine.proofs.Differences.{first_lesser, no_lesser}
use Rattle.machine.proofs.state.State.first_byte.Goals as goal

pub returns-clause-none : goal.returns-clause-none
returns-clause-none c =
    rw c.lesser.ensures (no_lesser c.args.self.now c.args.other.now c.args.scratch.now c.first_in_spans-here.result c.first_in_spans-there.result
    (rw c.spans.ensures.spans at c.first_in_spans-here.ensures.none) (rw c.spans-2.ensures.spans at c.first_in_spans-there.ensures.none))

pub returns-clause-some : goal.returns-clause-some
returns-clause-some c =
    rw c.lesser.ensures (first_lesser c.args.self.now c.args.other.now c.args.scratch.now c.first_in_spans-here.result c.first_in_spans-there.result
    (rw c.spans.ensures.spans at c.first_in_spans-here.ensures.none) (rw c.spans.ensures.spans at c.first_in_spans-here.ensures.some)
    (rw c.spans-2.ensures.spans at c.first_in_spans-there.ensures.none) (rw c.spans-2.ensures.spans at c.first_in_spans-there.ensures.some))
