use Rattle.machine.proofs.StartRanges.{is_start}
use Rattle.machine.proofs.state.State.new.Goals as goal

pub returns-clause-start : goal.returns-clause-start
returns-clause-start c =
    is_start c.args.regs c.args.vecs c.args.spans.items c.deref.result.now c.args.regions.items c.args.stack c.are_regs.ensures c.are_vecs.ensures c.deref.ensures.value
    c.spans_hold_bytes.ensures
