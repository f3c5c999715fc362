use Rattle.std.proofs.Common.{take}
use Rattle.std.proofs.lemmas.Result.{err_from_is_err_and}
use Rattle.text_lines.specs.Views.{seen}
use Rattle.att_bodies.specs.Labelled.{labelled}
use Rattle.att_reader.proofs.LoopSteps.{next-stops}
use Rattle.att_reader.proofs.body.read_next.Goals as goal

pub returns-in_err-insn-clause-stops : goal.returns-in_err-insn-clause-stops
returns-in_err-insn-clause-stops c =
    let p = err_from_is_err_and c.from_residual.result c.from_residual.ensures.1 in
    let body = labelled c.args.labels.now in
    rw (p.1, p.2) (next-stops body (take c.args.place body) (seen c.args.item.now) c.in_err-insn.field-0.0 c.in_err-insn.ensures)
