use Rattle.std.proofs.Common.{◌∙◌, sym, ap, map, length, Ok}
use Rattle.std.proofs.lemmas.Result.{err_from_is_err_and}
use Rattle.text_lines.specs.Views.{seen}
use Rattle.att_bodies.specs.Labelled.{labelled}
use Rattle.att_reader.proofs.LoopSteps.{body-begins, turn-goes, turn-fails, turn-last}
use Rattle.att_reader.proofs.body.read_body.Goals as goal

pub loop-place-init : goal.loop-place-init
loop-place-init c = (body-begins (map seen c.args.body.now) c.new-insns.result.items c.new-insns.ensures.items, ap length c.new-insns.ensures.items)

pub returns-in_err-read_next : goal.returns-in_err-read_next
returns-in_err-read_next c =
    let h = c.loop-place in
    let p = err_from_is_err_and c.from_residual-in_err-read_next.result c.from_residual-in_err-read_next.ensures.1 in
    rw (p.1, p.2) (turn-fails c.args.body.now h.place _ (labelled c.in_ok-labels.labels) h.insns.items c.in_err-read_next.field-0.0 c.in_ok-labels.ensures.of
    c.loop-place-test.true c.in_err-read_next.ensures.stops h.invariant.0)

pub loop-place-preserved : goal.loop-place-preserved
loop-place-preserved c =
    let h = c.loop-place in
    turn-goes c.args.body.now h.place _ (labelled c.in_ok-labels.labels) h.insns.items c.read_next.new.insns.items c.in_ok-labels.ensures.of c.loop-place-test.true
    c.in_ok-read_next.ensures.grows h.invariant

pub returns : goal.returns
returns c =
    let h = c.loop-place in
    turn-last c.args.body.now h.place h.insns.items c.loop-place-test.false h.invariant.0 ∙ ap Ok (sym c.from_vec.ensures)
