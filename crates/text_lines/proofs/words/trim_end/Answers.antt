use Rattle.std.proofs.Common.{◌∙◌, sym, arith}
use Rattle.text_lines.proofs.Prefixes.{trim_end-before, trim_end-stays, trim_end-none}
use Rattle.text_lines.proofs.words.trim_end.Goals as goal
use Rattle.text_lines.proofs.words.trim_end.Goals.{then-loop-end-test+else-is_blank, else-loop-end-test}

pub loop-end-preserved : goal.loop-end-preserved
loop-end-preserved c = (
  omega arith,
  trim_end-before c.args.text.now c.loop-end.end c.loop-end-test.true c.loop-end.invariant.0 (sym c.is_blank.ensures ∙ c.if-is_blank.true) c.loop-end.invariant.1,
)

pub returns : goal.returns
returns c =
    elim c.loop-end-test.branch [
      | then-loop-end-test+else-is_blank w ↦
          sym (trim_end-stays c.args.text.now c.loop-end.end w.loop-end-test.true c.loop-end.invariant.0 (sym w.is_blank.ensures ∙ w.if-is_blank.false)) ∙ c.loop-end.invariant.1
      | else-loop-end-test w ↦ sym (trim_end-none c.args.text.now c.loop-end.end w.loop-end-test.false) ∙ c.loop-end.invariant.1
    ]
