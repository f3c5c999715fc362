use Rattle.std.proofs.Common.{◌∙◌, sym}
use Rattle.text_lines.specs.Words.{is_solid}
use Rattle.text_lines.proofs.Prefixes.{cut-ends, word-passes, word-fails, all-behind}
use Rattle.text_lines.proofs.words.split_word.Goals as goal

pub returns-then-is_blank-clause-word : goal.returns-then-is_blank-clause-word
returns-then-is_blank-clause-word c =
    sym (word-fails c.args.text.now c.loop-end.end c.loop-end.invariant c.loop-end-test.true (sym c.is_blank.ensures ∙ c.if-is_blank.true)).0

pub returns-then-is_blank-clause-rest : goal.returns-then-is_blank-clause-rest
returns-then-is_blank-clause-rest c =
    all-behind c.args.text.now c.loop-end.end
    ∙ sym (word-fails c.args.text.now c.loop-end.end c.loop-end.invariant c.loop-end-test.true (sym c.is_blank.ensures ∙ c.if-is_blank.true)).1

pub loop-end-preserved : goal.loop-end-preserved
loop-end-preserved c =
    word-passes c.args.text.now c.loop-end.end c.loop-end.invariant c.loop-end-test.true (sym c.is_blank.ensures ∙ c.if-is_blank.false)

pub returns-clause-word : goal.returns-clause-word
returns-clause-word c = sym (cut-ends is_solid c.args.text.now c.loop-end.end c.loop-end.invariant c.loop-end-test.false).0

pub returns-clause-rest : goal.returns-clause-rest
returns-clause-rest c =
    all-behind c.args.text.now c.loop-end.end ∙ sym (cut-ends is_solid c.args.text.now c.loop-end.end c.loop-end.invariant c.loop-end-test.false).1
