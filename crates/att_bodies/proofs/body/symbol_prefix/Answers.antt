use Rattle.std.proofs.Common.{◌∙◌, sym}
use Rattle.text_lines.proofs.Prefixes.{cut-passes, cut-fails, cut-ends}
use Rattle.att_bodies.specs.Body.{is_symbol_byte}
use Rattle.att_bodies.proofs.body.symbol_prefix.Goals as goal

pub returns-then-not-is_symbol_byte : goal.returns-then-not-is_symbol_byte
returns-then-not-is_symbol_byte c =
    sym (cut-fails is_symbol_byte c.args.text.now c.loop-end.end c.loop-end.invariant c.loop-end-test.true (sym c.is_symbol_byte.ensures ∙ c.if-not-is_symbol_byte.true)).0

pub loop-end-preserved : goal.loop-end-preserved
loop-end-preserved c =
    cut-passes is_symbol_byte c.args.text.now c.loop-end.end c.loop-end.invariant c.loop-end-test.true (sym c.is_symbol_byte.ensures ∙ c.if-not-is_symbol_byte.false)

pub returns : goal.returns
returns c = sym (cut-ends is_symbol_byte c.args.text.now c.loop-end.end c.loop-end.invariant c.loop-end-test.false).0
