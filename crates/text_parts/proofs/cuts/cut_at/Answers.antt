use Rattle.std.proofs.Common.{sym}
use Rattle.text_parts.proofs.Searching.{cut_at-none, cut_at-first}
use Rattle.text_parts.proofs.cuts.cut_at.Goals as goal

pub returns-in-Some : goal.returns-in-Some
returns-in-Some c = sym (cut_at-first c.args.byte c.args.text.now c.in-Some.place c.in-Some.ensures.0.high c.in-Some.ensures.0.before c.in-Some.ensures.1)

pub returns-in-None : goal.returns-in-None
returns-in-None c = sym (cut_at-none c.args.byte c.args.text.now c.in-None.ensures)
