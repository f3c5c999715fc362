use Rattle.insn_text.proofs.Showing.{IsShownUpTo}
use Rattle.insn_text.proofs.show.show_text.Given as goal

-- the lines so far
abbrev pub invariant-loop-place : goal.invariant-loop-place
invariant-loop-place l = IsShownUpTo l.f l.place l.text.items
