use Rattle.std.proofs.Common.{◌≡◌, ◌≤◌, take, drop}
use Rattle.att_statements.specs.ReadingOperands.{parts_from}
use Rattle.att_statements.proofs.PartTexts.{onto_parts}
use Rattle.att_statements.proofs.cuts.cut_part.Given as goal

abbrev pub invariant-loop-place : goal.invariant-loop-place
invariant-loop-place l = (parts_from 0 l.text ≡ onto_parts (take l.place l.text) (parts_from l.opened (drop l.place l.text))) × (l.opened ≤ l.place)
