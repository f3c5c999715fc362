use Rattle.std.proofs.Common.{◌≡◌, length}
use Rattle.std.specs.List.{find}
use Rattle.insn_table.specs.Classes.{takes}
use Rattle.insn_table.proofs.fitting.first_form.Given as goal

-- the first of those that are left is the first of all
abbrev pub invariant-loop-rest : goal.invariant-loop-rest
invariant-loop-rest l = find (takes l.args) l.rest ≡ find (takes l.args) l.forms

abbrev pub decreases-loop-rest : goal.decreases-loop-rest
decreases-loop-rest l = length l.rest
