use Rattle.std.proofs.Common.{◌≡◌, drop}
use Rattle.std.specs.List.{list_all}
use Rattle.admission.specs.Tests.{is_met}
use Rattle.admission.proofs.meaning.are_met.Given as goal

abbrev pub invariant-loop-need : goal.invariant-loop-need
invariant-loop-need l = list_all (is_met l.regs) (drop l.need-index l.needs) ≡ list_all (is_met l.regs) l.needs
