use Rattle.std.proofs.Common.{◌≡◌, Some, drop}
use Rattle.clause_gates.specs.NormalForms.{gathered, normal_form}
use Rattle.clause_gates.proofs.list.gather.Given as goal

abbrev pub invariant-loop-lit : goal.invariant-loop-lit
invariant-loop-lit l = gathered (Some l.kept.items) (drop l.lit-index l.lits) ≡ normal_form l.lits
