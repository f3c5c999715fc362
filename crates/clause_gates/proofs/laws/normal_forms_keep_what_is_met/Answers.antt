use Rattle.clause_gates.proofs.Forms.{normal_met}
use Rattle.clause_gates.proofs.laws.normal_forms_keep_what_is_met.Goals as goal

pub returns : goal.returns
returns c = normal_met
