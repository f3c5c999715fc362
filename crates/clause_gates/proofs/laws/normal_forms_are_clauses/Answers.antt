use Rattle.clause_gates.proofs.Forms.{normal_is_form}
use Rattle.clause_gates.proofs.laws.normal_forms_are_clauses.Goals as goal

pub returns : goal.returns
returns c = normal_is_form
