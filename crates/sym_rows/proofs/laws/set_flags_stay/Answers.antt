use Rattle.sym_rows.proofs.Staying.{set_flags_stay}
use Rattle.sym_rows.proofs.laws.set_flags_stay.Goals as goal

pub returns : goal.returns
returns c = set_flags_stay
