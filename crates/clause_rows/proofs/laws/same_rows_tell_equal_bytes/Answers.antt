use Rattle.clause_rows.proofs.SameBytes.{same_says}
use Rattle.clause_rows.proofs.laws.same_rows_tell_equal_bytes.Goals as goal

pub returns : goal.returns
returns c = same_says
