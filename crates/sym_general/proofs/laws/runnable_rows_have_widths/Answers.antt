use Rattle.sym_general.proofs.RowWidths.{runnable_rows}
use Rattle.sym_general.proofs.laws.runnable_rows_have_widths.Goals as goal

pub returns : goal.returns
returns c = runnable_rows
