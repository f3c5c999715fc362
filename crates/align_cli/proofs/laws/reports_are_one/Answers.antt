use Rattle.std.proofs.Common.{Some, refl}
use Rattle.align_cli.proofs.OneReport.{says-once}
use Rattle.align_cli.proofs.laws.reports_are_one.Goals as goal

pub returns : goal.returns
returns c = λ command status held x y. says-once (Some held) held refl x y command status
