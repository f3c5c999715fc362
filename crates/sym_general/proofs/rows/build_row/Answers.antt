use Rattle.std.proofs.Common.{Err, ◌<◌, length, ap}
use Rattle.address_nodes.proofs.Refusals.{handed_on}
use Rattle.sym_general.specs.Applied.{row_made}
use Rattle.sym_general.proofs.RowNodes.{result_too_long}
use Rattle.sym_general.proofs.rows.build_row.Goals as goal

pub returns-in_err-result-clause-full : goal.returns-in_err-result-clause-full
returns-in_err-result-clause-full c =
    handed_on (65536 < length (row_made c.args.op c.args.w c.args.k c.args.over c.args.sheet.now).nodes)
    c.from_residual.result c.in_err-result.field-0.0 c.from_residual.ensures.1
    (λ full. result_too_long c.args.sheet.now c.args.op c.args.w c.args.k c.args.over (c.in_err-result.ensures.full (ap Err full)))
