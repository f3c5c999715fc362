use Rattle.terms.proofs.Built.{row_has_value}
use Rattle.sym_rows.proofs.Values.{ok_has_value}
use Rattle.sym_rows.proofs.rows.row.Goals as goal

pub returns-clause-value : goal.returns-clause-value
returns-clause-value c =
    ok_has_value _ _ _ _ _ c.built_row-built.ensures.built
    (row_has_value _ _ c.args.op c.args.w c.args.k c.in_order.ensures.sheet c.requires.inside c.requires.row c.requires.widths)
