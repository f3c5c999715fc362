use Rattle.sym_rows.proofs.Widths.{kept_length, kept_width}
use Rattle.sym_rows.proofs.building.node.Goals as goal

pub returns-clause-longer : goal.returns-clause-longer
returns-clause-longer c = kept_length _ _ c.build.ensures.extends

pub returns-clause-kept : goal.returns-clause-kept
returns-clause-kept c = kept_width _ _ c.in_order.ensures.sheet c.build.ensures.extends
