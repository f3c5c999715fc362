use Rattle.std.proofs.Common.{sym, subst}
use Rattle.lane_semantics.specs.MoveRows as rows
use Rattle.lane_semantics.specs.Sources as sources
use Rattle.lane_ops.proofs.Inside.{lanes_below, move_width, source_good}
use Rattle.lane_ops.proofs.moves.moving.Goals as goal

pub source_value-x-requires : goal.source_value-x-requires
source_value-x-requires c =
    subst sources.IsInside (sym c.move_source.ensures)
    (source_good c.args.op c.args.imm c.args.i c.requires.row.0 (lanes_below (rows.move_op_bits c.args.op) c.args.w c.args.i (move_width c.args.op c.requires.row.0) c.requires.vectors c.requires.place)).inside
