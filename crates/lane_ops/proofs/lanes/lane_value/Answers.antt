use Rattle.std.proofs.Common.{sym, ◌∙◌, ap}
use Rattle.lane_semantics.specs.Vectors as vectors
use Rattle.lane_ops.proofs.LaneSums.{mask_above, mask_at}
use Rattle.lane_ops.proofs.lanes.lane_value.Goals as goal

pub returns-then-i-eq0-clause-value : goal.returns-then-i-eq0-clause-value
returns-then-i-eq0-clause-value c =
    c.byte_mask.ensures.value ∙ sym (ap (λ op. vectors.lane_value op c.args.w c.args.imm c.args.first.now.bytes c.args.second.now.bytes c.args.i) c.in-Pmovmskb.is
    ∙ mask_at c.args.first.now.bytes c.args.second.now.bytes c.args.w c.args.imm c.args.i c.requires.row.0 c.if-i-eq0.true)

pub returns-else-i-eq0-clause-value : goal.returns-else-i-eq0-clause-value
returns-else-i-eq0-clause-value c =
    sym (ap (λ op. vectors.lane_value op c.args.w c.args.imm c.args.first.now.bytes c.args.second.now.bytes c.args.i) c.in-Pmovmskb.is
    ∙ mask_above c.args.first.now.bytes c.args.second.now.bytes c.args.w c.args.imm c.args.i c.requires.row.0 c.if-i-eq0.false)
