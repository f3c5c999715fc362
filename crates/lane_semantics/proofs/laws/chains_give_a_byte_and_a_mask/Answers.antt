use Rattle.lane_semantics.proofs.Chains.{shuffled_is}
use Rattle.lane_semantics.proofs.RowLaws.{mask_128, mask_256}
use Rattle.lane_semantics.proofs.laws.chains_give_a_byte_and_a_mask.Goals as goal

pub returns-clause-byte : goal.returns-clause-byte
returns-clause-byte c = λ L w k. shuffled_is L

pub returns-clause-mask : goal.returns-clause-mask
returns-clause-mask c = λ L k. mask_256 L

pub returns-clause-half_mask : goal.returns-clause-half_mask
returns-clause-half_mask c = λ L k. mask_128 L
