use Rattle.lane_semantics.proofs.FormedLaws.{vectors_formed}
use Rattle.lane_semantics.proofs.SourceBits.{sources_bits}
use Rattle.lane_semantics.proofs.formed_laws.lanes_are_formed.Goals as goal

pub returns-clause-lanes : goal.returns-clause-lanes
returns-clause-lanes c = vectors_formed

pub returns-clause-leaves : goal.returns-clause-leaves
returns-clause-leaves c = sources_bits
