use Rattle.std.proofs.Common.{◌≡◌, drop}
use Rattle.node_values.specs.Environments.{first_byte}
use Rattle.node_values.proofs.env.byte_at.Given as goal

abbrev pub invariant-loop-at : goal.invariant-loop-at
invariant-loop-at l = first_byte (drop l.at-index l.listed) l.address ≡ first_byte l.listed l.address
