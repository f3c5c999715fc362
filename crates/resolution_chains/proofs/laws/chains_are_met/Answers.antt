use Rattle.resolution_chains.proofs.Chaining.{chain_met}
use Rattle.resolution_chains.proofs.laws.chains_are_met.Goals as goal

pub returns : goal.returns
returns c = chain_met
