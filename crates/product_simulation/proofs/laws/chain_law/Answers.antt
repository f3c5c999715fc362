use Rattle.product_simulation.specs.Functions.{function_step}
use Rattle.product_simulation.specs.Related.{IsStartWhere, SameEndAt}
use Rattle.product_simulation.proofs.Composing.{chain_equivalent, equivalent_joined}
use Rattle.product_simulation.proofs.Ends.{ends_join}
use Rattle.product_simulation.proofs.laws.chain_law.Goals as goal

pub returns : goal.returns
returns c = record {
  two = λ scratch test k l f g h.
      equivalent_joined (IsStartWhere test) (SameEndAt c.args.live.now scratch) function_step (ends_join c.args.live.now scratch) k l f g h;
  chain = λ scratch test f links.
      chain_equivalent (IsStartWhere test) (SameEndAt c.args.live.now scratch) function_step (ends_join c.args.live.now scratch) links f;
}
