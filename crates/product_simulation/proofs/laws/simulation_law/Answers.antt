use Rattle.product_simulation.specs.Functions.{function_step}
use Rattle.product_simulation.specs.Related.{AreRelated, IsStartWhere, SameEndAt}
use Rattle.product_simulation.proofs.Simulating.{equivalent_within, paced_within}
use Rattle.product_simulation.proofs.laws.simulation_law.Goals as goal

pub returns : goal.returns
returns c = record {
  equivalent = λ scratch holds leads.
      equivalent_within (λ s. s.place) (function_step c.args.left.now) (function_step c.args.right.now) c.args.product.now (AreRelated c.args.product.now c.args.live.now scratch holds)
      c.requires leads (SameEndAt c.args.live.now scratch) (λ x y h. h.same) (IsStartWhere (λ s. holds 0 s s)) (λ s start. (start, λ i. s));
  paced = λ scratch holds leads s start.
      paced_within (λ s. s.place) (function_step c.args.left.now) (function_step c.args.right.now) c.args.product.now (AreRelated c.args.product.now c.args.live.now scratch holds)
      c.requires leads (SameEndAt c.args.live.now scratch) (λ x y h. h.same) s (start, λ i. s);
}
