use Rattle.product_simulation.specs.Examples.{AnyEnd, IsAtEntry, WaitingRelated, quick_step, slow_step, waiting_product}
use Rattle.product_simulation.proofs.ExampleRuns.{longest_is_no_bound, waiting_falls, waiting_leads}
use Rattle.product_simulation.proofs.Simulating.{equivalent_within}
use Rattle.product_simulation.proofs.examples.nodes_count_law.Goals as goal

pub returns : goal.returns
returns c = record {
  falls = waiting_falls;
  leads = waiting_leads;
  bound = equivalent_within (λ s. s) quick_step slow_step waiting_product WaitingRelated waiting_falls waiting_leads AnyEnd (λ x y h. h) IsAtEntry
      (λ s start. record { left_place = start; right_place = start });
  longest = longest_is_no_bound;
}
