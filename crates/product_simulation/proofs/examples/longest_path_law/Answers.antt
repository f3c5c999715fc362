use Rattle.product_simulation.specs.Examples.{AnyEnd, IsAtEntry, LeapingRelated, leaping_product, quick_step, slower_step}
use Rattle.product_simulation.proofs.ExampleRuns.{leaping_falls, leaping_leads, nodes_are_no_bound}
use Rattle.product_simulation.proofs.Simulating.{equivalent_within}
use Rattle.product_simulation.proofs.examples.longest_path_law.Goals as goal

pub returns : goal.returns
returns c = record {
  falls = leaping_falls;
  leads = leaping_leads;
  bound = equivalent_within (λ s. s) quick_step slower_step leaping_product LeapingRelated leaping_falls leaping_leads AnyEnd (λ x y h. h) IsAtEntry
      (λ s start. record { left_place = start; right_place = start });
  nodes = nodes_are_no_bound;
}
