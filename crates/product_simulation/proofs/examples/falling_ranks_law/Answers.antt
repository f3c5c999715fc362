use Rattle.product_simulation.proofs.ExampleRuns.{endless_is_other, standing_falls, standing_leads}
use Rattle.product_simulation.proofs.examples.falling_ranks_law.Goals as goal

pub returns : goal.returns
returns c = record { falls_before = standing_falls; leads = standing_leads; other = endless_is_other }
