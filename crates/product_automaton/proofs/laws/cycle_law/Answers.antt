use Rattle.product_automaton.proofs.Cycling.{cycles_advance}
use Rattle.product_automaton.proofs.laws.cycle_law.Goals as goal

pub returns : goal.returns
returns c = cycles_advance c.args.product.now c.requires
