use Rattle.terms.proofs.WidthFacts.{list_ranged}
use Rattle.terms.proofs.rules.and.Goals as goal

pub ones-requires : goal.ones-requires
ones-requires c = list_ranged c.args.nodes.now c.args.widths.now c.requires.list c.args.b.0 c.requires.second

pub ones-requires-else-is_number : goal.ones-requires-else-is_number
ones-requires-else-is_number c = list_ranged c.args.nodes.now c.args.widths.now c.requires.list c.args.a.0 c.requires.first
