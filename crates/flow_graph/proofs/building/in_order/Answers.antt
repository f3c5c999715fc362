use Rattle.std.proofs.Common.{eqb}
use Rattle.std.proofs.lemmas.List.Filters.{dedup_is}
use Rattle.flow_graph.proofs.Marking.{ordered-by_sort}
use Rattle.flow_graph.proofs.building.in_order.Goals as goal

pub returns : goal.returns
returns c =
    ordered-by_sort c.args.places.items c.sort.new.self.items c.dedup.new.self.items c.in_ok-sort.ensures.permutation c.in_ok-sort.ensures.sorted
    (dedup_is eqb c.sort.new.self.items c.dedup.new.self.items c.dedup.ensures.filtered)
