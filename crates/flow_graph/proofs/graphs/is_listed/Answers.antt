use Rattle.std.proofs.Common.{eqb}
use Rattle.std.proofs.lemmas.Bool.Decides.{Decides-eqb}
use Rattle.std.proofs.lemmas.List.Elements.{Decides-contains, contains_decides}
use Rattle.flow_graph.proofs.graphs.is_listed.Goals as goal

pub returns : goal.returns
returns c =
    let places = c.args.places.now in
    let decides = Decides-contains places c.args.place _ (contains_decides eqb Decides-eqb places c.args.place _ c.contains.ensures.cases) in
    (decides.0, decides.1)
