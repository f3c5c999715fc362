use Rattle.std.proofs.Common.{◌≡◌, ◌++◌, take}
use Rattle.std.specs.List.{flat_map}
use Rattle.clause_rows.specs.Reach.{named_nodes, pair_nodes}
use Rattle.clause_rows.proofs.reach.reach_roots.Given as goal

abbrev pub invariant-loop-pair : goal.invariant-loop-pair
invariant-loop-pair l = l.roots.items ≡ named_nodes l.duty ++ flat_map pair_nodes (take l.pair-index l.pairs)
