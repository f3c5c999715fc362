use Rattle.std.proofs.Common.{◌≡◌, ◌&&◌, take}
use Rattle.std.specs.List.{filter}
use Rattle.node_reach.specs.Reached.{is_marked}
use Rattle.clause_rows.proofs.reach.marked_pairs.Given as goal

abbrev pub invariant-loop-pair : goal.invariant-loop-pair
invariant-loop-pair l =
    l.kept.items ≡ filter (λ p. is_marked l.marks p.m.0 && is_marked l.marks p.n.0) (take l.pair-index l.pairs)
