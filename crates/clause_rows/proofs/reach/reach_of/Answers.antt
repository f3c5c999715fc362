use Rattle.std.proofs.Common.{sym, ◌∙◌, ap, subst, ◌<◌, ◌++◌, length}
use Rattle.std.specs.List.{AllByRecursion, flat_map}
use Rattle.clause_rows.specs.Reach.{named_nodes, pair_nodes}
use Rattle.clause_rows.proofs.Inside.{roots_inside}
use Rattle.clause_rows.proofs.reach.reach_of.Goals as goal

pub needed-requires : goal.needed-requires
needed-requires c =
    subst (AllByRecursion (λ n. n.0 < length c.args.duty.now.sheet.now))
    (sym (c.as_slice.ensures.value ∙ c.in_ok-roots.ensures
    ∙ ap (λ pairs. named_nodes c.args.duty.now ++ flat_map pair_nodes pairs) c.requires.pairs))
    (roots_inside c.args.duty.now c.requires.whole)
