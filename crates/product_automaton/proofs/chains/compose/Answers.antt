use Rattle.std.proofs.Common.{◌<◌, ◌^◌, lit<, arith}
use Rattle.product_automaton.proofs.Joining.{composed_so_far-after, composed_so_far-below, next_bound-below}
use Rattle.product_automaton.proofs.chains.compose.Goals as goal

pub join-bound-requires : goal.join-bound-requires
join-bound-requires c =
    let below = next_bound-below _ c.loop-rest.rest.now c.loop-rest.bound c.in-len1-up.len_at_least c.loop-rest.invariant in
    let limit : 2 ^ 106 < 2 ^ 128 = lit< tt in
    omega arith

pub loop-rest-preserved : goal.loop-rest-preserved
loop-rest-preserved c =
    composed_so_far-after c.args.ks.now c.loop-rest.rest.now c.loop-rest.bound c.join-bound.result c.in-len1-up.len_at_least c.loop-rest.invariant c.join-bound.ensures

pub returns-clause-below : goal.returns-clause-below
returns-clause-below c = composed_so_far-below _ c.loop-rest.rest.now c.loop-rest.bound c.loop-rest.invariant
