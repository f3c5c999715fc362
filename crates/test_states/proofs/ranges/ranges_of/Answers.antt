use Rattle.std.proofs.Common.{◌||◌, List, nat_lt, ◌∙◌, ap, arith, rules}
use Rattle.std.specs.List.{list_any}
use Rattle.std.proofs.lemmas.List.{take_all}
use Rattle.std.proofs.lemmas.List.Sorted.{All-permutation, IsNonDecreasingBy-from_sort_by_key}
use Rattle.memory_spans.specs.Memory.{offset_from}
use Rattle.memory_spans.specs.declared.region.Region.{Region}
use Rattle.test_states.specs.declared.range.Range.{Range}
use Rattle.test_states.specs.Ranges.{IsRange}
use Rattle.test_states.proofs.Joining.{joined_covers}
use Rattle.test_states.proofs.ranges.ranges_of.Goals as goal

pub joined-requires-clause-ranges : goal.joined-requires-clause-ranges
joined-requires-clause-ranges c = rw c.deref.ensures.value (All-permutation IsRange c.loop-region.ranges.items _ c.in_ok-sort_by_key.ensures.permutation c.loop-region.invariant.0)

pub joined-requires-clause-sorted : goal.joined-requires-clause-sorted
joined-requires-clause-sorted c = rw c.deref.ensures.value
    (IsNonDecreasingBy-from_sort_by_key (λ (r : Range). r.first) _ c.in_ok-sort_by_key.ensures.sorted (λ a r q k. search rules))

pub returns-clause-covered : goal.returns-clause-covered
returns-clause-covered c =
    joined_covers c.joined.result c.deref.result.now c.loop-region.ranges.items
    (λ x. nat_lt (offset_from c.args.base x) c.args.len || list_any (λ (r : Region). nat_lt (offset_from r.base x) r.len) c.args.regions.now)
    c.joined.ensures.covered (rw c.deref.ensures.value c.in_ok-sort_by_key.ensures.permutation)
    (λ x below. c.loop-region.invariant.1 x below
    ∙ ap (λ (rs : List Region). nat_lt (offset_from c.args.base x) c.args.len || list_any (λ (r : Region). nat_lt (offset_from r.base x) r.len) rs)
    (take_all c.loop-region.region-index c.args.regions.now (omega arith)))
