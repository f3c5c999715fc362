use Rattle.std.proofs.Common.{◌<◌, length, sym, arith, rules}
use Rattle.test_states.proofs.Joining.{joining_covers, joining_goes_on, joining_grows, joining_is_apart, joining_starts}
use Rattle.test_states.proofs.ranges.joined.Goals as goal
use Rattle.test_states.proofs.ranges.joined.Goals.{then-gap-le1, else-gap-le1+in_ok-push}

pub loop-range-init : goal.loop-range-init
loop-range-init c = rw c.new-joined.ensures.items
    (joining_starts c.args.ranges.now c.in-Some.first.now (sym c.in-Some.ensures.value) c.requires.ranges c.requires.sorted)

pub loop-range-preserved : goal.loop-range-preserved
loop-range-preserved c = let below : c.loop-range.range-index < length c.args.ranges.now = omega arith in elim c.if-gap-le1.branch [
  | then-gap-le1 w ↦ rw w.joined-is
      (joining_grows c.args.ranges.now c.loop-range.range-index c.loop-range.joined.items c.loop-range.current _ (record { first = 0; last = 0 })
      c.loop-range.invariant below c.requires.ranges (search rules) (search rules) (search rules))
  | else-gap-le1+in_ok-push w ↦ rw (w.joined-is, w.current-is, w.in_ok-push.ensures.items)
      (joining_goes_on c.args.ranges.now c.loop-range.range-index c.loop-range.joined.items c.loop-range.current (record { first = 0; last = 0 })
      c.loop-range.invariant below c.requires.ranges c.requires.sorted (search rules))
]

pub returns-clause-apart : goal.returns-clause-apart
returns-clause-apart c = rw c.in_ok-push-2.ensures.items
    (joining_is_apart c.args.ranges.now c.in-Some.first.now c.loop-range.range-index c.loop-range.joined.items c.loop-range.current
    (sym c.in-Some.ensures.value) c.loop-range.invariant c.is_address.ensures)

pub returns-clause-covered : goal.returns-clause-covered
returns-clause-covered c = λ x. rw c.in_ok-push-2.ensures.items
    (joining_covers c.args.ranges.now c.in-Some.first.now c.loop-range.range-index c.loop-range.joined.items c.loop-range.current x
    (sym c.in-Some.ensures.value) (omega arith) c.loop-range.invariant)
