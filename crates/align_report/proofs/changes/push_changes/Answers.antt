use Rattle.std.proofs.Common.{◌+◌, List, drop, get_or, string_bytes, subst, arith}
use Rattle.std.proofs.lemmas.List.{drop_all}
use Rattle.machine.specs.Kept.{pure_of}
use Rattle.test_states.specs.declared.range.Range.{Range}
use Rattle.align_report.proofs.Pieces.{Writes, next_range, range_ends_run, writes_all, writes_range}
use Rattle.align_report.proofs.changes.push_changes.Goals as goal

pub push_range-requires-clause-ends : goal.push_range-requires-clause-ends
push_range-requires-clause-ends c =
    range_ends_run (pure_of c.args.start.now).memory (pure_of c.args.end.now).memory (string_bytes c.args.out.now) (string_bytes c.loop-range.out)
    (get_or c.args.ranges.now c.loop-range.range-index (record { first = 0; last = 0 })) (drop (c.loop-range.range-index + 1) c.args.ranges.now)
    (subst (λ (rs : List Range). Writes (pure_of c.args.start.now).memory (pure_of c.args.end.now).memory (string_bytes c.args.out.now) (string_bytes c.loop-range.out) rs)
    (next_range c.args.ranges.now c.loop-range.range-index (record { first = 0; last = 0 }) (omega arith)) c.loop-range.invariant)

pub loop-range-preserved : goal.loop-range-preserved
loop-range-preserved c =
    writes_range (pure_of c.args.start.now).memory (pure_of c.args.end.now).memory (string_bytes c.args.out.now) (string_bytes c.loop-range.out) (string_bytes c.push_range.new.out)
    (get_or c.args.ranges.now c.loop-range.range-index (record { first = 0; last = 0 })) (drop (c.loop-range.range-index + 1) c.args.ranges.now)
    (subst (λ (rs : List Range). Writes (pure_of c.args.start.now).memory (pure_of c.args.end.now).memory (string_bytes c.args.out.now) (string_bytes c.loop-range.out) rs)
    (next_range c.args.ranges.now c.loop-range.range-index (record { first = 0; last = 0 }) (omega arith)) c.loop-range.invariant)
    c.in_ok-push_range.ensures

pub returns : goal.returns
returns c =
    writes_all (pure_of c.args.start.now).memory (pure_of c.args.end.now).memory (string_bytes c.args.out.now) (string_bytes c.loop-range.out)
    (subst (λ (rs : List Range). Writes (pure_of c.args.start.now).memory (pure_of c.args.end.now).memory (string_bytes c.args.out.now) (string_bytes c.loop-range.out) rs)
    (drop_all c.loop-range.range-index c.args.ranges.now (omega arith)) c.loop-range.invariant)
