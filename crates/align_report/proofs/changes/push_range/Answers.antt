use Rattle.std.proofs.Common.{◌≡◌, ℕ, ◌+◌, ◌-◌, ◌<◌, min, string_bytes, subst, arith, rules}
use Rattle.machine.specs.Kept.{pure_of}
use Rattle.align_report.proofs.Pieces.{appends_piece, appends_skip, piece_of}
use Rattle.align_report.proofs.changes.push_range.Goals as goal

pub loop-at-preserved-then-n-eq0 : goal.loop-at-preserved-then-n-eq0
loop-at-preserved-then-n-eq0 c =
    let none : c.changed_bytes-n.result ≡ 0 = c.if-n-eq0.true in
    let here : c.loop-at.at + c.changed_bytes-n.result ≡ c.loop-at.at = omega arith in (
      appends_skip (pure_of c.args.start.now).memory (pure_of c.args.end.now).memory c.args.range.first c.loop-at.at (string_bytes c.args.out.now) (string_bytes c.loop-at.out)
          c.loop-at.invariant.0
          (subst (λ (x : ℕ). (pure_of c.args.start.now).memory x ≡ (pure_of c.args.end.now).memory x) here (c.changed_bytes-n.ensures.whole (search rules))),
      omega arith,
      c.loop-at.invariant.2,
    )

pub loop-at-preserved : goal.loop-at-preserved
loop-at-preserved c =
    let count : c.from-at-else-n-eq0.result ≡ c.changed_bytes-n.result = search rules in
    let some : 0 < c.changed_bytes-n.result = omega arith in
    let most : c.min-most.result ≡ min (c.from-behind.result + 1 - c.loop-at.at) 32 = search rules in
    rw count (
      appends_piece (pure_of c.args.start.now).memory (pure_of c.args.end.now).memory c.args.range.first c.loop-at.at c.changed_bytes-n.result
          (string_bytes c.args.out.now) (string_bytes c.loop-at.out) (string_bytes c.push_piece.new.out) c.loop-at.invariant.0
          (piece_of (pure_of c.args.start.now).memory (pure_of c.args.end.now).memory c.loop-at.at c.changed_bytes-n.result c.min-most.result (c.from-behind.result + 1)
          some c.changed_bytes-n.ensures.few most (omega arith) (search rules) c.changed_bytes-n.ensures.changed c.changed_bytes-n.ensures.whole
          (rw c.loop-at.invariant.2 c.requires.ends))
          c.in_ok-push_piece.ensures,
      omega (arith, c.changed_bytes-n.ensures.few, most),
      c.loop-at.invariant.2,
    )
