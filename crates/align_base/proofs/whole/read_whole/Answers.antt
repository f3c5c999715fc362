use Rattle.std.proofs.Common.{◌≡◌, ◌<◌, rules, length, take, ap, subst, sym}
use Rattle.std.proofs.KnownBytes.{Consumes-nil, Consumes-trans}
use Rattle.std.specs.Io.KnownBytes.{Consumes}
use Rattle.align_base.proofs.Streams.{all_read, both_taken, more_had}
use Rattle.align_base.proofs.whole.read_whole.Goals as goal

pub loop-chunk-init : goal.loop-chunk-init
loop-chunk-init g c = (search rules, subst (Consumes _ _) (sym c.new-bytes.ensures.items) (Consumes-nil _))

pub returns-in-Ok-eq0-clause-bytes : goal.returns-in-Ok-eq0-clause-bytes
returns-in-Ok-eq0-clause-bytes g c =
    let read = c.in-Ok-eq0.ensures.bytes in
    let room : 0 < length c.read.new.buf = search rules in
    all_read _ _ _ _ _ c.loop-chunk.invariant.1 read.0 (ap (λ n. take n c.read.new.buf) c.in-Ok-eq0.field-0-test) (read.1 c.in-Ok-eq0.field-0-test room)

pub loop-chunk-preserved : goal.loop-chunk-preserved
loop-chunk-preserved g c = (search rules, subst (Consumes _ _) (search rules) (Consumes-trans _ _ _ _ _ c.loop-chunk.invariant.1 c.in-Ok.ensures.bytes.0))

pub returns-clause-bytes : goal.returns-clause-bytes
returns-clause-bytes g c = more_had _ _ _ _ c.loop-chunk.invariant.1 (search rules)

pub returns-then-is_err-clause-seen : goal.returns-then-is_err-clause-seen
returns-then-is_err-clause-seen g c =
    let kept : c.len-then-is_err.result ≡ length c.loop-chunk.bytes.items = search rules in
    (_, Consumes-trans _ _ _ _ _ c.loop-chunk.invariant.1 c.in-Ok.ensures.bytes.0, both_taken _ c.read.new.buf _ c.in-Ok.count kept (search rules))
