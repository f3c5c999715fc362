use Rattle.std.proofs.Common.{length, arith}
use Rattle.std.proofs.lemmas.List.FromFn.{fill_by_all}
use Rattle.lane_views.specs.Lanes.{byte_of, bytes_of}
use Rattle.lane_views.proofs.numbers.put_number.Goals as goal

pub returns : goal.returns
unfolding bytes_of
returns c =
    fill_by_all (byte_of c.args.value) c.loop-place.bytes (length c.args.bytes.now) 0 (omega arith) (λ k h. c.loop-place.invariant k (omega arith))
