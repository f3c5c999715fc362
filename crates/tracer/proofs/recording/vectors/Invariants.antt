use Rattle.std.proofs.Common.{◌≡◌, ℕ, ◌<◌, length, map, slice_get}
use Rattle.lane_views.specs.declared.Bytes32.{Bytes32}
use Rattle.tracer.proofs.recording.vectors.Given as goal

-- the vectors so far
abbrev pub invariant-loop-n : goal.invariant-loop-n
invariant-loop-n l =
    (length l.vecs ≡ 16) × ((k : ℕ) → k < l.n → slice_get (map (λ (v : Bytes32). v.bytes) l.vecs) k ≡ slice_get l.state.vecs k)
