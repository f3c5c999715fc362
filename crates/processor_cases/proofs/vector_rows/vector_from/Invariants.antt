use Rattle.std.proofs.Common.{◌≡◌, ◌+◌, ◌-◌, ◌*◌, ◌++◌, get_or, length}
use Rattle.std.specs.Prelude.{replicate}
use Rattle.lane_semantics.specs.Vectors.{lanes_in_turn}
use Rattle.processor_cases.proofs.vector_rows.vector_from.Given as goal

abbrev pub invariant-loop-k : goal.invariant-loop-k
invariant-loop-k l =
    (l.vector.bytes ≡ lanes_in_turn 64 (λ k. get_or l.n (l.at + k) 0) l.k ++ replicate (32 - l.k * 8) 0) × (length l.vector.bytes ≡ 32)
