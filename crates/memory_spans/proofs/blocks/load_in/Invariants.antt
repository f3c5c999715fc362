use Rattle.std.proofs.Common.{◌≡◌, length, slice_index}
use Rattle.memory_spans.specs.Memory.{vector_from}
use Rattle.memory_spans.proofs.blocks.load_in.Given as goal

-- the bytes so far, and zeros behind them
abbrev pub invariant-loop-k : goal.invariant-loop-k
invariant-loop-k l = (l.vector.bytes ≡ vector_from (slice_index l.bytes) l.from l.k) × (length l.vector.bytes ≡ 32)
