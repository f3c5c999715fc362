use Rattle.std.proofs.Common.{◌≡◌, length}
use Rattle.memory_spans.specs.Spans.{memory_of}
use Rattle.memory_spans.specs.Memory.{vector_from}
use Rattle.memory_spans.proofs.blocks.load_by_bytes.Given as goal

-- the bytes so far, and zeros behind them
abbrev pub invariant-loop-k : goal.invariant-loop-k
invariant-loop-k l = (l.vector.bytes ≡ vector_from (memory_of l.spans) l.at l.k) × (length l.vector.bytes ≡ 32)
