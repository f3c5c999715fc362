use Rattle.std.proofs.Common.{◌≡◌, ◌^◌, ◌<◌, slice_index}
use Rattle.memory_spans.specs.Memory.{word_at}
use Rattle.memory_spans.proofs.words.word_in.Given as goal

abbrev pub invariant-loop-k : goal.invariant-loop-k
invariant-loop-k l = (l.word ≡ word_at (slice_index l.bytes) l.from l.k) × (l.word < 256 ^ l.k)
