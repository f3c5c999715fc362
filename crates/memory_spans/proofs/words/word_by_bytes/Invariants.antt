use Rattle.std.proofs.Common.{◌≡◌, ◌^◌, ◌<◌}
use Rattle.memory_spans.specs.Spans.{memory_of}
use Rattle.memory_spans.specs.Memory.{word_at}
use Rattle.memory_spans.proofs.words.word_by_bytes.Given as goal

abbrev pub invariant-loop-k : goal.invariant-loop-k
invariant-loop-k l = (l.word ≡ word_at (memory_of l.spans) l.at l.k) × (l.word < 256 ^ l.k)
