use Rattle.std.proofs.Common.{◌≡◌, ℕ, ◌^◌, ◌<◌}
use Rattle.memory_spans.specs.Spans.{byte_of, places}
use Rattle.memory_spans.specs.Memory.{with_word}
use Rattle.memory_spans.proofs.words.put_bytes.Given as goal

abbrev pub invariant-loop-k : goal.invariant-loop-k
invariant-loop-k l =
    ((x : ℕ) → x < 2 ^ 64 → byte_of l.spans.items x ≡ with_word (byte_of l.fn.spans.items) l.at l.k l.word x)
    × (places l.spans.items ≡ places l.fn.spans.items)
