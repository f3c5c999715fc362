use Rattle.std.proofs.Common.{◌≡◌, ℕ, ◌^◌, ◌<◌, take}
use Rattle.memory_spans.specs.Spans.{byte_of, places}
use Rattle.memory_spans.specs.Memory.{with_bytes}
use Rattle.memory_spans.proofs.blocks.store_bytes.Given as goal

-- the bytes so far are written
abbrev pub invariant-loop-k : goal.invariant-loop-k
invariant-loop-k l =
    ((x : ℕ) → x < 2 ^ 64 → byte_of l.spans.items x ≡ with_bytes (byte_of l.fn.spans.items) l.at (take l.k l.bytes) x)
    × (places l.spans.items ≡ places l.fn.spans.items)
