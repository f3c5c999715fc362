use Rattle.std.proofs.Common.{◌≡◌, ℕ, ◌-◌, ◌/◌, ◌%◌, ◌^◌, ◌&&◌, nat_le, nat_lt, length, slice_index, if◌then◌else◌}
use Rattle.memory_spans.proofs.words.put_in.Given as goal

abbrev pub invariant-loop-k : goal.invariant-loop-k
invariant-loop-k l =
    ((x : ℕ) → slice_index l.bytes.items x ≡ (if nat_le l.from x && nat_lt (x - l.from) l.k then l.word / 256 ^ (x - l.from) % 256 else slice_index l.fn.bytes.items x))
    × (length l.bytes.items ≡ length l.fn.bytes.items)
