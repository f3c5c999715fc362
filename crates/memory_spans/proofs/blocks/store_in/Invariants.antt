use Rattle.std.proofs.Common.{◌≡◌, ℕ, ◌-◌, ◌&&◌, nat_le, nat_lt, length, slice_index, if◌then◌else◌}
use Rattle.memory_spans.proofs.blocks.store_in.Given as goal

abbrev pub invariant-loop-k : goal.invariant-loop-k
invariant-loop-k l =
    ((x : ℕ) → slice_index l.list.items x ≡ (if nat_le l.from x && nat_lt (x - l.from) l.k then slice_index l.bytes (x - l.from) else slice_index l.fn.list.items x))
    × (length l.list.items ≡ length l.fn.list.items)
