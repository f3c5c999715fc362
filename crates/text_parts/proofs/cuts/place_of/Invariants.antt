use Rattle.std.proofs.Common.{◌-◌, ◌≤◌, length}
use Rattle.memchr.specs.Find.{Nowhere, Passes, is_byte}
use Rattle.text_parts.proofs.cuts.place_of.Given as goal

-- the byte is none of those that were looked at
abbrev pub invariant-loop-near : goal.invariant-loop-near
invariant-loop-near l = (l.near ≤ length l.text) × Nowhere (Passes (is_byte l.byte) l.text) 0 l.near

abbrev pub decreases-loop-near : goal.decreases-loop-near
decreases-loop-near l = length l.text - l.near
