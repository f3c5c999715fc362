use Rattle.std.proofs.Common.{◌≡◌, ◌+◌, ◌≤◌, length, map, Err}
use Rattle.text_codes.specs.Readers.{further, names_at}
use Rattle.text_codes.proofs.words.named.Given as goal

-- the furthest so far and what the names that are left say is what all of them say
abbrev pub invariant-loop-left : goal.invariant-loop-left
invariant-loop-left l =
    (further (Err l.furthest) (names_at l.number (map (λ name. name.now) l.left) l.text) ≡ names_at 0 (map (λ name. name.now) l.fn.names) l.text)
    × (l.number + length l.left ≤ 255) × (length l.furthest ≤ length l.text)

abbrev pub decreases-loop-left : goal.decreases-loop-left
decreases-loop-left l = length l.left
