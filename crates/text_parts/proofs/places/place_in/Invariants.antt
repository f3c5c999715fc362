use Rattle.std.proofs.Common.{◌≡◌, ◌+◌, length, map}
use Rattle.text_parts.specs.Places.{place_from}
use Rattle.text_parts.proofs.places.place_in.Given as goal

-- what is left answers as all do
abbrev pub invariant-loop-rest : goal.invariant-loop-rest
invariant-loop-rest l =
    (place_from l.place (map (λ n. n.now) l.rest) l.name ≡ place_from 0 (map (λ n. n.now) l.names) l.name)
    × (l.place + length l.rest ≡ length l.names)

abbrev pub decreases-loop-rest : goal.decreases-loop-rest
decreases-loop-rest l = length l.rest
