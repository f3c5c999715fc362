use Rattle.std.proofs.Common.{◌≡◌, map, length}
use Rattle.text_lines.specs.Views.{seen}
use Rattle.att_bodies.specs.Reading.{extent_of}
use Rattle.att_bodies.proofs.body.extent.Given as goal

abbrev pub invariant-loop-rest : goal.invariant-loop-rest
invariant-loop-rest l = extent_of l.name (map seen l.rest) ≡ extent_of l.name (map seen l.items)

abbrev pub decreases-loop-rest : goal.decreases-loop-rest
decreases-loop-rest l = length l.rest
