use Rattle.std.proofs.Common.{◌≡◌, map, length}
use Rattle.text_lines.specs.Views.{seen}
use Rattle.att_bodies.specs.Reading.{behind_body}
use Rattle.att_bodies.proofs.body.behind_body.Given as goal

abbrev pub invariant-loop-rest : goal.invariant-loop-rest
invariant-loop-rest l = behind_body l.name (map seen l.rest) ≡ behind_body l.name (map seen l.items)

abbrev pub decreases-loop-rest : goal.decreases-loop-rest
decreases-loop-rest l = length l.rest
