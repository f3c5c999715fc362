use Rattle.std.proofs.Common.{◌≡◌, ◌==◌, map, length}
use Rattle.std.specs.List.{list_any}
use Rattle.text_lines.specs.Views.{seen}
use Rattle.att_bodies.specs.Functions.{line_of}
use Rattle.att_bodies.proofs.body.stands_on.Given as goal

abbrev pub invariant-loop-rest : goal.invariant-loop-rest
invariant-loop-rest l = list_any (λ i. line_of i == l.line) (map seen l.rest) ≡ list_any (λ i. line_of i == l.line) (map seen l.items)

abbrev pub decreases-loop-rest : goal.decreases-loop-rest
decreases-loop-rest l = length l.rest
