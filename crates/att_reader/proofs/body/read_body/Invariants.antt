use Rattle.std.proofs.Common.{◌≡◌, map, take, drop, length}
use Rattle.std.specs.List.{count_by}
use Rattle.text_lines.specs.Views.{seen}
use Rattle.att_bodies.specs.Body.{is_code}
use Rattle.att_reader.specs.Reading.{body_in, body_from}
use Rattle.att_reader.proofs.body.read_body.Given as goal

-- the instructions so far, and then what is left, are the body's; so many were read as stand before this place
abbrev pub invariant-loop-place : goal.invariant-loop-place
invariant-loop-place l =
    (body_from (map seen l.body) (take l.place (map seen l.body)) (drop l.place (map seen l.body)) l.insns.items ≡ body_in (map seen l.body))
    × (length l.insns.items ≡ count_by is_code (take l.place (map seen l.body)))
