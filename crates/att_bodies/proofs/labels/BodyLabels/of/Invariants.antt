use Rattle.std.proofs.Common.{◌≡◌, ◌≤◌, ◌+◌, ℕ, List, map, drop}
use Rattle.std.specs.List.{count_by}
use Rattle.std.specs.Option.{option_or}
use Rattle.std.specs.BTreeMap.{get_by}
use Rattle.std.specs.Ordering.{nat_cmp}
use Rattle.std.specs.Cmp.Lexicographic.{slice_cmp}
use Rattle.text_lines.specs.Views.{seen}
use Rattle.att_bodies.specs.Body.{is_code}
use Rattle.att_bodies.specs.Firsts.{AreDistinct, first_from}
use Rattle.att_bodies.proofs.labels.BodyLabels.of.Given as goal

-- the labels so far, and then those that are left, are all; among the first items no name stands twice
abbrev pub invariant-loop-place : goal.invariant-loop-place
invariant-loop-place l =
    ((name : List ℕ) → option_or (get_by (λ key. slice_cmp nat_cmp name key.now) l.firsts) (first_from l.place l.insns (drop l.place (map seen l.body)) name) ≡ first_from 0 0 (map seen l.body) name)
    × (l.insns + count_by is_code (drop l.place (map seen l.body)) ≡ count_by is_code (map seen l.body))
    × (l.insns ≤ l.place)
    × AreDistinct l.distinct (map seen l.body)
