use Rattle.std.proofs.Common.{◌≡◌, ◌≤◌, length}
use Rattle.std.specs.Option.{option_map}
use Rattle.text_parts.specs.Cuts.{parts, parts_left}
use Rattle.admission_text.specs.ReadingLines.{behind_lines, no_draft}
use Rattle.text_parts.proofs.WordTexts.{left_size}
use Rattle.admission_text.proofs.read.behind_lines.Given as goal

-- what is left gives, behind the draft so far, what the whole text gives
abbrev pub invariant-loop-left : goal.invariant-loop-left
invariant-loop-left l =
    (behind_lines 0 no_draft (parts 10 l.text) ≡ behind_lines l.number l.draft (parts_left 10 (option_map (λ t. t.now) l.left)))
    × (length l.draft.admission.regions ≤ 8)

abbrev pub decreases-loop-left : goal.decreases-loop-left
decreases-loop-left l = left_size (option_map (λ t. t.now) l.left)
