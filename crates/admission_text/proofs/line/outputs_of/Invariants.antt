use Rattle.std.proofs.Common.{◌≡◌}
use Rattle.std.specs.Option.{option_map}
use Rattle.text_parts.specs.Cuts.{parts_left}
use Rattle.admission_text.specs.Reading.{outputs_of}
use Rattle.admission_text.proofs.Pieces.{before_those}
use Rattle.text_parts.proofs.WordTexts.{left_size}
use Rattle.admission_text.proofs.line.outputs_of.Given as goal

-- the outputs so far, and then what is left gives, are what all words give
abbrev pub invariant-loop-left : goal.invariant-loop-left
invariant-loop-left l =
    outputs_of (parts_left 32 (option_map (λ t. t.now) l.rest)) ≡ before_those l.live (outputs_of (parts_left 32 (option_map (λ t. t.now) l.left)))

abbrev pub decreases-loop-left : goal.decreases-loop-left
decreases-loop-left l = left_size (option_map (λ t. t.now) l.left)
