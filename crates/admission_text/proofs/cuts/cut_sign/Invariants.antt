use Rattle.std.proofs.Common.{◌≡◌, take, drop}
use Rattle.admission_text.specs.Reading.{cut_sign}
use Rattle.admission_text.proofs.Pieces.{all_before}
use Rattle.admission_text.proofs.cuts.cut_sign.Given as goal

abbrev pub invariant-loop-place : goal.invariant-loop-place
invariant-loop-place l = cut_sign l.text ≡ all_before (take l.place l.text) (cut_sign (drop l.place l.text))
