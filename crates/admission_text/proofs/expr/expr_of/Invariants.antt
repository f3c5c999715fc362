use Rattle.std.proofs.Common.{◌≡◌, ◌≤◌, ◌-◌, false, length}
use Rattle.admission_text.specs.Reading.{terms_of}
use Rattle.admission_text.proofs.Pieces.{before_those}
use Rattle.admission_text.proofs.expr.expr_of.Given as goal

-- the terms so far, and then what is left gives, are what the whole text gives
abbrev pub invariant-loop-rest : goal.invariant-loop-rest
invariant-loop-rest l = (terms_of 8 false l.text ≡ before_those l.terms (terms_of (8 - length l.terms) l.minus l.rest)) × (length l.terms ≤ 8)

abbrev pub decreases-loop-rest : goal.decreases-loop-rest
decreases-loop-rest l = 8 - length l.terms
