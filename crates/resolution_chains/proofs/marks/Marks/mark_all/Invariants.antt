use Rattle.std.proofs.Common.{◌≡◌, drop, length}
use Rattle.resolution_chains.specs.Marks.{all_marked}
use Rattle.resolution_chains.proofs.marks.Marks.mark_all.Given as goal

-- the rest of the literals leads to the same marks
abbrev pub invariant-loop-lit : goal.invariant-loop-lit
invariant-loop-lit l =
    (all_marked l.self (drop l.lit-index l.lits) ≡ all_marked l.initial.self l.lits) × (length l.self ≡ length l.initial.self)
