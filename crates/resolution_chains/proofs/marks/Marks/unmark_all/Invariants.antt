use Rattle.std.proofs.Common.{◌≡◌, drop, length}
use Rattle.resolution_chains.specs.Marks.{all_unmarked}
use Rattle.resolution_chains.proofs.marks.Marks.unmark_all.Given as goal

-- the rest of the literals leads to the same marks
abbrev pub invariant-loop-lit : goal.invariant-loop-lit
invariant-loop-lit l =
    (all_unmarked l.self (drop l.lit-index l.lits) ≡ all_unmarked l.initial.self l.lits) × (length l.self ≡ length l.initial.self)
