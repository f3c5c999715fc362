use Rattle.std.proofs.Common.{◌≡◌, drop, length}
use Rattle.resolution_chains.specs.Marks.{all_linked}
use Rattle.resolution_chains.proofs.chain.link_all.Given as goal

-- the rest of the links leads to the same marks
abbrev pub invariant-loop-pivot : goal.invariant-loop-pivot
invariant-loop-pivot l =
    (all_linked l.clauses l.marks (drop l.pivot-index l.next) ≡ all_linked l.clauses l.initial.marks l.next)
    × (length l.marks ≡ length l.initial.marks)
