use Rattle.std.proofs.Common.{take}
use Rattle.node_reach.proofs.Marks.{MarksRoots, MarksNeeded}
use Rattle.node_reach.proofs.reach.needed.Given as goal

abbrev pub invariant-loop-root : goal.invariant-loop-root
invariant-loop-root l = MarksRoots (take l.root-index l.roots) l.marks.items

abbrev pub invariant-loop-i : goal.invariant-loop-i
invariant-loop-i l = MarksNeeded l.sheet l.roots l.i l.marks.items

abbrev pub decreases-loop-i : goal.decreases-loop-i
decreases-loop-i l = l.i
