use Rattle.flow_graph.proofs.Marking.{AreTargets}
use Rattle.flow_graph.proofs.building.heads_of.Given as goal

-- the targets of the backward jumps so far
abbrev pub invariant-loop-place : goal.invariant-loop-place
invariant-loop-place l = AreTargets l.flows l.place l.targets.items
