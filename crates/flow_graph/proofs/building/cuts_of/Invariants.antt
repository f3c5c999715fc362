use Rattle.flow_graph.proofs.Marking.{AreCutsBefore}
use Rattle.flow_graph.proofs.building.cuts_of.Given as goal

-- the entry, the heads and the returns so far
abbrev pub invariant-loop-place : goal.invariant-loop-place
invariant-loop-place l = AreCutsBefore l.flows l.place l.cuts.items
