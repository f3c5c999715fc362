use Rattle.std.proofs.Common.{◌≡◌, take}
use Rattle.flow_graph.specs.Flows.{flows_of}
use Rattle.flow_graph.proofs.building.flows_of.Given as goal

-- the flows so far
abbrev pub invariant-loop-insn : goal.invariant-loop-insn
invariant-loop-insn l = l.flows.items ≡ flows_of (take l.insn-index l.insns)
