use Rattle.std.proofs.Common.{ℕ, ◌<◌}
use Rattle.flow_graph.proofs.Paths.{FitsAt}
use Rattle.flow_graph.proofs.graphs.Graph.is_path.Given as goal

-- each place so far fits before the next one
abbrev pub invariant-loop-i : goal.invariant-loop-i
invariant-loop-i l = (k : ℕ) → k < l.i → FitsAt l.self l.path k
