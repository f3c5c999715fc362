use Rattle.std.proofs.Common.{ℕ, ◌<◌, length, refl, arith}
use Rattle.flow_graph.proofs.Paths.{path-fits, path-made}
use Rattle.flow_graph.proofs.graphs.Graph.is_path.Goals as goal

pub returns : goal.returns
returns c =
    (λ h. path-made c.args.self.now c.args.path.now (λ k lt. c.loop-i.invariant k (omega (arith, c.loop-i-test.false, lt))), λ h. refl)
