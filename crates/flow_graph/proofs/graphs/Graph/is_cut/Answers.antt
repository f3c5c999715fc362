use Rattle.flow_graph.proofs.graphs.Graph.is_cut.Goals as goal

pub returns : goal.returns
returns c = (
  λ h. (c.cuts.ensures.exactly c.args.place).0 (c.is_listed.ensures.0 h),
  λ h. c.is_listed.ensures.1 ((c.cuts.ensures.exactly c.args.place).1 h),
)
