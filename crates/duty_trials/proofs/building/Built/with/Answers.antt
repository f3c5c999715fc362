use Rattle.std.proofs.Common.{sym, subst}
use Rattle.duty_trials.specs.Trials.{IsGrown}
use Rattle.duty_trials.proofs.Growing.{made_grown}
use Rattle.duty_trials.proofs.building.Built.with.Goals as goal

pub grown-requires-clause-nodes : goal.grown-requires-clause-nodes
grown-requires-clause-nodes c =
    subst (λ ns. IsGrown ns c.build.new.self c.in_ok-id.id) (sym c.args.self.nodes_are)
    (made_grown c.args.self.sheet c.args.node c.build.new.self c.in_ok-id.id c.in_ok-id.ensures.made c.in_ok-id.ensures.inside)
