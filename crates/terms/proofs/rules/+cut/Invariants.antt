use Rattle.terms.proofs.rules.+cut.Given as goal

abbrev pub decreases-cut : goal.decreases-cut
decreases-cut l = l.a.0
