use Rattle.std.proofs.Common.{sym, ◌∙◌}
use Rattle.att_bodies.proofs.CodeSteps.{added-lookup, restored-lookup}
use Rattle.att_bodies.proofs.labels.add_first.Goals as goal

pub returns-in-None-clause-added : goal.returns-in-None-clause-added
returns-in-None-clause-added c =
    added-lookup c.args.firsts.now.entries c.insert.new.self.entries c.args.name c.args.first c.in_ok-insert.ensures.entries
    (sym c.in_ok-insert.ensures.old ∙ c.in-None.is)

pub returns-in_ok-insert-in-Some-clause-added : goal.returns-in_ok-insert-in-Some-clause-added
returns-in_ok-insert-in-Some-clause-added c =
    restored-lookup c.args.firsts.now.entries c.insert.new.self.entries c.insert-in-Some.new.self.entries c.args.name c.args.first c.in-Some.earlier
    c.in_ok-insert.ensures.entries c.in_ok-insert-in-Some.ensures.entries (sym c.in_ok-insert.ensures.old ∙ c.in-Some.is)
