use Rattle.std.proofs.Common.{sym, ◌∙◌, ap}
use Rattle.sym_memory.specs.Reads.{test, test_by}
use Rattle.sym_memory.proofs.byte.build_test.Goals as goal

pub returns-clause-made : goal.returns-clause-made
unfolding test
returns-clause-made c =
    ap (test_by c.args.place c.args.written c.args.sheet.now) (sym c.relation_of-relation.ensures) ∙ c.in_ok-id.ensures.made
