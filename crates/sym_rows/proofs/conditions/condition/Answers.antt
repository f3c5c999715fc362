use Rattle.insn_semantics.proofs.FormedLaws.{conds_formed}
use Rattle.sym_rows.proofs.Values.{leaves_have_value, ok_has_value}
use Rattle.sym_rows.proofs.conditions.condition.Goals as goal

pub returns-clause-value : goal.returns-clause-value
returns-clause-value c =
    ok_has_value _ _ _ _ _ c.built_condition-built.ensures.built
    (leaves_have_value 1 _ _ _ c.in_order.ensures.sheet c.requires (conds_formed c.args.cond).formed)
