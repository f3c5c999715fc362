use Rattle.sym_rows.proofs.FlagForms.{flag_formed}
use Rattle.sym_rows.proofs.Values.{leaves_have_value, ok_has_value}
use Rattle.sym_rows.proofs.flags.flag.Goals as goal

pub returns-clause-value : goal.returns-clause-value
returns-clause-value c =
    ok_has_value _ _ _ _ _ c.built_flag-built.ensures.built
    (leaves_have_value c.args.w _ _ _ c.in_order.ensures.sheet c.requires.leaves
    (flag_formed c.args.flag c.args.op c.args.w c.args.k c.requires.byte c.requires.word c.requires.row))
