use Rattle.std.proofs.Common.{sym, subst}
use Rattle.sym_general.specs.Applied.{listed}
use Rattle.sym_general.specs.Results.{IsGeneralMade}
use Rattle.sym_general.proofs.apply.apply_general.Goals as goal

pub returns-clause-words : goal.returns-clause-words
returns-clause-words c =
    let H = subst (λ v. IsGeneralMade c.args.sheet.now c.args.insn.now v c.args.args.now.flags
    (record { nodes = c.build_general-built.new.sheet; values = listed c.in_ok-built.built.result; flags = c.in_ok-built.built.flags; cond = c.in_ok-built.built.cond }))
    c.as_slice.ensures.value c.in_ok-built.ensures.has in
    (subst (λ v. IsGeneralMade c.args.sheet.now c.args.insn.now c.args.args.now.values.items c.args.args.now.flags
    (record { nodes = c.build_general-built.new.sheet; values = v; flags = c.in_ok-built.built.flags; cond = c.in_ok-built.built.cond })) (sym c.in_ok-values.ensures) H).words

pub returns-clause-widths : goal.returns-clause-widths
returns-clause-widths c =
    (subst (λ v. IsGeneralMade c.args.sheet.now c.args.insn.now c.as_slice.result.now c.args.args.now.flags
    (record { nodes = c.build_general-built.new.sheet; values = v; flags = c.in_ok-built.built.flags; cond = c.in_ok-built.built.cond })) (sym c.in_ok-values.ensures)
    c.in_ok-built.ensures.has).widths

pub returns-clause-cond : goal.returns-clause-cond
returns-clause-cond c = (c.in_ok-built.ensures.has).cond

pub returns-clause-flags : goal.returns-clause-flags
returns-clause-flags c = (c.in_ok-built.ensures.has).flags

pub returns-clause-left : goal.returns-clause-left
returns-clause-left c =
    (subst (λ v. IsGeneralMade c.args.sheet.now c.args.insn.now v c.args.args.now.flags
    (record { nodes = c.build_general-built.new.sheet; values = listed c.in_ok-built.built.result; flags = c.in_ok-built.built.flags; cond = c.in_ok-built.built.cond }))
    c.as_slice.ensures.value c.in_ok-built.ensures.has).left
