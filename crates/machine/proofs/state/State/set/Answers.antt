use Rattle.std.proofs.Common.{◌≡◌, ◌∙◌, ap, sym, subst}
use Rattle.insn_semantics.specs.Words.{bit}
use Rattle.machine.specs.Ready.{finished_row}
use Rattle.machine.specs.Kept.{IsKept, Kept, pure_of}
use Rattle.machine.specs.declared.operands.Family.TheVariants.{Setting}
use Rattle.machine.proofs.Allowed.{target_spanned}
use Rattle.machine.proofs.VectorFamilies.{words_of}
use Rattle.machine.proofs.RowValues.{setting_after}
use Rattle.machine.proofs.state.State.set.Goals as goal
use Rattle.machine.proofs.state.State.set.Goals.{then-holds, else-holds}

pub complete-requires-clause-spanned : goal.complete-requires-clause-spanned
complete-requires-clause-spanned c =
    target_spanned c.args.insn.now c.args.self.now (words_of c.args.insn.now Setting c.requires.family tt) (subst IsKept c.self.view_is c.self.invariant.kept) c.requires.allowed

pub returns : goal.returns
returns c =
    let word : c.if-holds.word ≡ bit c.args.holds = elim c.if-holds.branch [
      | then-holds w ↦ w.word-is ∙ ap bit (sym w.if-holds.true)
      | else-holds w ↦ w.word-is ∙ ap bit (sym w.if-holds.false)
    ] in
    c.complete.ensures
    ∙ ap (λ (k : Kept). finished_row c.args.insn.now (pure_of c.args.self.now) c.if-holds.word k.flags) c.self.view_is
    ∙ setting_after c.args.pool.now c.args.insn.now (pure_of c.args.self.now) c.if-holds.word c.args.holds c.requires.family word
