use Rattle.std.proofs.Common.{◌≡◌, ◌∙◌, Bool, ap, sym, subst, if◌then◌else◌}
use Rattle.machine.specs.Ready.{finished_row}
use Rattle.machine.specs.Kept.{IsKept, Kept, pure_of}
use Rattle.machine.specs.declared.operands.Family.TheVariants.{Choice}
use Rattle.machine.proofs.Allowed.{target_spanned}
use Rattle.machine.proofs.VectorFamilies.{words_of}
use Rattle.machine.proofs.RowValues.{choice_after}
use Rattle.machine.proofs.state.State.choose.Goals as goal
use Rattle.machine.proofs.state.State.choose.Goals.{then-holds, else-holds}

pub complete-requires-clause-spanned : goal.complete-requires-clause-spanned
complete-requires-clause-spanned c =
    target_spanned c.args.insn.now c.args.self.now (words_of c.args.insn.now Choice c.requires.family tt) (subst IsKept c.self.view_is c.self.invariant.kept) c.requires.allowed

pub returns : goal.returns
returns c =
    let a = c.destination_value-a.result in
    let b = c.source_value-b.result in
    let word : c.if-holds.word ≡ (if c.args.holds then b else a) = elim c.if-holds.branch [
      | then-holds w ↦ w.word-is ∙ ap (λ (h : Bool). if h then b else a) (sym w.if-holds.true)
      | else-holds w ↦ w.word-is ∙ ap (λ (h : Bool). if h then b else a) (sym w.if-holds.false)
    ] in
    c.complete.ensures
    ∙ ap (λ (k : Kept). finished_row c.args.insn.now (pure_of c.args.self.now) c.if-holds.word k.flags) c.self.view_is
    ∙ choice_after c.args.pool.now c.args.insn.now (pure_of c.args.self.now) a b c.if-holds.word c.args.holds c.requires.family
    c.destination_value-a.ensures.value c.source_value-b.ensures.value word
