use Rattle.std.proofs.Common.{◌∙◌, ap, subst}
use Rattle.insn_semantics.specs.FlagRules.{flags_after}
use Rattle.machine.specs.Kept.{IsKept, Kept, pure_of}
use Rattle.machine.specs.declared.operands.Family.TheVariants.{Computing}
use Rattle.machine.proofs.Allowed.{target_spanned}
use Rattle.machine.proofs.VectorFamilies.{words_of}
use Rattle.machine.proofs.RowValues.{row_after, row_computes}
use Rattle.machine.proofs.state.State.compute.Goals as goal

pub scalar-word-requires : goal.scalar-word-requires
scalar-word-requires c =
    row_computes c.args.pool.now c.args.insn.now.op c.args.insn.now (pure_of c.args.self.now) _ _ c.requires.family c.requires.width c.requires.row
    c.destination_value-a.ensures.below c.source_value-b.ensures.below c.source_value-b.ensures.value

pub complete-requires-clause-spanned : goal.complete-requires-clause-spanned
complete-requires-clause-spanned c =
    target_spanned c.args.insn.now c.args.self.now (words_of c.args.insn.now Computing c.requires.family tt) (subst IsKept c.self.view_is c.self.invariant.kept) c.requires.allowed

pub returns : goal.returns
returns c =
    c.complete.ensures
    ∙ row_after c.args.pool.now c.args.insn.now (pure_of c.args.self.now) _ _ _ _ c.requires.family c.destination_value-a.ensures.value c.source_value-b.ensures.value
    c.scalar-word.ensures.value
    (c.flags-after.ensures ∙ ap (λ (k : Kept). flags_after c.args.insn.now.op c.args.insn.now.w c.destination_value-a.result c.source_value-b.result k.flags) c.self.view_is)
