use Rattle.std.proofs.Common.{sym, ◌∙◌, ap}
use Rattle.std.specs.Prelude.{slice_index, length}
use Rattle.terms.specs.Rules.{unfolded}
use Rattle.terms.proofs.MadeLaws.{not_folded}
use Rattle.terms.proofs.WidthFacts.{arguments_inside}
use Rattle.terms.proofs.rules.reduce.Goals as goal

pub is_folded-requires : goal.is_folded-requires
is_folded-requires c = arguments_inside (slice_index c.args.widths.now) (length c.args.nodes.now) c.args.node c.requires.node

pub returns-in-Add-clause-reduced : goal.returns-in-Add-clause-reduced
returns-in-Add-clause-reduced c =
    c.sum.ensures (slice_index c.args.widths.now) ∙ ap (unfolded c.args.nodes.now (slice_index c.args.widths.now)) (sym c.in-Add.is)
    ∙ sym (not_folded c.args.nodes.now (slice_index c.args.widths.now) c.args.node (sym c.is_folded.ensures ∙ c.if-is_folded.false))

pub returns-in-Or-clause-reduced : goal.returns-in-Or-clause-reduced
returns-in-Or-clause-reduced c =
    c.or.ensures (slice_index c.args.widths.now) ∙ ap (unfolded c.args.nodes.now (slice_index c.args.widths.now)) (sym c.in-Or.is)
    ∙ sym (not_folded c.args.nodes.now (slice_index c.args.widths.now) c.args.node (sym c.is_folded.ensures ∙ c.if-is_folded.false))

pub returns-in-Ult-clause-reduced : goal.returns-in-Ult-clause-reduced
returns-in-Ult-clause-reduced c =
    c.below.ensures (slice_index c.args.widths.now) ∙ ap (unfolded c.args.nodes.now (slice_index c.args.widths.now)) (sym c.in-Ult.is)
    ∙ sym (not_folded c.args.nodes.now (slice_index c.args.widths.now) c.args.node (sym c.is_folded.ensures ∙ c.if-is_folded.false))

pub returns-in-If-clause-reduced : goal.returns-in-If-clause-reduced
returns-in-If-clause-reduced c =
    c.choice.ensures (slice_index c.args.widths.now) ∙ ap (unfolded c.args.nodes.now (slice_index c.args.widths.now)) (sym c.in-If.is)
    ∙ sym (not_folded c.args.nodes.now (slice_index c.args.widths.now) c.args.node (sym c.is_folded.ensures ∙ c.if-is_folded.false))

pub returns-in-Slt-clause-reduced : goal.returns-in-Slt-clause-reduced
returns-in-Slt-clause-reduced c =
    c.signed_below.ensures c.args.nodes.now (slice_index c.args.widths.now) ∙ ap (unfolded c.args.nodes.now (slice_index c.args.widths.now)) (sym c.in-Slt.is)
    ∙ sym (not_folded c.args.nodes.now (slice_index c.args.widths.now) c.args.node (sym c.is_folded.ensures ∙ c.if-is_folded.false))
