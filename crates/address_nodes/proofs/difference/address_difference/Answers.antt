use Rattle.std.proofs.Common.{subst}
use Rattle.insn_semantics.specs.Words.{minus}
use Rattle.node_values.specs.Sheets.{value_at}
use Rattle.address_nodes.specs.Multiples.{IsBuiltWord}
use Rattle.address_nodes.specs.Differences.{difference}
use Rattle.address_nodes.proofs.DifferenceNodes.{difference_word}
use Rattle.address_nodes.proofs.difference.address_difference.Goals as goal

pub returns-clause-made : goal.returns-clause-made
unfolding difference
returns-clause-made c = c.in_ok-id.ensures.made

built : (c : goal.In_ok-id) → IsBuiltWord c.args.sheet.now 64 (λ e. minus 64 (value_at e c.args.sheet.now c.args.a.0) (value_at e c.args.sheet.now c.args.b.0)) (record { nodes = c.difference_by.new.sheet; id = c.in_ok-id.id })
built c =
    subst (IsBuiltWord c.args.sheet.now 64 (λ e. minus 64 (value_at e c.args.sheet.now c.args.a.0) (value_at e c.args.sheet.now c.args.b.0))) (returns-clause-made c)
    (difference_word c.args.sheet.now c.in_order.ensures.sheet c.args.a c.args.b c.requires.first c.requires.second)

pub returns-clause-width : goal.returns-clause-width
returns-clause-width c = ((built c).inside, (built c).width)

pub returns-clause-value : goal.returns-clause-value
returns-clause-value c = (built c).value
