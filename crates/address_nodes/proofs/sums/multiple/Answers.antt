use Rattle.std.proofs.Common.{sym, ◌∙◌, ap, subst, arith}
use Rattle.node_values.specs.Sheets.{value_at}
use Rattle.node_values.proofs.SheetLaws.{width_ranged}
use Rattle.insn_semantics.specs.Words as words
use Rattle.address_nodes.specs.Multiples as nodes
use Rattle.address_nodes.proofs.TermSums.{multiple_word}
use Rattle.address_nodes.proofs.sums.multiple.Goals as goal

pub multiple_by-requires-clause-width : goal.multiple_by-requires-clause-width
multiple_by-requires-clause-width c =
    let ranged = width_ranged c.args.sheet.now c.in_order.ensures.sheet c.args.a.0 c.requires.node.0 in
    (omega (arith, ranged.0, c.requires.node.1), omega (arith, ranged.1, c.requires.node.1))

pub returns-clause-made : goal.returns-clause-made
unfolding nodes.multiple
returns-clause-made c =
    ap (nodes.multiple_by c.args.sheet.now c.args.w c.args.q c.args.a) (sym c.exponent_of-exponent.ensures) ∙ c.in_ok-id.ensures.made

built : (c : goal.In_ok-id) → nodes.IsBuiltWord c.args.sheet.now c.args.w (λ e. words.times c.args.w c.args.q (value_at e c.args.sheet.now c.args.a.0)) (record { nodes = c.multiple_by.new.sheet; id = c.in_ok-id.id })
built c =
    subst (nodes.IsBuiltWord c.args.sheet.now c.args.w (λ e. words.times c.args.w c.args.q (value_at e c.args.sheet.now c.args.a.0))) (returns-clause-made c)
    (multiple_word c.args.sheet.now c.args.w c.args.q c.args.a c.in_order.ensures.sheet c.requires.node c.requires.number)

pub returns-clause-width : goal.returns-clause-width
returns-clause-width c = ((built c).inside, (built c).width)

pub returns-clause-value : goal.returns-clause-value
returns-clause-value c = (built c).value
