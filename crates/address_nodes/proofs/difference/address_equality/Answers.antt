use Rattle.std.proofs.Common.{◌≡◌, true, false, if◌then◌else◌, sym, ◌∙◌, ap, subst}
use Rattle.insn_semantics.specs.Words.{equal}
use Rattle.node_values.specs.Sheets.{value_at}
use Rattle.address_nodes.specs.Multiples.{IsBuiltWord}
use Rattle.address_nodes.specs.Differences.{difference_terms, equality, is_least_subtracted, no_difference}
use Rattle.address_nodes.proofs.DifferenceNodes.{equality_word}
use Rattle.address_nodes.proofs.difference.address_equality.Goals as goal

pub returns-then-subtracts_least-clause-made : goal.returns-then-subtracts_least-clause-made
unfolding equality
returns-then-subtracts_least-clause-made c =
    let told : is_least_subtracted (difference_terms c.args.sheet.now c.args.a c.args.b) ≡ true =
    ap is_least_subtracted (sym (c.as_slice.ensures ∙ c.in_ok-form.ensures.terms)) ∙ sym c.subtracts_least.ensures ∙ c.if-subtracts_least.true in
    ap (λ t. if t then no_difference c.args.sheet.now c.args.b c.args.a else no_difference c.args.sheet.now c.args.a c.args.b) told ∙ c.in_ok-id.ensures.made

pub returns-clause-made : goal.returns-clause-made
unfolding equality
returns-clause-made c =
    let told : is_least_subtracted (difference_terms c.args.sheet.now c.args.a c.args.b) ≡ false =
    ap is_least_subtracted (sym (c.as_slice.ensures ∙ c.in_ok-form.ensures.terms)) ∙ sym c.subtracts_least.ensures ∙ c.if-subtracts_least.false in
    ap (λ t. if t then no_difference c.args.sheet.now c.args.b c.args.a else no_difference c.args.sheet.now c.args.a c.args.b) told ∙ c.in_ok-id-2.ensures.made

-- what is built when the difference is turned
turned : (c : goal.After-drop-form-then-subtracts_least) → IsBuiltWord c.args.sheet.now 1 (λ e. equal (value_at e c.args.sheet.now c.args.a.0) (value_at e c.args.sheet.now c.args.b.0)) (record { nodes = c.no_difference_by.new.sheet; id = c.in_ok-id.id })
turned c =
    subst (IsBuiltWord c.args.sheet.now 1 (λ e. equal (value_at e c.args.sheet.now c.args.a.0) (value_at e c.args.sheet.now c.args.b.0))) (returns-then-subtracts_least-clause-made c)
    (equality_word c.args.sheet.now c.in_order.ensures.sheet c.args.a c.args.b c.requires.first c.requires.second)

pub returns-then-subtracts_least-clause-width : goal.returns-then-subtracts_least-clause-width
returns-then-subtracts_least-clause-width c = ((turned c).inside, (turned c).width)

pub returns-then-subtracts_least-clause-value : goal.returns-then-subtracts_least-clause-value
returns-then-subtracts_least-clause-value c = (turned c).value

-- what is built else
straight : (c : goal.In_ok-id-2) → IsBuiltWord c.args.sheet.now 1 (λ e. equal (value_at e c.args.sheet.now c.args.a.0) (value_at e c.args.sheet.now c.args.b.0)) (record { nodes = c.no_difference_by-2.new.sheet; id = c.in_ok-id-2.id })
straight c =
    subst (IsBuiltWord c.args.sheet.now 1 (λ e. equal (value_at e c.args.sheet.now c.args.a.0) (value_at e c.args.sheet.now c.args.b.0))) (returns-clause-made c)
    (equality_word c.args.sheet.now c.in_order.ensures.sheet c.args.a c.args.b c.requires.first c.requires.second)

pub returns-clause-width : goal.returns-clause-width
returns-clause-width c = ((straight c).inside, (straight c).width)

pub returns-clause-value : goal.returns-clause-value
returns-clause-value c = (straight c).value
