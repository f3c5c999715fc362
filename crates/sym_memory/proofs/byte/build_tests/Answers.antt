use Rattle.std.proofs.Common.{◌≡◌, Err, ◌++◌, ◌∷◌, [], ◌-◌, sym, ◌∙◌, ap, subst, arith, length, ◌<◌, reverse, take, get_or}
use Rattle.node_values.specs.declared.node.Node.TheVariants.{Start}
use Rattle.terms.specs.Made.{made}
use Rattle.address_nodes.proofs.Growing.{extends_trans, stays}
use Rattle.address_nodes.proofs.Refusals.{handed_on}
use Rattle.sym_memory.specs.Reads.{byte_read}
use Rattle.sym_memory.specs.Choices.{AreChoices, with_choices}
use Rattle.sym_memory.proofs.Choosing.{choices_push, choices_stay}
use Rattle.sym_memory.proofs.Longer.{choices_longer}
use Rattle.sym_memory.proofs.Testing.{at_start, found, no_written, passed, test_is_longer, written_at, written_stay}
use Rattle.sym_memory.proofs.byte.build_tests.Goals as goal

pub returns-in_err-test-clause-full : goal.returns-in_err-test-clause-full
returns-in_err-test-clause-full c =
    let i = c.loop-at.invariant in
    handed_on (65536 < length (byte_read c.args.side c.args.fixed.now c.args.place (reverse c.args.written.now) c.args.sheet.now).nodes) c.from_residual.result c.in_err-test.field-0.0 c.from_residual.ensures.1
    (λ full. test_is_longer c.args.side c.args.fixed.now c.args.place c.args.written.now c.args.sheet.now c.loop-at.sheet c.loop-at.at no_written c.loop-at.choices.items c.loop-at-test.true i.inside i.built
    (c.in_err-test.ensures.full (ap Err full)))

pub returns-then-is_one-clause-made : goal.returns-then-is_one-clause-made
returns-then-is_one-clause-made c =
    let i = c.loop-at.invariant in
    found c.args.side c.args.fixed.now c.args.place c.args.written.now c.args.sheet.now c.loop-at.sheet c.loop-at.at no_written c.loop-at.choices.items c.loop-at-test.true i.inside i.built
    (record { nodes = c.build_test.new.sheet; id = c.in_ok-test.test }) c.in_ok-test.ensures.made (sym c.is_one.ensures ∙ c.if-is_one.true)

pub returns-then-is_one-clause-width : goal.returns-then-is_one-clause-width
returns-then-is_one-clause-width c =
    let i = c.loop-at.invariant in
    let inside = c.loop-at.invariant.inside in
    let some = c.loop-at-test.true in
    stays c.loop-at.sheet i.sheet c.build_test.new.sheet c.in_ok-test.ensures.extends 8 _ (written_at c.loop-at.sheet c.args.written.now (c.loop-at.at - 1) no_written (omega arith) i.written).1

pub returns-then-is_one-clause-choices : goal.returns-then-is_one-clause-choices
returns-then-is_one-clause-choices c =
    let i = c.loop-at.invariant in
    choices_stay c.loop-at.sheet i.sheet c.build_test.new.sheet c.in_ok-test.ensures.extends c.loop-at.choices.items i.choices

pub loop-at-preserved : goal.loop-at-preserved
loop-at-preserved c =
    let i = c.loop-at.invariant in
    let inside = c.loop-at.invariant.inside in
    let some = c.loop-at-test.true in
    let ext = c.in_ok-test.ensures.extends in
    let test = c.in_ok-test in
    let value = written_at c.loop-at.sheet c.args.written.now (c.loop-at.at - 1) no_written (omega arith) i.written in
    let pushed : c.push.new.self.items ≡ c.loop-at.choices.items ++ (c.in_ok-test.test, (get_or c.args.written.now (c.loop-at.at - 1) no_written).value) ∷ [] = c.in_ok-push.ensures.items in
    record {
      inside = omega arith;
      sheet = c.in_order-in-loop-at.ensures.sheet;
      extends = extends_trans c.args.sheet.now c.loop-at.sheet c.build_test.new.sheet i.extends test.ensures.extends;
      address = stays c.loop-at.sheet i.sheet c.build_test.new.sheet test.ensures.extends 64 c.args.place.address i.address;
      written = written_stay c.loop-at.sheet i.sheet c.build_test.new.sheet test.ensures.extends c.args.written.now i.written;
      choices = subst (AreChoices c.build_test.new.sheet) (sym pushed)
          (choices_push c.build_test.new.sheet c.loop-at.choices.items (test.test, (get_or c.args.written.now (c.loop-at.at - 1) no_written).value)
          (choices_stay c.loop-at.sheet i.sheet c.build_test.new.sheet test.ensures.extends c.loop-at.choices.items i.choices) test.ensures.width
          (stays c.loop-at.sheet i.sheet c.build_test.new.sheet test.ensures.extends 8 (get_or c.args.written.now (c.loop-at.at - 1) no_written).value value.1));
      built = passed c.args.side c.args.fixed.now c.args.place c.args.written.now c.args.sheet.now c.loop-at.sheet c.loop-at.at no_written c.loop-at.choices.items c.loop-at-test.true i.inside i.built
          (record { nodes = c.build_test.new.sheet; id = test.test }) test.ensures.made (sym c.is_one.ensures ∙ c.if-is_one.false)
          ∙ ap (λ cs. with_choices cs (byte_read c.args.side c.args.fixed.now c.args.place (reverse (take (c.loop-at.at - 1) c.args.written.now)) c.build_test.new.sheet)) (sym pushed);
    }

pub returns-in_err-start-clause-full : goal.returns-in_err-start-clause-full
returns-in_err-start-clause-full c =
    let i = c.loop-at.invariant in
    handed_on (65536 < length (byte_read c.args.side c.args.fixed.now c.args.place (reverse c.args.written.now) c.args.sheet.now).nodes) c.from_residual-in_err-start.result c.in_err-start.field-0.0 c.from_residual-in_err-start.ensures.1
    (λ full. subst (λ m. 65536 < length m.nodes)
    (sym (at_start c.args.side c.args.fixed.now c.args.place c.args.written.now c.args.sheet.now c.loop-at.sheet c.loop-at.at c.loop-at.choices.items c.loop-at-test.false i.built))
    (choices_longer c.loop-at.choices.items (made c.loop-at.sheet (Start c.args.side c.args.place.address)) (c.in_err-start.ensures.full (ap Err full))))

pub returns-clause-made : goal.returns-clause-made
returns-clause-made c =
    let i = c.loop-at.invariant in
    at_start c.args.side c.args.fixed.now c.args.place c.args.written.now c.args.sheet.now c.loop-at.sheet c.loop-at.at c.loop-at.choices.items c.loop-at-test.false i.built
    ∙ ap (with_choices c.loop-at.choices.items) c.in_ok-start.ensures.made

pub returns-clause-choices : goal.returns-clause-choices
returns-clause-choices c =
    let i = c.loop-at.invariant in
    choices_stay c.loop-at.sheet i.sheet c.build.new.self c.in_ok-start.ensures.extends c.loop-at.choices.items i.choices
