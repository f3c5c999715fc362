use Rattle.std.proofs.Common.{◌≡◌, Err, ◌++◌, ◌∷◌, [], sym, ◌∙◌, ap, subst, length, ◌<◌}
use Rattle.address_nodes.proofs.Growing.{extends_trans}
use Rattle.address_nodes.proofs.Refusals.{handed_on}
use Rattle.sym_memory.specs.Choices.{AreChoices, with_choices}
use Rattle.sym_memory.proofs.Choosing.{choice_first, choices_pop, choices_stay, popped_longer}
use Rattle.sym_memory.proofs.byte.choose.Goals as goal

pub returns-in_err-id-clause-full : goal.returns-in_err-id-clause-full
returns-in_err-id-clause-full c =
    let i = c.loop-test.invariant in
    let items : c.loop-test.choices.items ≡ c.pop.new.self.items ++ (c.in-Some.test, c.in-Some.value) ∷ [] = c.in-Some.ensures.items in
    handed_on (65536 < length (with_choices c.args.choices.items (record { nodes = c.args.sheet.now; id = c.args.innermost })).nodes) c.from_residual.result c.in_err-id.field-0.0 c.from_residual.ensures.1
    (λ full. subst (λ m. 65536 < length m.nodes) (sym (i.built ∙ ap (λ cs. with_choices cs (record { nodes = c.loop-test.sheet; id = c.loop-test.id })) items))
    (popped_longer c.pop.new.self.items (c.in-Some.test, c.in-Some.value) (record { nodes = c.loop-test.sheet; id = c.loop-test.id }) (c.in_err-id.ensures.full (ap Err full))))

pub loop-test-preserved : goal.loop-test-preserved
loop-test-preserved c =
    let i = c.loop-test.invariant in
    let items : c.loop-test.choices.items ≡ c.pop.new.self.items ++ (c.in-Some.test, c.in-Some.value) ∷ [] = c.in-Some.ensures.items in
    let popped = choices_pop c.loop-test.sheet c.pop.new.self.items (c.in-Some.test, c.in-Some.value) (subst (AreChoices c.loop-test.sheet) items i.choices) in
    let done = c.in_ok-id in
    record {
      sheet = done.ensures.sheet;
      extends = extends_trans c.args.sheet.now c.loop-test.sheet c.build.new.self i.extends done.ensures.extends;
      byte = (done.ensures.inside, done.ensures.width ∙ popped.1.1.1);
      choices = choices_stay c.loop-test.sheet i.sheet c.build.new.self done.ensures.extends c.pop.new.self.items popped.0;
      built = i.built ∙ ap (λ cs. with_choices cs (record { nodes = c.loop-test.sheet; id = c.loop-test.id })) items
          ∙ choice_first c.pop.new.self.items (c.in-Some.test, c.in-Some.value) (record { nodes = c.loop-test.sheet; id = c.loop-test.id })
          ∙ ap (with_choices c.pop.new.self.items) done.ensures.made;
    }
