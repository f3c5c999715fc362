use Rattle.std.proofs.Common.{List, slice_index, sym, ◌∙◌, ap, subst, rules}
use Rattle.std.specs.List.{AllByRecursion}
use Rattle.memory_spans.specs.declared.region.Region.{Region}
use Rattle.machine.specs.Kept.{pure_of}
use Rattle.admission.specs.Admitted.{IsPlaced}
use Rattle.test_states.proofs.Keeping.{start_is_kept, start_is_pure}
use Rattle.test_states.proofs.starts.start_state.Goals as goal

pub new-requires : goal.new-requires
new-requires c = start_is_kept c.args.test.now.regs c.args.test.now.vecs c.in_ok-spans.spans.items c.args.regions.items c.args.admission.now.stack c.in_ok-ranges.ranges.items
    c.requires.formed.stack_small
    (subst (λ (rs : List Region). AllByRecursion (IsPlaced (slice_index c.args.test.now.regs 4) c.args.admission.now.stack) rs) (sym c.requires.regions) c.requires.admitted.placed)
    (search rules) (search rules) (search rules)

pub returns-clause-pure : goal.returns-clause-pure
returns-clause-pure c = ap pure_of c.new.ensures.kept
    ∙ start_is_pure c.args.admission.now c.args.test.now c.in_ok-spans.spans.items c.args.regions.items c.in_ok-ranges.ranges.items
    c.requires.regions (search rules) (search rules) (search rules) c.requires.inside
