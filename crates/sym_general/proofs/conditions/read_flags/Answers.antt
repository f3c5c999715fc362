use Rattle.std.proofs.Common.{Err, ◌≡◌, ◌<◌, ◌+◌, false, length, drop, get_or, sym, ◌∙◌, ap, subst, arith}
use Rattle.std.specs.Prelude.{slice_set}
use Rattle.std.proofs.lemmas.List.{length-set}
use Rattle.terms.specs.Made.{Made}
use Rattle.address_nodes.proofs.Growing.{extends_trans}
use Rattle.address_nodes.proofs.Refusals.{handed_on}
use Rattle.sym_rows.specs.declared.lazy_flags.SymFlag.TheVariants.{Built}
use Rattle.sym_rows.specs.LazyFlags.{built_read}
use Rattle.sym_general.specs.PathFlags.{AreFlags, WithFlags, flag_of, flags_read, numbered, some_unset}
use Rattle.sym_general.proofs.ReadSteps.{read_end, read_step, read_too_long, rest_set, step_stays}
use Rattle.sym_general.proofs.conditions.read_flags.Goals as goal

pub returns-in_err-id-clause-full : goal.returns-in_err-id-clause-full
returns-in_err-id-clause-full c =
    let i = c.loop-i.invariant in
    handed_on (65536 < length (flags_read c.args.sheet.now c.args.path.now c.args.numbers.now).nodes)
    c.from_residual.result c.in_err-id.field-0.0 c.from_residual.ensures.1
    (λ full. subst (λ (w : WithFlags). 65536 < length w.nodes) (sym i.rest)
    (read_too_long c.loop-i.sheet c.loop-i.path c.args.numbers.now c.loop-i.i-index i.sheet i.flags i.five c.requires.numbers i.set c.loop-i-test.true
    (subst (λ (m : Made). 65536 < length m.nodes) (λ t. built_read c.loop-i.sheet (c.numbered.ensures t) (c.flag_of-flag.ensures t))
    (c.in_err-id.ensures.full (ap Err full)))))

pub loop-i-preserved : goal.loop-i-preserved
loop-i-preserved c =
    let i = c.loop-i.invariant in
    let n = get_or c.args.numbers.now c.loop-i.i-index 0 in
    let E : built_read c.loop-i.sheet (numbered (get_or c.args.numbers.now c.loop-i.i-index 0)) (flag_of c.loop-i.path (get_or c.args.numbers.now c.loop-i.i-index 0))
    ≡ record { nodes = c.read_flag.new.sheet; id = c.in_ok-id.id } =
    (λ t. built_read c.loop-i.sheet (sym c.numbered.ensures t) (sym c.flag_of-flag.ensures t)) ∙ c.in_ok-id.ensures.built in
    record {
      sheet = c.in_order-in-loop-i.ensures.sheet;
      five = length-set c.loop-i.path n (Built c.in_ok-id.id) ∙ i.five;
      extends = extends_trans c.args.sheet.now c.loop-i.sheet c.read_flag.new.sheet i.extends c.in_ok-id.ensures.extends;
      flags = subst (λ (m : Made). AreFlags m.nodes (slice_set c.loop-i.path n (Built m.id))) E
          (step_stays c.loop-i.sheet c.loop-i.path c.args.numbers.now c.loop-i.i-index i.sheet i.flags i.five c.requires.numbers i.set c.loop-i-test.true).flags;
      set = subst (λ (m : Made). some_unset (slice_set c.loop-i.path n (Built m.id)) (drop (c.loop-i.i-index + 1) c.args.numbers.now) ≡ false) E
          (rest_set c.loop-i.sheet c.loop-i.path c.args.numbers.now c.loop-i.i-index i.sheet i.flags i.five c.requires.numbers i.set c.loop-i-test.true);
      rest = i.rest ∙ read_step c.loop-i.sheet c.loop-i.path c.args.numbers.now c.loop-i.i-index c.loop-i-test.true
          ∙ ap (λ (m : Made). flags_read m.nodes (slice_set c.loop-i.path n (Built m.id)) (drop (c.loop-i.i-index + 1) c.args.numbers.now)) E;
    }

pub returns-clause-made : goal.returns-clause-made
returns-clause-made c =
    c.loop-i.invariant.rest ∙ read_end c.loop-i.sheet c.loop-i.path c.args.numbers.now c.loop-i.i-index (omega (arith, c.loop-i-test.false, c.loop-i.auto.i-index-end))
