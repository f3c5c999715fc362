use Rattle.std.proofs.Common.{Err, ap, arith, length, ◌<◌, ◌-◌}
use Rattle.std.proofs.Math.Seq.{drop-length}
use Rattle.std.proofs.lemmas.Bool.{le-leb, lt-leb}
use Rattle.address_nodes.specs.Multiples.{Sum, subtracted}
use Rattle.address_nodes.proofs.Growing.{extends_trans, same_extends, terms_stay}
use Rattle.address_nodes.proofs.SumLoops.{no_term, subtracted_loop_longer, subtracted_none, subtracted_one, term_at}
use Rattle.address_nodes.proofs.Refusals.{handed_on}
use Rattle.address_nodes.proofs.sums.subtract_terms.Goals as goal

pub loop-at-init : goal.loop-at-init
unfolding subtracted
loop-at-init c = record {
  inside = omega arith;
  sheet = c.in_order.ensures.sheet;
  built = ap (subtracted (record { nodes = c.args.sheet.now; node = c.args.sum })) (drop-length c.args.terms.now);
  extends = same_extends c.args.sheet.now;
  sum = c.requires.sum;
  terms = c.requires.terms;
}

pub minus_term-requires-clause-atom : goal.minus_term-requires-clause-atom
minus_term-requires-clause-atom c =
    let inside = c.loop-at.invariant.inside in
    term_at c.loop-at.sheet c.args.terms.now (c.loop-at.at - 1) no_term (omega arith) c.loop-at.invariant.terms

pub returns-in_err-minus_term-clause-full : goal.returns-in_err-minus_term-clause-full
returns-in_err-minus_term-clause-full c =
    let i = c.loop-at.invariant in
    let start : Sum = record { nodes = c.args.sheet.now; node = c.args.sum } in
    handed_on (65536 < length (subtracted (record { nodes = c.args.sheet.now; node = c.args.sum }) c.args.terms.now).nodes) c.from_residual.result c.in_err-minus_term.field-0.0 c.from_residual.ensures.1
    (λ full. subtracted_loop_longer start c.args.terms.now c.loop-at.at no_term (record { nodes = c.loop-at.sheet; node = c.loop-at.less }) c.loop-at-test.true i.inside i.built
    (lt-leb _ _ c.if-weight-gt-MOST_ADDED.true) (c.in_err-minus_term.ensures.full (ap Err full)))

pub loop-at-preserved-then-weight-gt-MOST_ADDED : goal.loop-at-preserved-then-weight-gt-MOST_ADDED
loop-at-preserved-then-weight-gt-MOST_ADDED c =
    let i = c.loop-at.invariant in
    let inside = c.loop-at.invariant.inside in
    let start : Sum = record { nodes = c.args.sheet.now; node = c.args.sum } in
    let done = c.in_ok-minus_term in
    record {
      inside = omega arith;
      sheet = done.ensures.sheet;
      built = subtracted_one start c.args.terms.now c.loop-at.at no_term (record { nodes = c.loop-at.sheet; node = c.loop-at.less })
          (record { nodes = c.minus_term.new.sheet; id = done.field-0 }) c.loop-at-test.true i.inside i.built
          (lt-leb _ _ c.if-weight-gt-MOST_ADDED.true) done.ensures.made;
      extends = extends_trans c.args.sheet.now c.loop-at.sheet c.minus_term.new.sheet i.extends done.ensures.extends;
      sum = done.ensures.width;
      terms = terms_stay c.loop-at.sheet i.sheet c.minus_term.new.sheet done.ensures.extends c.args.terms.now i.terms;
    }

pub loop-at-preserved : goal.loop-at-preserved
loop-at-preserved c =
    let i = c.loop-at.invariant in
    let inside = c.loop-at.invariant.inside in
    let start : Sum = record { nodes = c.args.sheet.now; node = c.args.sum } in
    record {
      inside = omega arith;
      sheet = i.sheet;
      built = subtracted_none start c.args.terms.now c.loop-at.at no_term (record { nodes = c.loop-at.sheet; node = c.loop-at.less }) c.loop-at-test.true i.inside i.built
          (le-leb _ _ c.if-weight-gt-MOST_ADDED.false);
      extends = i.extends;
      sum = i.sum;
      terms = i.terms;
    }
