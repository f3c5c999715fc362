use Rattle.std.proofs.Common.{sym, ◌∙◌, subst, map, drop}
use Rattle.std.specs.BTreeMap.{get_by}
use Rattle.std.specs.Ordering.{nat_cmp}
use Rattle.std.specs.Cmp.Lexicographic.{slice_cmp}
use Rattle.text_lines.specs.Views.{seen}
use Rattle.att_bodies.specs.Firsts.{AreDistinct, first_from}
use Rattle.att_bodies.proofs.CodeSteps.{distinct-next, places-next, counts-next, firsts-end, counts-end, items-gone}
use Rattle.att_bodies.proofs.labels.BodyLabels.of.Goals.{then-new+then-distinct-place, else-new}
use Rattle.att_bodies.proofs.labels.BodyLabels.of.Goals as goal

pub loop-place-preserved : goal.loop-place-preserved
loop-place-preserved c =
    let h = c.loop-place in
    let counts = counts-next c.args.body.now h.place h.insns c.count_of-insns.result _ c.count_of-insns.ensures c.loop-place-test.true h.invariant.1 h.invariant.2 in (
      places-next c.args.body.now h.place h.insns c.count_of-insns.result _ (λ name. get_by (λ key. slice_cmp nat_cmp name key.now) h.firsts)
          (λ name. get_by (λ key. slice_cmp nat_cmp name key.now) c.add_item.new.firsts) (first_from 0 0 (map seen c.args.body.now)) c.count_of-insns.ensures
          c.loop-place-test.true c.in_ok-new.ensures.added h.invariant.0,
      counts.0,
      counts.1,
      elim c.if-new.branch [
        | then-new+then-distinct-place w ↦
            subst (λ n. AreDistinct n (map seen c.args.body.now)) (sym w.distinct-is)
            (distinct-next c.args.body.now h.place h.insns h.distinct _ (λ name. get_by (λ key. slice_cmp nat_cmp name key.now) h.firsts) c.loop-place-test.true
            w.if-distinct-place.true (λ name named. c.in_ok-new.ensures.new w.if-new.true name named) h.invariant.0 h.invariant.3)
        | else-new w ↦ subst (λ n. AreDistinct n (map seen c.args.body.now)) (sym w.distinct-is) h.invariant.3
      ],
    )

pub invariant_of-result : goal.invariant_of-result
invariant_of-result c =
    let h = c.loop-place in
    record {
      kept = λ name. sym (firsts-end h.place h.insns (drop h.place (map seen c.args.body.now)) (get_by (λ key. slice_cmp nat_cmp name key.now) h.firsts) name
          (items-gone c.args.body.now h.place c.loop-place-test.false)) ∙ h.invariant.0 name;
      counted = counts-end c.args.body.now h.place h.insns c.loop-place-test.false h.invariant.1;
      once = h.invariant.3;
    }
