use Rattle.std.proofs.Common.{◌≡◌, [], ◌∷◌, ◌++◌, sym, ◌∙◌, arith}
use Rattle.std.proofs.lemmas.List.FromFn.{map-range_with_len_more}
use Rattle.clause_rows.specs.Numbering.{first_variable}
use Rattle.clause_rows.proofs.Numbers.{all_more, room_more, variable_next}
use Rattle.clause_rows.proofs.numbering.first_variables.Goals as goal

pub loop-i-preserved : goal.loop-i-preserved
loop-i-preserved c =
    let i = c.loop-i.invariant in
    let d = c.args.duty.now in
    let pushed : c.push.new.self.items ≡ c.loop-i.firsts.items ++ c.loop-i.next ∷ [] = c.in_ok-push.ensures.items in
    let few = i.few in
    let all = i.all in
    let count = c.variable_count-next.ensures.few in
    record {
      firsts = pushed ∙ (λ j. i.firsts j ++ i.next j ∷ []) ∙ sym (map-range_with_len_more (first_variable d) 0 c.loop-i.i c.loop-i.i (omega arith));
      next = variable_next d c.loop-i.i c.loop-i.next c.variable_count-next.result i.next c.variable_count-next.ensures.value;
      few = omega (arith, few, count);
      all = all_more c.loop-i.i c.loop-i.next c.variable_count-next.result few all count c.variable_count-next.ensures.outside;
      room = room_more c.loop-i.firsts.items c.push.new.self.items c.loop-i.next pushed i.room (omega (arith, all));
    }
