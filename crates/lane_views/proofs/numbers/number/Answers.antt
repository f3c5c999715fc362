use Rattle.std.proofs.Common.{◌≡◌, ◌+◌, ◌-◌, ◌*◌, suc, get_or, length, drop, sym, ◌∙◌, ap, arith}
use Rattle.lane_views.specs.Lanes.{number}
use Rattle.lane_views.proofs.Powers.{number_fits, number_in_front, number_more}
use Rattle.lane_views.proofs.numbers.number.Goals as goal

pub overflow_mul-value : goal.overflow_mul-value
overflow_mul-value c =
    omega (
      arith,
      number_more 0 c.loop-place.value (length c.args.bytes.now - c.loop-place.place) (omega arith) c.loop-place.invariant.2,
      number_fits (c.loop-place.value * 256 + 0) (suc (length c.args.bytes.now - c.loop-place.place)) (number_more 0 c.loop-place.value (length c.args.bytes.now - c.loop-place.place) (omega arith) c.loop-place.invariant.2) (omega arith),
    )

pub overflow_add-value : goal.overflow_add-value
overflow_add-value c =
    omega (arith, number_fits (c.loop-place.value * 256 + c.from.result) (suc (length c.args.bytes.now - c.loop-place.place)) (number_more c.from.result c.loop-place.value (length c.args.bytes.now - c.loop-place.place) (omega arith) c.loop-place.invariant.2) (omega arith))

pub loop-place-preserved : goal.loop-place-preserved
loop-place-preserved c =
    let left : length c.args.bytes.now - (c.loop-place.place - 1) ≡ suc (length c.args.bytes.now - c.loop-place.place) = omega arith in
    let up : suc (c.loop-place.place - 1) ≡ c.loop-place.place = omega arith in
    let front : number (drop (c.loop-place.place - 1) c.args.bytes.now) ≡ get_or c.args.bytes.now (c.loop-place.place - 1) 0 + 256 * number (drop (suc (c.loop-place.place - 1)) c.args.bytes.now) =
    number_in_front c.args.bytes.now (c.loop-place.place - 1) (omega arith) in
    let rest : number (drop (suc (c.loop-place.place - 1)) c.args.bytes.now) ≡ c.loop-place.value =
    ap (λ k. number (drop k c.args.bytes.now)) up ∙ sym c.loop-place.invariant.1 in
    (omega arith, omega (arith, c.from.ensures), rw left (number_more c.from.result c.loop-place.value (length c.args.bytes.now - c.loop-place.place) (omega arith) c.loop-place.invariant.2))
