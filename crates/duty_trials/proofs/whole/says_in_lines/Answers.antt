use Rattle.std.proofs.Common.{◌≡◌, length, sym, ◌∙◌, subst, arith}
use Rattle.std.proofs.lemmas.List.{nil_from_length}
use Rattle.duty_trials.specs.Trials.{SaysInLines}
use Rattle.duty_trials.proofs.Values.{zero_says}
use Rattle.duty_trials.proofs.whole.says_in_lines.Goals as goal

pub returns-in-empty : goal.returns-in-empty
returns-in-empty c t =
    subst (λ lines. SaysInLines c.args.built.now.sheet lines c.args.address.0 c.args.node.0)
    (sym (nil_from_length c.args.scratch.now (omega (arith, c.in-empty.len_below))))
    (zero_says c.args.built.now.sheet c.in_order.ensures.sheet c.args.node.0 c.requires.node c.args.address.0 (sym c.node.ensures ∙ c.is_zero.ensures t))
