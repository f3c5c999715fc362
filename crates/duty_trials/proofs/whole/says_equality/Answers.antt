use Rattle.std.proofs.Common.{◌≡◌, ℕ, sym, ◌∙◌, subst}
use Rattle.duty_trials.specs.Trials.{SaysEquality}
use Rattle.duty_trials.proofs.Values.{eq_says, eq_says_turned, one_says}
use Rattle.duty_trials.proofs.whole.says_equality.Goals as goal

pub returns-then-is_equality : goal.returns-then-is_equality
returns-then-is_equality c t =
    eq_says c.args.built.now.sheet c.in_order.ensures.sheet c.args.node.0 c.requires c.args.a c.args.b
    (sym c.node-found.ensures ∙ c.is_equality.ensures c.if-is_equality.true)

pub returns-then-is_equality-2 : goal.returns-then-is_equality-2
returns-then-is_equality-2 c t =
    eq_says_turned c.args.built.now.sheet c.in_order.ensures.sheet c.args.node.0 c.requires c.args.b c.args.a
    (sym c.node-found.ensures ∙ c.is_equality-2.ensures c.if-is_equality-2.true)

pub returns : goal.returns
returns c t =
    let same : c.args.a.0 ≡ c.args.b.0 = c.if-a-b.false in
    subst (λ (b : ℕ). SaysEquality c.args.built.now.sheet c.args.a.0 b c.args.node.0) same
    (one_says c.args.built.now.sheet c.in_order.ensures.sheet c.args.node.0 c.requires c.args.a.0 (sym c.node-found.ensures ∙ c.is_one.ensures t))
