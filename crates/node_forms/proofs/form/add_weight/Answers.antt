use Rattle.std.proofs.Common.{◌≡◌, ℕ, ◌<◌, ◌^◌, List, [], ◌∷◌, ◌++◌, take, drop, length, sym, ◌∙◌, ap, arith, slice_set}
use Rattle.node_values.specs.declared.node.NodeId.{NodeId}
use Rattle.node_forms.specs.Sums.{with_weight}
use Rattle.node_forms.proofs.Weights.{all_at, with_weight-before, with_weight-last, with_weight-same}
use Rattle.node_forms.proofs.form.add_weight.Goals as goal

pub scalar-requires : goal.scalar-requires
scalar-requires c =
    let inside : c.loop-at.at < length c.loop-at.pending.items = omega (arith, ap length c.loop-at.invariant.same) in
    let all = all_at (λ p. p.1 < 2 ^ c.args.w) c.loop-at.pending.items c.loop-at.at c.index.result.now inside
    (rw c.loop-at.invariant.same c.requires.words) in
    let word : c.index.result.now.1 < 2 ^ c.args.w = rw c.index.ensures all in
    (c.requires.width.0, omega arith, word, c.requires.weight)

pub returns-then-eq : goal.returns-then-eq
returns-then-eq c =
    let inside : c.loop-at.at < length c.loop-at.pending.items = omega (arith, ap length c.loop-at.invariant.same) in
    let placed = with_weight-same c.args.w c.args.a c.args.q c.loop-at.pending.items c.loop-at.at c.index.result.now inside (sym c.index.ensures)
    (sym c.eq.ensures ∙ c.if-eq.true) in
    (λ i. slice_set c.loop-at.pending.items c.loop-at.at (c.index.result.now.0, c.scalar.ensures.value i))
    ∙ sym placed ∙ sym c.loop-at.invariant.passed ∙ ap (with_weight c.args.w c.args.a c.args.q) c.loop-at.invariant.same

pub returns-then-number-other : goal.returns-then-number-other
returns-then-number-other c =
    let inside : c.loop-at.at < length c.loop-at.pending.items = omega (arith, ap length c.loop-at.invariant.same) in
    let placed = with_weight-before c.args.w c.args.a c.args.q c.loop-at.pending.items c.loop-at.at c.index.result.now inside (sym c.index.ensures)
    (sym c.eq.ensures ∙ c.if-eq.false) c.if-number-other.true in
    c.in_ok-insert.ensures.items
    ∙ sym placed ∙ sym c.loop-at.invariant.passed ∙ ap (with_weight c.args.w c.args.a c.args.q) c.loop-at.invariant.same

pub returns : goal.returns
returns c =
    let p : List (NodeId × ℕ) = c.loop-at.pending.items in
    let end : c.loop-at.at ≡ length c.loop-at.pending.items = omega (arith, ap length c.loop-at.invariant.same) in
    let last : take c.loop-at.at p ++ with_weight c.args.w c.args.a c.args.q (drop c.loop-at.at p) ≡ p ++ (c.args.a, c.args.q) ∷ [] =
    ap (λ n. take n p ++ with_weight c.args.w c.args.a c.args.q (drop n p)) end ∙ with_weight-last c.args.w c.args.a c.args.q p in
    c.in_ok-push.ensures.items ∙ sym last ∙ sym c.loop-at.invariant.passed ∙ ap (with_weight c.args.w c.args.a c.args.q) c.loop-at.invariant.same
