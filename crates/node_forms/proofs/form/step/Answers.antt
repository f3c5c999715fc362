use Rattle.std.proofs.Common.{ℕ, ◌<◌, ◌^◌, List, sym, subst}
use Rattle.std.specs.List.{AllByRecursion}
use Rattle.node_values.specs.declared.node.NodeId.{NodeId}
use Rattle.node_forms.proofs.Weights.{with_weight-words}
use Rattle.node_forms.proofs.form.step.Goals as goal

pub add_weight-requires-in-Plus-2-clause-words : goal.add_weight-requires-in-Plus-2-clause-words
add_weight-requires-in-Plus-2-clause-words c =
    let P : List (NodeId × ℕ) → Type 0 = λ ps. AllByRecursion (λ p. p.1 < 2 ^ c.args.w) ps in
    subst P (sym c.in_ok-add_weight-in-Plus.ensures) (with_weight-words c.args.w c.in-Plus.a c.args.q c.requires.weight c.args.pending.now.items c.requires.words)

pub add_weight-requires-in-Minus-2-clause-words : goal.add_weight-requires-in-Minus-2-clause-words
add_weight-requires-in-Minus-2-clause-words c =
    let P : List (NodeId × ℕ) → Type 0 = λ ps. AllByRecursion (λ p. p.1 < 2 ^ c.args.w) ps in
    subst P (sym c.in_ok-add_weight-in-Minus.ensures) (with_weight-words c.args.w c.in-Minus.a c.args.q c.requires.weight c.args.pending.now.items c.requires.words)
