use Rattle.std.proofs.Common.{◌≡◌, ℕ, ◌+◌, ◌*◌, ◌<◌, ◌≤◌, List, take, ◌-◌, [], ◌++◌, sym, ◌∙◌, ap, subst, arith}
use Rattle.std.specs.Prelude.{max, slice_index}
use Rattle.node_values.specs.declared.node.NodeId.{NodeId}
use Rattle.node_values.specs.Sheets.{node_at, width_at}
use Rattle.node_forms.specs.Gathering.{Gathering, IsGathering, replaced}
use Rattle.node_forms.specs.Linearity.{linearity}
use Rattle.node_forms.specs.Sums.{top_of, weighted_sum}
use Rattle.node_forms.proofs.Residues.{same_number}
use Rattle.node_forms.proofs.Replacing as replacing
use Rattle.node_forms.proofs.Weights.{top_of-append}
use Rattle.node_forms.proofs.WidthLists.{same_widths, word_widths}
use Rattle.node_forms.proofs.form.gather.Goals as goal

pub step-requires-clause-widths : goal.step-requires-clause-widths
step-requires-clause-widths c = word_widths c.args.nodes.now c.args.widths.now c.requires.widths c.requires.sheet

pub loop-node-smaller : goal.loop-node-smaller
loop-node-smaller c =
    let P : List (NodeId × ℕ) → Type 0 = λ ps. IsGathering c.args.nodes.now c.args.w c.args.pending.items (record { pending = ps; atoms = c.loop-node.atoms.items; constant = c.loop-node.c }) in
    let g = subst P c.in-Some.ensures.items c.loop-node.invariant in
    let lower = replacing.rest_lower c.args.nodes.now c.requires.sheet c.args.w c.requires.width.0 c.args.pending.items c.pop.new.self.items c.in-Some.node c.in-Some.q c.loop-node.atoms.items c.loop-node.c g in
    let old : top_of c.loop-node.pending.items ≡ max (top_of c.pop.new.self.items) (c.in-Some.node.0 + 1) =
    ap top_of c.in-Some.ensures.items ∙ top_of-append c.pop.new.self.items (c.in-Some.node, c.in-Some.q) in
    omega (arith, lower, old)

pub loop-node-smaller-then-q-ne0 : goal.loop-node-smaller-then-q-ne0
loop-node-smaller-then-q-ne0 c =
    let P : List (NodeId × ℕ) → Type 0 = λ ps. IsGathering c.args.nodes.now c.args.w c.args.pending.items (record { pending = ps; atoms = c.loop-node.atoms.items; constant = c.loop-node.c }) in
    let g = subst P c.in-Some.ensures.items c.loop-node.invariant in
    let lower = replacing.replaced_lower c.args.nodes.now c.requires.sheet c.args.w c.requires.width.0 c.args.pending.items c.pop.new.self.items c.in-Some.node c.in-Some.q c.loop-node.atoms.items c.loop-node.c g in
    let s : Gathering = record { pending = c.pop.new.self.items; atoms = c.loop-node.atoms.items; constant = c.loop-node.c } in
    let made : (replaced c.args.w c.in-Some.node c.in-Some.q (linearity c.args.nodes.now (width_at c.args.nodes.now) c.args.w (node_at c.args.nodes.now c.in-Some.node.0)) s).pending ≡ c.step.new.pending.items =
    (λ i. (replaced c.args.w c.in-Some.node c.in-Some.q (linearity c.args.nodes.now (sym (same_widths c.args.nodes.now c.args.widths.now c.requires.widths) i) c.args.w (node_at c.args.nodes.now c.in-Some.node.0)) s).pending)
    ∙ ap (λ g. g.pending) c.in_ok-c.ensures in
    let old : top_of c.loop-node.pending.items ≡ max (top_of c.pop.new.self.items) (c.in-Some.node.0 + 1) =
    ap top_of c.in-Some.ensures.items ∙ top_of-append c.pop.new.self.items (c.in-Some.node, c.in-Some.q) in
    let now : top_of c.step.new.pending.items ≤ c.in-Some.node.0 = subst (λ ps. top_of ps ≤ c.in-Some.node.0) made lower in
    omega (arith, now, old)

pub step-requires-clause-weight : goal.step-requires-clause-weight
step-requires-clause-weight c =
    let P : List (NodeId × ℕ) → Type 0 = λ ps. IsGathering c.args.nodes.now c.args.w c.args.pending.items (record { pending = ps; atoms = c.loop-node.atoms.items; constant = c.loop-node.c }) in
    let g = subst P c.in-Some.ensures.items c.loop-node.invariant in
    replacing.last_word c.args.nodes.now c.requires.sheet c.args.w c.requires.width.0 c.args.pending.items c.pop.new.self.items c.in-Some.node c.in-Some.q c.loop-node.atoms.items c.loop-node.c g

pub step-requires-clause-words : goal.step-requires-clause-words
step-requires-clause-words c =
    let P : List (NodeId × ℕ) → Type 0 = λ ps. IsGathering c.args.nodes.now c.args.w c.args.pending.items (record { pending = ps; atoms = c.loop-node.atoms.items; constant = c.loop-node.c }) in
    let g = subst P c.in-Some.ensures.items c.loop-node.invariant in
    replacing.rest_words c.args.nodes.now c.requires.sheet c.args.w c.requires.width.0 c.args.pending.items c.pop.new.self.items c.in-Some.node c.in-Some.q c.loop-node.atoms.items c.loop-node.c g

pub loop-node-preserved : goal.loop-node-preserved
loop-node-preserved c =
    let P : List (NodeId × ℕ) → Type 0 = λ ps. IsGathering c.args.nodes.now c.args.w c.args.pending.items (record { pending = ps; atoms = c.loop-node.atoms.items; constant = c.loop-node.c }) in
    let g = subst P c.in-Some.ensures.items c.loop-node.invariant in
    replacing.without c.args.nodes.now c.requires.sheet c.args.w c.requires.width.0 c.args.pending.items c.pop.new.self.items c.in-Some.node c.in-Some.q c.loop-node.atoms.items c.loop-node.c g c.if-q-ne0.false

pub loop-node-preserved-then-q-ne0 : goal.loop-node-preserved-then-q-ne0
loop-node-preserved-then-q-ne0 c =
    let P : List (NodeId × ℕ) → Type 0 = λ ps. IsGathering c.args.nodes.now c.args.w c.args.pending.items (record { pending = ps; atoms = c.loop-node.atoms.items; constant = c.loop-node.c }) in
    let g = subst P c.in-Some.ensures.items c.loop-node.invariant in
    let some : 0 < c.in-Some.q = let ne : c.in-Some.q ≡ 0 → ⊥ = c.if-q-ne0.true in omega arith in
    let kept = replacing.replaced_keeps c.args.nodes.now c.requires.sheet c.args.w c.requires.width.0 c.args.pending.items c.pop.new.self.items c.in-Some.node c.in-Some.q c.loop-node.atoms.items c.loop-node.c g some in
    let s : Gathering = record { pending = c.pop.new.self.items; atoms = c.loop-node.atoms.items; constant = c.loop-node.c } in
    let widths : replaced c.args.w c.in-Some.node c.in-Some.q (linearity c.args.nodes.now (width_at c.args.nodes.now) c.args.w (node_at c.args.nodes.now c.in-Some.node.0)) s
    ≡ replaced c.args.w c.in-Some.node c.in-Some.q (linearity c.args.nodes.now (slice_index c.args.widths.now) c.args.w (node_at c.args.nodes.now c.in-Some.node.0)) s =
    λ i. replaced c.args.w c.in-Some.node c.in-Some.q (linearity c.args.nodes.now (sym (same_widths c.args.nodes.now c.args.widths.now c.requires.widths) i) c.args.w (node_at c.args.nodes.now c.in-Some.node.0)) s in
    subst (IsGathering c.args.nodes.now c.args.w c.args.pending.items) (widths ∙ c.in_ok-c.ensures) kept

pub returns-clause-sum : goal.returns-clause-sum
returns-clause-sum c k f is =
    let rest : c.pop.new.self.items ≡ [] =
    c.in_default.ensures.rest ∙ ap (λ n. take (n - 1) c.loop-node.pending.items) c.in_default.ensures.cases.0 in
    let empty : c.loop-node.pending.items ≡ [] = c.in_default.ensures.items ∙ ap (λ ps. ps ++ []) rest in
    let none : weighted_sum f c.loop-node.pending.items ≡ 0 = ap (weighted_sum f) empty in
    let atoms : weighted_sum f c.from_vec.result ≡ weighted_sum f c.loop-node.atoms.items = ap (weighted_sum f) c.from_vec.ensures in
    same_number c.args.w (weighted_sum f c.from_vec.result + k * c.loop-node.c)
    (weighted_sum f c.loop-node.pending.items + (weighted_sum f c.loop-node.atoms.items + k * c.loop-node.c)) (omega (arith, none, atoms))
    ∙ c.loop-node.invariant.sum k f is
