use Rattle.std.proofs.Common.{◌≡◌, ℕ, ◌<◌, List, length, sym, ◌∙◌, subst, inr, IfOk}
use Rattle.std.specs.Prelude.{slice_index}
use Rattle.node_values.specs.declared.node.Node.{Node}
use Rattle.node_values.specs.Nodes.{IsNode}
use Rattle.terms.specs.declared.rules.Reduced.TheVariants.{Old, New}
use Rattle.terms.specs.Made.{GrowsInRoom, Made, made, placed}
use Rattle.terms.specs.Rules.{by_rules}
use Rattle.terms.specs.Sheet.{IsWidthList}
use Rattle.terms.proofs.MadeLaws.{made_by, new_node}
use Rattle.terms.proofs.WidthFacts.{node_by_list}
use Rattle.terms.proofs.sheet.build_in.Goals as goal

pub reduce-requires-clause-list : goal.reduce-requires-clause-list
reduce-requires-clause-list c =
    let P : List Node × List ℕ → Type 0 = λ p. IsWidthList p.0 p.1 in
    let given : List Node × List ℕ = (c.args.nodes.now.keys, c.args.widths.now.items) in
    let lent : List Node × List ℕ = (c.as_slice.result.now, c.as_slice-2.result.now) in
    let e : given ≡ lent = λ t. (sym c.as_slice.ensures.keys t, sym c.as_slice-2.ensures.value t) in
    subst P e (c.requires.kept.sheet, c.requires.kept.widths)

pub reduce-requires-clause-node : goal.reduce-requires-clause-node
reduce-requires-clause-node c =
    let P : List Node × List ℕ → Type 0 = λ p. IsNode (slice_index p.1) (length p.0) c.args.node in
    let given : List Node × List ℕ = (c.args.nodes.now.keys, c.args.widths.now.items) in
    let lent : List Node × List ℕ = (c.as_slice.result.now, c.as_slice-2.result.now) in
    let e : given ≡ lent = λ t. (sym c.as_slice.ensures.keys t, sym c.as_slice-2.ensures.value t) in
    subst P e (node_by_list c.args.nodes.now.keys c.args.widths.now.items (c.requires.kept.sheet, c.requires.kept.widths) c.args.node c.requires.node)

pub returns-in-Old-clause-made : goal.returns-in-Old-clause-made
returns-in-Old-clause-made c =
    let by : c.in_ok-reduced.reduced ≡ by_rules c.args.nodes.now.keys (slice_index c.args.widths.now.items) c.args.node =
    c.in_ok-reduced.ensures.reduced ∙ (λ t. by_rules (c.as_slice.ensures.keys t) (slice_index (c.as_slice-2.ensures.value t)) c.args.node) in
    made_by c.args.nodes.now.keys c.args.widths.now.items c.args.node (Old c.in-Old.id) c.requires.kept.widths (sym c.in-Old.is ∙ by)

pub place-requires-clause-node : goal.place-requires-clause-node
place-requires-clause-node c =
    let by : c.in_ok-reduced.reduced ≡ by_rules c.args.nodes.now.keys (slice_index c.args.widths.now.items) c.args.node =
    c.in_ok-reduced.ensures.reduced ∙ (λ t. by_rules (c.as_slice.ensures.keys t) (slice_index (c.as_slice-2.ensures.value t)) c.args.node) in
    new_node c.args.nodes.now.keys c.requires.kept.sheet c.args.widths.now.items c.args.node c.in-New.new c.requires.kept.widths c.requires.node (sym c.in-New.is ∙ by)

-- the sheet that the rules give, where they give a new node
with_new : (c : goal.After-place) → made c.args.nodes.now.keys c.args.node ≡ placed c.args.nodes.now.keys (New c.in-New.new)
with_new c =
    let by : c.in_ok-reduced.reduced ≡ by_rules c.args.nodes.now.keys (slice_index c.args.widths.now.items) c.args.node =
    c.in_ok-reduced.ensures.reduced ∙ (λ t. by_rules (c.as_slice.ensures.keys t) (slice_index (c.as_slice-2.ensures.value t)) c.args.node) in
    made_by c.args.nodes.now.keys c.args.widths.now.items c.args.node (New c.in-New.new) c.requires.kept.widths (sym c.in-New.is ∙ by)

pub returns-in-New-clause-made : goal.returns-in-New-clause-made
returns-in-New-clause-made c =
    let P : Made → Type 0 = λ m. IfOk c.place.result (λ id. m ≡ record { nodes = c.place.new.nodes.keys; id = id }) in
    subst P (sym (with_new c)) c.place.ensures.placed

pub returns-in-New-clause-full : goal.returns-in-New-clause-full
returns-in-New-clause-full c full =
    let P : Made → Type 0 = λ m. 65536 < length m.nodes in
    subst P (sym (with_new c)) (c.place.ensures.full full)

pub returns-in-New-clause-memory : goal.returns-in-New-clause-memory
returns-in-New-clause-memory c memory =
    let P : Made → Type 0 = λ m. GrowsInRoom c.args.nodes.now.keys m.nodes in
    inr (subst P (sym (with_new c)) (c.place.ensures.memory memory))
