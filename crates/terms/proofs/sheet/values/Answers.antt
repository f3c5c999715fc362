use Rattle.std.proofs.Common.{◌≡◌, ℕ, ◌<◌, ◌≤◌, ◌^◌, List, [], ◌∷◌, length, length-append, sym, ◌∙◌, ap, subst, arith}
use Rattle.std.specs.Prelude.{slice_index}
use Rattle.node_values.specs.Environments.{environment_of}
use Rattle.node_values.specs.Nodes.{IsNode}
use Rattle.node_values.specs.Sheets.{node_at}
use Rattle.node_values.specs.Values.{node_value}
use Rattle.terms.proofs.WidthFacts.{list_words, node_over_all, pushed_values, value_words}
use Rattle.terms.proofs.sheet.values.Goals as goal

pub value-value-requires-clause-widths : goal.value-value-requires-clause-widths
value-value-requires-clause-widths c = list_words c.args.nodes.now c.args.widths.now c.requires

pub value-value-requires-clause-node : goal.value-value-requires-clause-node
value-value-requires-clause-node c =
    let inside : c.loop-i.i < length c.args.nodes.now = omega arith in
    subst (IsNode (slice_index c.args.widths.now) (length c.args.widths.now)) (sym c.node_in-node.ensures) (node_over_all c.args.nodes.now c.args.widths.now c.requires c.loop-i.i inside)

pub value-value-requires-clause-values : goal.value-value-requires-clause-values
value-value-requires-clause-values c =
    let P : List ℕ → Type 0 = λ vs. (i : ℕ) → slice_index vs i < 2 ^ slice_index c.args.widths.now i in
    let inside : c.loop-i.i ≤ length c.args.nodes.now = omega arith in
    subst P (sym c.as_slice.ensures.value)
    (value_words c.args.nodes.now c.args.widths.now c.loop-i.values.items c.requires (environment_of c.args.env.now) c.loop-i.i inside
    c.loop-i.invariant.len c.loop-i.invariant.each)

pub loop-i-preserved : goal.loop-i-preserved
loop-i-preserved c =
    let inside : c.loop-i.i < length c.args.nodes.now = omega arith in
    let v : c.value-value.result ≡ node_value (environment_of c.args.env.now) (slice_index c.args.widths.now) (slice_index c.loop-i.values.items) (node_at c.args.nodes.now c.loop-i.i) =
    c.value-value.ensures
    ∙ (λ t. node_value (environment_of c.args.env.now) (slice_index c.args.widths.now) (slice_index (c.as_slice.ensures.value t)) (c.node_in-node.ensures t)) in
    record {
      len = omega (arith, ap length c.in_ok-push.ensures.items, length-append c.loop-i.values.items (c.value-value.result ∷ []), c.loop-i.invariant.len);
      each = pushed_values c.args.nodes.now c.args.widths.now c.requires (environment_of c.args.env.now) c.loop-i.i c.loop-i.values.items
          c.value-value.result c.push.new.self.items inside c.loop-i.invariant.len c.loop-i.invariant.each v c.in_ok-push.ensures.items;
    }
