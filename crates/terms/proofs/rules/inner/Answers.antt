use Rattle.std.proofs.Common.{◌≡◌, ◌+◌, ◌∙◌, ap, subst, arith}
use Rattle.std.specs.Prelude.{slice_index}
use Rattle.node_values.specs.declared.node.Node.TheVariants.{Const, Cat, Cut}
use Rattle.node_values.specs.Nodes.{IsNode, node_width}
use Rattle.node_values.specs.Sheets.{node_at}
use Rattle.terms.proofs.WidthFacts.{list_node, list_ranged, list_width, same_at}
use Rattle.terms.proofs.rules.inner.Goals as goal

pub overflow_add-result : goal.overflow_add-result
overflow_add-result c =
    let is : node_at c.args.nodes.now c.args.a.0 ≡ Cut c.in-Cut.b c.in-Cut.j c.in-Cut.field-2 = same_at c.args.nodes.now c.args.a.0 (Const 0 0) _ c.requires.cut.0 ∙ c.in-Cut.is in
    let cut : IsNode (slice_index c.args.widths.now) c.args.a.0 (Cut c.in-Cut.b c.in-Cut.j c.in-Cut.field-2) =
    subst (IsNode (slice_index c.args.widths.now) c.args.a.0) is (list_node c.args.nodes.now c.args.widths.now c.requires.list c.args.a.0 c.requires.cut.0) in
    let width : slice_index c.args.widths.now c.args.a.0 ≡ c.in-Cut.field-2 =
    list_width c.args.nodes.now c.args.widths.now c.requires.list c.args.a.0 c.requires.cut.0 ∙ ap (node_width (slice_index c.args.widths.now)) is in
    let most = list_ranged c.args.nodes.now c.args.widths.now c.requires.list c.in-Cut.b.0 (omega (arith, cut.0, c.requires.cut.0)) in
    omega (arith, cut.2, width, most.1, c.requires.cut.2)

pub returns-in-Cut-clause-within : goal.returns-in-Cut-clause-within
returns-in-Cut-clause-within c =
    let is : node_at c.args.nodes.now c.args.a.0 ≡ Cut c.in-Cut.b c.in-Cut.j c.in-Cut.field-2 = same_at c.args.nodes.now c.args.a.0 (Const 0 0) _ c.requires.cut.0 ∙ c.in-Cut.is in
    let cut : IsNode (slice_index c.args.widths.now) c.args.a.0 (Cut c.in-Cut.b c.in-Cut.j c.in-Cut.field-2) =
    subst (IsNode (slice_index c.args.widths.now) c.args.a.0) is (list_node c.args.nodes.now c.args.widths.now c.requires.list c.args.a.0 c.requires.cut.0) in
    let width : slice_index c.args.widths.now c.args.a.0 ≡ c.in-Cut.field-2 =
    list_width c.args.nodes.now c.args.widths.now c.requires.list c.args.a.0 c.requires.cut.0 ∙ ap (node_width (slice_index c.args.widths.now)) is in
    (cut.0, c.requires.cut.1, omega (arith, cut.2, width, c.requires.cut.2))

pub returns-then-bits-k-clause-within : goal.returns-then-bits-k-clause-within
returns-then-bits-k-clause-within c =
    let is : node_at c.args.nodes.now c.args.a.0 ≡ Cat c.in-Cat.high c.in-Cat.low = same_at c.args.nodes.now c.args.a.0 (Const 0 0) _ c.requires.cut.0 ∙ c.in-Cat.is in
    let cat : IsNode (slice_index c.args.widths.now) c.args.a.0 (Cat c.in-Cat.high c.in-Cat.low) =
    subst (IsNode (slice_index c.args.widths.now) c.args.a.0) is (list_node c.args.nodes.now c.args.widths.now c.requires.list c.args.a.0 c.requires.cut.0) in
    let width : slice_index c.args.widths.now c.args.a.0 ≡ slice_index c.args.widths.now c.in-Cat.high.0 + slice_index c.args.widths.now c.in-Cat.low.0 =
    list_width c.args.nodes.now c.args.widths.now c.requires.list c.args.a.0 c.requires.cut.0 ∙ ap (node_width (slice_index c.args.widths.now)) is in
    (cat.0, c.requires.cut.1, omega (arith, c.if-bits-k.true, width, c.requires.cut.2))
