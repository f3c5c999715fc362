use Rattle.std.proofs.Common.{◌≡◌, ◌<◌, ◌≤◌, [], ◌∷◌, ◌++◌, length, sym, ◌∙◌, ap, subst, arith}
use Rattle.node_values.specs.declared.node.Node.{Node}
use Rattle.node_values.specs.Sheets.{AreWidths}
use Rattle.duty_trials.proofs.Growing.{kept, one_more, widths_of_more}
use Rattle.duty_trials.proofs.building.grown.Goals as goal

pub invariant_of-built : goal.invariant_of-built
invariant_of-built c =
    let inside : c.args.id.0 < length c.args.nodes.items = omega (arith, c.if-id-len.true, c.len.ensures, c.args.nodes.ok.0) in
    let same = kept c.args.nodes.items c.args.sheet c.args.id c.requires.nodes inside in
    record {
      nodes_are = same;
      widths_are = subst (λ ns. AreWidths ns c.args.widths.items) same c.requires.widths;
    }

pub invariant_of-result : goal.invariant_of-result
invariant_of-result c =
    let past : length c.args.nodes.items ≤ c.args.id.0 = omega (arith, c.if-id-len.false, c.len.ensures, c.args.nodes.ok.0) in
    let nodes : c.push.new.self.items ≡ c.args.nodes.items ++ c.node.result ∷ [] = c.in_ok-push.ensures.items in
    let widths : c.push-2.new.self.items ≡ c.args.widths.items ++ c.width.result ∷ [] = c.in_ok-push-2.ensures.items in
    record {
      nodes_are =
          nodes ∙ ap (λ (n : Node). c.args.nodes.items ++ n ∷ []) c.node.ensures
          ∙ sym (one_more c.args.nodes.items c.args.sheet c.args.id c.requires.nodes past).1;
      widths_are =
          subst (AreWidths c.args.sheet) (sym widths)
          (widths_of_more c.args.nodes.items c.args.sheet c.args.id c.args.widths.items c.width.result c.requires.nodes past c.requires.sheet c.requires.widths c.width.ensures);
    }
