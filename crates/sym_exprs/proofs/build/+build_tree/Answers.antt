use Rattle.std.proofs.Common.{◌≡◌, ℕ, ◌<◌, IfOk, length, sym, ◌∙◌, ap, subst, arith}
use Rattle.std.proofs.lemmas.List.{length-set}
use Rattle.insn_semantics.specs.Exprs.{with_leaf}
use Rattle.insn_semantics.specs.Formed.{IsFormed, expr_width}
use Rattle.node_values.specs.declared.node.Node.{Node}
use Rattle.node_values.specs.Nodes.{IsNode}
use Rattle.node_values.specs.Sheets.{width_at}
use Rattle.terms.specs.Building.{built}
use Rattle.terms.specs.Made.{Made}
use Rattle.sym_exprs.specs.Trees.{NamesBelow, expr_of, leaf_node, operator_of, shift_of}
use Rattle.sym_exprs.proofs.Building.{first_far, first_wide, formed_behind, formed_far, inside_behind, inside_far, inside_later, leaf_named, let_built, named_formed, named_inside, operator_is, part, part_wide, second_far, second_wide, shift_is, third_wide, widths_later}
use Rattle.sym_exprs.proofs.build.+build_tree.Goals as goal

pub still_fits-requires : goal.still_fits-requires
still_fits-requires t c =
    let h = rw (c.in-Two.is, ← c.deref.ensures, ← c.deref-in-Two.ensures) at c.requires.formed in
    let n = rw (c.in-Two.is, ← c.deref-in-Two.ensures) at c.requires.names in
    record { inside = inside_behind c.args.sheet.now c.build_tree.new.sheet (leaf_node c.args.leaves.now) c.in_order.ensures.sheet c.requires.inside (expr_of c.deref.result.now) c.in_ok-a-in-Two.a h.2 c.in_ok-a-in-Two.ensures.built (expr_of c.deref-in-Two.result.now) h.3; formed = formed_behind c.args.sheet.now c.build_tree.new.sheet (leaf_node c.args.leaves.now) c.in_order.ensures.sheet c.requires.inside (expr_of c.deref.result.now) c.in_ok-a-in-Two.a h.2 c.in_ok-a-in-Two.ensures.built (expr_of c.deref-in-Two.result.now) h.3; names = n.1 }

pub build-requires-in-Two : goal.build-requires-in-Two
build-requires-in-Two t c =
    let h = rw (c.in-Two.is, ← c.deref.ensures, ← c.deref-in-Two-2.ensures) at c.requires.formed in
    let a = first_wide c.args.sheet.now c.build_tree.new.sheet (leaf_node c.args.leaves.now) c.in_order.ensures.sheet c.requires.inside (expr_of c.deref.result.now) c.in_ok-a-in-Two.a h.2 c.in_ok-a-in-Two.ensures.built (expr_of c.deref-in-Two-2.result.now) h.3 c.build_tree-in-Two.new.sheet c.in_ok-b-in-Two.b c.in_ok-b-in-Two.ensures.built in
    let b = second_wide c.args.sheet.now c.build_tree.new.sheet (leaf_node c.args.leaves.now) c.in_order.ensures.sheet c.requires.inside (expr_of c.deref.result.now) c.in_ok-a-in-Two.a h.2 c.in_ok-a-in-Two.ensures.built (expr_of c.deref-in-Two-2.result.now) h.3 c.build_tree-in-Two.new.sheet c.in_ok-b-in-Two.b c.in_ok-b-in-Two.ensures.built in
    subst (λ (m : Node). IsNode (width_at c.build_tree-in-Two.new.sheet) (length c.build_tree-in-Two.new.sheet) m) (sym c.operator_node.ensures)
    (operator_is (width_at c.build_tree-in-Two.new.sheet) (length c.build_tree-in-Two.new.sheet) (operator_of c.in-Two.operator) c.in_ok-a-in-Two.a c.in_ok-b-in-Two.b (a.0, b.0, a.1 ∙ h.0 ∙ sym (b.1 ∙ h.1)))

pub still_fits-requires-in-Joined : goal.still_fits-requires-in-Joined
still_fits-requires-in-Joined t c =
    let h = rw (c.in-Joined.is, ← c.deref-in-Joined.ensures, ← c.deref-in-Joined-2.ensures) at c.requires.formed in
    let n = rw (c.in-Joined.is, ← c.deref-in-Joined-2.ensures) at c.requires.names in
    record { inside = inside_behind c.args.sheet.now c.build_tree-in-Joined.new.sheet (leaf_node c.args.leaves.now) c.in_order.ensures.sheet c.requires.inside (expr_of c.deref-in-Joined.result.now) c.in_ok-a-in-Joined.a h.2 c.in_ok-a-in-Joined.ensures.built (expr_of c.deref-in-Joined-2.result.now) h.3; formed = formed_behind c.args.sheet.now c.build_tree-in-Joined.new.sheet (leaf_node c.args.leaves.now) c.in_order.ensures.sheet c.requires.inside (expr_of c.deref-in-Joined.result.now) c.in_ok-a-in-Joined.a h.2 c.in_ok-a-in-Joined.ensures.built (expr_of c.deref-in-Joined-2.result.now) h.3; names = n.1 }

pub build-requires-in-Joined : goal.build-requires-in-Joined
build-requires-in-Joined t c =
    let h = rw (c.in-Joined.is, ← c.deref-in-Joined.ensures, ← c.deref-in-Joined-3.ensures) at c.requires.formed in
    let a = first_wide c.args.sheet.now c.build_tree-in-Joined.new.sheet (leaf_node c.args.leaves.now) c.in_order.ensures.sheet c.requires.inside (expr_of c.deref-in-Joined.result.now) c.in_ok-a-in-Joined.a h.2 c.in_ok-a-in-Joined.ensures.built (expr_of c.deref-in-Joined-3.result.now) h.3 c.build_tree-in-Joined-2.new.sheet c.in_ok-b-in-Joined.b c.in_ok-b-in-Joined.ensures.built in
    let b = second_wide c.args.sheet.now c.build_tree-in-Joined.new.sheet (leaf_node c.args.leaves.now) c.in_order.ensures.sheet c.requires.inside (expr_of c.deref-in-Joined.result.now) c.in_ok-a-in-Joined.a h.2 c.in_ok-a-in-Joined.ensures.built (expr_of c.deref-in-Joined-3.result.now) h.3 c.build_tree-in-Joined-2.new.sheet c.in_ok-b-in-Joined.b c.in_ok-b-in-Joined.ensures.built in
    (a.0, b.0, omega (arith, a.1, b.1, h.0, h.1))

pub build-requires-in-Not : goal.build-requires-in-Not
build-requires-in-Not t c =
    let h = rw (c.in-Not.is, ← c.deref-in-Not.ensures) at c.requires.formed in
    let a = part_wide c.args.sheet.now c.build_tree-in-Not.new.sheet (leaf_node c.args.leaves.now) c.in_order.ensures.sheet c.requires.inside (expr_of c.deref-in-Not.result.now) c.in_ok-a-in-Not.a h.1 c.in_ok-a-in-Not.ensures.built in
    a.0

pub build-requires-in-Cut : goal.build-requires-in-Cut
build-requires-in-Cut t c =
    let h = rw (c.in-Cut.is, ← c.deref-in-Cut.ensures) at c.requires.formed in
    let a = part_wide c.args.sheet.now c.build_tree-in-Cut.new.sheet (leaf_node c.args.leaves.now) c.in_order.ensures.sheet c.requires.inside (expr_of c.deref-in-Cut.result.now) c.in_ok-a-in-Cut.a h.2 c.in_ok-a-in-Cut.ensures.built in
    (a.0, h.0, omega (arith, a.1, h.1))

pub build-requires-in-Extended : goal.build-requires-in-Extended
build-requires-in-Extended t c =
    let h = rw (c.in-Extended.is, ← c.deref-in-Extended.ensures) at c.requires.formed in
    let a = part_wide c.args.sheet.now c.build_tree-in-Extended.new.sheet (leaf_node c.args.leaves.now) c.in_order.ensures.sheet c.requires.inside (expr_of c.deref-in-Extended.result.now) c.in_ok-a-in-Extended.a h.3 c.in_ok-a-in-Extended.ensures.built in
    (a.0, omega (arith, a.1, h.0, h.1), h.2)

pub build-requires-in-Shifted : goal.build-requires-in-Shifted
build-requires-in-Shifted t c =
    let h = rw (c.in-Shifted.is, ← c.deref-in-Shifted.ensures) at c.requires.formed in
    let a = part_wide c.args.sheet.now c.build_tree-in-Shifted.new.sheet (leaf_node c.args.leaves.now) c.in_order.ensures.sheet c.requires.inside (expr_of c.deref-in-Shifted.result.now) c.in_ok-a-in-Shifted.a h.3 c.in_ok-a-in-Shifted.ensures.built in
    subst (λ (m : Node). IsNode (width_at c.build_tree-in-Shifted.new.sheet) (length c.build_tree-in-Shifted.new.sheet) m) (sym c.shift_node.ensures)
    (shift_is (width_at c.build_tree-in-Shifted.new.sheet) (length c.build_tree-in-Shifted.new.sheet) (shift_of c.in-Shifted.shift) c.in_ok-a-in-Shifted.a c.in-Shifted.k (a.0, h.1, omega (arith, a.1, h.0, h.2)))

pub still_fits-requires-in-Choice : goal.still_fits-requires-in-Choice
still_fits-requires-in-Choice t c =
    let h = rw (c.in-Choice.is, ← c.deref-in-Choice.ensures, ← c.deref-in-Choice-2.ensures) at c.requires.formed in
    let n = rw (c.in-Choice.is, ← c.deref-in-Choice-2.ensures) at c.requires.names in
    record { inside = inside_behind c.args.sheet.now c.build_tree-in-Choice.new.sheet (leaf_node c.args.leaves.now) c.in_order.ensures.sheet c.requires.inside (expr_of c.deref-in-Choice.result.now) c.in_ok-test-in-Choice.test h.2 c.in_ok-test-in-Choice.ensures.built (expr_of c.deref-in-Choice-2.result.now) h.3; formed = formed_behind c.args.sheet.now c.build_tree-in-Choice.new.sheet (leaf_node c.args.leaves.now) c.in_order.ensures.sheet c.requires.inside (expr_of c.deref-in-Choice.result.now) c.in_ok-test-in-Choice.test h.2 c.in_ok-test-in-Choice.ensures.built (expr_of c.deref-in-Choice-2.result.now) h.3; names = n.1 }

pub still_fits-requires-in-Choice-2 : goal.still_fits-requires-in-Choice-2
still_fits-requires-in-Choice-2 t c =
    let h = rw (c.in-Choice.is, ← c.deref-in-Choice.ensures, ← c.deref-in-Choice-3.ensures, ← c.deref-in-Choice-4.ensures) at c.requires.formed in
    let n = rw (c.in-Choice.is, ← c.deref-in-Choice-4.ensures) at c.requires.names in
    record { inside = inside_far c.args.sheet.now c.build_tree-in-Choice.new.sheet (leaf_node c.args.leaves.now) c.in_order.ensures.sheet c.requires.inside (expr_of c.deref-in-Choice.result.now) c.in_ok-test-in-Choice.test h.2 c.in_ok-test-in-Choice.ensures.built (expr_of c.deref-in-Choice-3.result.now) h.3 c.build_tree-in-Choice-2.new.sheet c.in_ok-a-in-Choice.a c.in_ok-a-in-Choice.ensures.built (expr_of c.deref-in-Choice-4.result.now) h.4; formed = formed_far c.args.sheet.now c.build_tree-in-Choice.new.sheet (leaf_node c.args.leaves.now) c.in_order.ensures.sheet c.requires.inside (expr_of c.deref-in-Choice.result.now) c.in_ok-test-in-Choice.test h.2 c.in_ok-test-in-Choice.ensures.built (expr_of c.deref-in-Choice-3.result.now) h.3 c.build_tree-in-Choice-2.new.sheet c.in_ok-a-in-Choice.a c.in_ok-a-in-Choice.ensures.built (expr_of c.deref-in-Choice-4.result.now) h.4; names = n.2 }

pub build-requires-in-Choice : goal.build-requires-in-Choice
build-requires-in-Choice t c =
    let h = rw (c.in-Choice.is, ← c.deref-in-Choice.ensures, ← c.deref-in-Choice-3.ensures, ← c.deref-in-Choice-5.ensures) at c.requires.formed in
    let s = first_far c.args.sheet.now c.build_tree-in-Choice.new.sheet (leaf_node c.args.leaves.now) c.in_order.ensures.sheet c.requires.inside (expr_of c.deref-in-Choice.result.now) c.in_ok-test-in-Choice.test h.2 c.in_ok-test-in-Choice.ensures.built (expr_of c.deref-in-Choice-3.result.now) h.3 c.build_tree-in-Choice-2.new.sheet c.in_ok-a-in-Choice.a c.in_ok-a-in-Choice.ensures.built (expr_of c.deref-in-Choice-5.result.now) h.4 c.build_tree-in-Choice-3.new.sheet c.in_ok-b-in-Choice.b c.in_ok-b-in-Choice.ensures.built in
    let a = second_far c.args.sheet.now c.build_tree-in-Choice.new.sheet (leaf_node c.args.leaves.now) c.in_order.ensures.sheet c.requires.inside (expr_of c.deref-in-Choice.result.now) c.in_ok-test-in-Choice.test h.2 c.in_ok-test-in-Choice.ensures.built (expr_of c.deref-in-Choice-3.result.now) h.3 c.build_tree-in-Choice-2.new.sheet c.in_ok-a-in-Choice.a c.in_ok-a-in-Choice.ensures.built (expr_of c.deref-in-Choice-5.result.now) h.4 c.build_tree-in-Choice-3.new.sheet c.in_ok-b-in-Choice.b c.in_ok-b-in-Choice.ensures.built in
    let b = third_wide c.args.sheet.now c.build_tree-in-Choice.new.sheet (leaf_node c.args.leaves.now) c.in_order.ensures.sheet c.requires.inside (expr_of c.deref-in-Choice.result.now) c.in_ok-test-in-Choice.test h.2 c.in_ok-test-in-Choice.ensures.built (expr_of c.deref-in-Choice-3.result.now) h.3 c.build_tree-in-Choice-2.new.sheet c.in_ok-a-in-Choice.a c.in_ok-a-in-Choice.ensures.built (expr_of c.deref-in-Choice-5.result.now) h.4 c.build_tree-in-Choice-3.new.sheet c.in_ok-b-in-Choice.b c.in_ok-b-in-Choice.ensures.built in
    (s.0, s.1 ∙ h.0, (a.0, b.0, a.1 ∙ h.1 ∙ sym b.1))

pub still_fits-requires-in-Let : goal.still_fits-requires-in-Let
still_fits-requires-in-Let t c =
    let h = rw (c.in-Let.is, ← c.deref-in-Let.ensures, ← c.deref-in-Let-2.ensures) at c.requires.formed in
    let n = rw (c.in-Let.is, ← c.deref-in-Let-2.ensures) at c.requires.names in
    let x = part c.args.sheet.now c.build_tree-in-Let.new.sheet (leaf_node c.args.leaves.now) c.in_order.ensures.sheet c.requires.inside (expr_of c.deref-in-Let.result.now) c.in_ok-a-in-Let.a h.0 c.in_ok-a-in-Let.ensures.built in
    let items = c.as_slice-named.ensures.value ∙ c.in_ok-named-in-Let.ensures in
    let width = expr_width (λ i. width_at c.args.sheet.now (leaf_node c.args.leaves.now i).0) (expr_of c.deref-in-Let.result.now) in
    record {
      inside = subst (λ l. (j : ℕ) → (leaf_node l j).0 < length c.build_tree-in-Let.new.sheet) (sym items)
          (named_inside c.build_tree-in-Let.new.sheet c.args.leaves.now c.in-Let.i c.in_ok-a-in-Let.a n.0 (inside_later c.args.sheet.now c.build_tree-in-Let.new.sheet (leaf_node c.args.leaves.now) c.in_order.ensures.sheet c.requires.inside x.extends) x.inside);
      formed = subst (λ l. IsFormed (λ j. width_at c.build_tree-in-Let.new.sheet (leaf_node l j).0) (expr_of c.deref-in-Let-2.result.now)) (sym items)
          (named_formed c.build_tree-in-Let.new.sheet c.args.leaves.now c.in-Let.i c.in_ok-a-in-Let.a n.0 width (expr_of c.deref-in-Let-2.result.now) x.width
          (subst (λ l. IsFormed (with_leaf l c.in-Let.i width) (expr_of c.deref-in-Let-2.result.now)) (widths_later c.args.sheet.now c.build_tree-in-Let.new.sheet (leaf_node c.args.leaves.now) c.in_order.ensures.sheet c.requires.inside x.extends) h.1));
      names = subst (λ l. NamesBelow (length l) (expr_of c.deref-in-Let-2.result.now)) (sym items)
          (subst (λ m. NamesBelow m (expr_of c.deref-in-Let-2.result.now)) (sym (length-set c.args.leaves.now c.in-Let.i c.in_ok-a-in-Let.a)) n.2);
    }

pub returns-in_ok-named-in-Let-clause-built : goal.returns-in_ok-named-in-Let-clause-built
returns-in_ok-named-in-Let-clause-built t c =
    let n = rw (c.in-Let.is) at c.requires.names in
    let items = c.as_slice-named.ensures.value ∙ c.in_ok-named-in-Let.ensures in
    let X : built c.args.sheet.now (leaf_node c.args.leaves.now) (expr_of c.in-Let.x.value) ≡ record { nodes = c.build_tree-in-Let.new.sheet; id = c.in_ok-a-in-Let.a } =
    ap (λ v. built c.args.sheet.now (leaf_node c.args.leaves.now) (expr_of v)) (sym c.deref-in-Let.ensures) ∙ c.in_ok-a-in-Let.ensures.built in
    let E : built c.args.sheet.now (leaf_node c.args.leaves.now) (expr_of c.args.tree.now) ≡ built c.build_tree-in-Let.new.sheet (leaf_node c.as_slice-named.result.now) (expr_of c.deref-in-Let-3.result.now) =
    ap (λ v. built c.args.sheet.now (leaf_node c.args.leaves.now) (expr_of v)) c.in-Let.is
    ∙ let_built c.args.sheet.now (leaf_node c.args.leaves.now) c.in-Let.i (expr_of c.in-Let.x.value) (expr_of c.in-Let.y.value) c.build_tree-in-Let.new.sheet c.in_ok-a-in-Let.a X
    ∙ ap (λ l. built c.build_tree-in-Let.new.sheet l (expr_of c.in-Let.y.value)) (sym (leaf_named c.args.leaves.now c.in-Let.i c.in_ok-a-in-Let.a n.0))
    ∙ ap (λ l. built c.build_tree-in-Let.new.sheet (leaf_node l) (expr_of c.in-Let.y.value)) (sym items)
    ∙ ap (λ v. built c.build_tree-in-Let.new.sheet (leaf_node c.as_slice-named.result.now) (expr_of v)) (sym c.deref-in-Let-3.ensures) in
    subst (λ (m : Made). IfOk c.build_tree-in-Let-2.result (λ id. m ≡ record { nodes = c.build_tree-in-Let-2.new.sheet; id = id })) (sym E) c.build_tree-in-Let-2.ensures.built
