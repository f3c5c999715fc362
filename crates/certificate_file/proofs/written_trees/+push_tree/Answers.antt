use Rattle.std.proofs.Common.{sym, ◌∙◌}
use Rattle.refutations.specs.declared.tree.Tree.TheVariants.{rolls-Leaf, rolls-Split}
use Rattle.certificate_file.specs.Trees.{tree_text}
use Rattle.certificate_file.proofs.TreeWriting.{leaf_is, split_is, one_out, all_out, before_kids, leaf_out}
use Rattle.certificate_file.proofs.written_trees.+push_tree.Goals as goal

pub loop-kid-init : goal.loop-kid-init
loop-kid-init t c =
    before_kids c.args.out.now.items _ c.in-Split.i c.in-Split.j c.in-Split.rels c.as_slice-in-Split.result.now c.in-Split.proof.steps c.as_slice-in-Split-2.result.now
    c.in-Split.kids c.as_slice-kid-items.result.now c.args.tree.now c.in_ok-push_split-in-Split.ensures c.as_slice-in-Split.ensures c.as_slice-in-Split-2.ensures c.as_slice-kid-items.ensures
    (split_is c.args.tree.now c.in-Split.i c.in-Split.j c.in-Split.rels c.in-Split.proof c.in-Split.kids
    (rolls-Split c.in-Split.i c.in-Split.j c.in-Split.rels c.in-Split.proof c.in-Split.kids ∙ sym c.in-Split.is))

pub loop-kid-preserved : goal.loop-kid-preserved
loop-kid-preserved t c =
    one_out tree_text c.loop-kid.out.items c.push_tree.new.out.items c.as_slice-kid-items.result.now c.loop-kid.kid-index c.kid-item.result c.loop-kid-test.true c.kid-item.is
    c.in_ok-push_tree-in-Split.ensures
    ∙ c.loop-kid.invariant

pub returns-in_ok-extend_from_slice-in-Leaf : goal.returns-in_ok-extend_from_slice-in-Leaf
returns-in_ok-extend_from_slice-in-Leaf t c =
    leaf_out c.push_lines.result c.args.out.now.items c.extend_from_slice.new.self.items c.push_lines.new.out.items _ c.in-Leaf.shown.steps c.as_slice.result.now c.args.tree.now
    c.push_lines.ensures c.in_ok-extend_from_slice-in-Leaf.ensures.items c.as_slice.ensures
    (leaf_is c.args.tree.now c.in-Leaf.shown (rolls-Leaf c.in-Leaf.shown ∙ sym c.in-Leaf.is))

pub returns-after-loop-kid : goal.returns-after-loop-kid
returns-after-loop-kid t c = all_out tree_text c.loop-kid.out.items c.as_slice-kid-items.result.now c.loop-kid.kid-index c.loop-kid-test.false ∙ c.loop-kid.invariant
