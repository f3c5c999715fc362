use Rattle.std.proofs.Common.{arith}
use Rattle.sym_rows.specs.Leaves.{flag_leaf}
use Rattle.sym_rows.proofs.Widths.{extends_through}
use Rattle.sym_rows.proofs.LeafWidths.{later_leaves}
use Rattle.sym_rows.proofs.flags.built_parity.Goals as goal

pub node-requires : goal.node-requires
node-requires c = (c.requires.leaves.inside 0, omega arith, omega (arith, c.requires.byte, c.requires.leaves.widths 0))

pub with_bit-requires-clause-node : goal.with_bit-requires-clause-node
with_bit-requires-clause-node c =
    let l1 = later_leaves c.args.w c.args.sheet.now c.node.new.sheet (flag_leaf c.args.over) c.requires.leaves c.node.ensures.longer c.node.ensures.kept in
    (l1.inside 0, omega (arith, c.requires.byte, l1.widths 0))

pub with_bit-requires-2-clause-node : goal.with_bit-requires-2-clause-node
with_bit-requires-2-clause-node c =
    let l1 = later_leaves c.args.w c.args.sheet.now c.node.new.sheet (flag_leaf c.args.over) c.requires.leaves c.node.ensures.longer c.node.ensures.kept in
    let l2 = later_leaves c.args.w c.node.new.sheet c.with_bit.new.sheet (flag_leaf c.args.over) l1 c.with_bit.ensures.longer c.with_bit.ensures.kept in
    (l2.inside 0, omega (arith, c.requires.byte, l2.widths 0))

pub with_bit-requires-3-clause-node : goal.with_bit-requires-3-clause-node
with_bit-requires-3-clause-node c =
    let l1 = later_leaves c.args.w c.args.sheet.now c.node.new.sheet (flag_leaf c.args.over) c.requires.leaves c.node.ensures.longer c.node.ensures.kept in
    let l2 = later_leaves c.args.w c.node.new.sheet c.with_bit.new.sheet (flag_leaf c.args.over) l1 c.with_bit.ensures.longer c.with_bit.ensures.kept in
    let l3 = later_leaves c.args.w c.with_bit.new.sheet c.with_bit-2.new.sheet (flag_leaf c.args.over) l2 c.with_bit-2.ensures.longer c.with_bit-2.ensures.kept in
    (l3.inside 0, omega (arith, c.requires.byte, l3.widths 0))

pub with_bit-requires-4-clause-node : goal.with_bit-requires-4-clause-node
with_bit-requires-4-clause-node c =
    let l1 = later_leaves c.args.w c.args.sheet.now c.node.new.sheet (flag_leaf c.args.over) c.requires.leaves c.node.ensures.longer c.node.ensures.kept in
    let l2 = later_leaves c.args.w c.node.new.sheet c.with_bit.new.sheet (flag_leaf c.args.over) l1 c.with_bit.ensures.longer c.with_bit.ensures.kept in
    let l3 = later_leaves c.args.w c.with_bit.new.sheet c.with_bit-2.new.sheet (flag_leaf c.args.over) l2 c.with_bit-2.ensures.longer c.with_bit-2.ensures.kept in
    let l4 = later_leaves c.args.w c.with_bit-2.new.sheet c.with_bit-3.new.sheet (flag_leaf c.args.over) l3 c.with_bit-3.ensures.longer c.with_bit-3.ensures.kept in
    (l4.inside 0, omega (arith, c.requires.byte, l4.widths 0))

pub with_bit-requires-5-clause-node : goal.with_bit-requires-5-clause-node
with_bit-requires-5-clause-node c =
    let l1 = later_leaves c.args.w c.args.sheet.now c.node.new.sheet (flag_leaf c.args.over) c.requires.leaves c.node.ensures.longer c.node.ensures.kept in
    let l2 = later_leaves c.args.w c.node.new.sheet c.with_bit.new.sheet (flag_leaf c.args.over) l1 c.with_bit.ensures.longer c.with_bit.ensures.kept in
    let l3 = later_leaves c.args.w c.with_bit.new.sheet c.with_bit-2.new.sheet (flag_leaf c.args.over) l2 c.with_bit-2.ensures.longer c.with_bit-2.ensures.kept in
    let l4 = later_leaves c.args.w c.with_bit-2.new.sheet c.with_bit-3.new.sheet (flag_leaf c.args.over) l3 c.with_bit-3.ensures.longer c.with_bit-3.ensures.kept in
    let l5 = later_leaves c.args.w c.with_bit-3.new.sheet c.with_bit-4.new.sheet (flag_leaf c.args.over) l4 c.with_bit-4.ensures.longer c.with_bit-4.ensures.kept in
    (l5.inside 0, omega (arith, c.requires.byte, l5.widths 0))

pub with_bit-requires-6-clause-node : goal.with_bit-requires-6-clause-node
with_bit-requires-6-clause-node c =
    let l1 = later_leaves c.args.w c.args.sheet.now c.node.new.sheet (flag_leaf c.args.over) c.requires.leaves c.node.ensures.longer c.node.ensures.kept in
    let l2 = later_leaves c.args.w c.node.new.sheet c.with_bit.new.sheet (flag_leaf c.args.over) l1 c.with_bit.ensures.longer c.with_bit.ensures.kept in
    let l3 = later_leaves c.args.w c.with_bit.new.sheet c.with_bit-2.new.sheet (flag_leaf c.args.over) l2 c.with_bit-2.ensures.longer c.with_bit-2.ensures.kept in
    let l4 = later_leaves c.args.w c.with_bit-2.new.sheet c.with_bit-3.new.sheet (flag_leaf c.args.over) l3 c.with_bit-3.ensures.longer c.with_bit-3.ensures.kept in
    let l5 = later_leaves c.args.w c.with_bit-3.new.sheet c.with_bit-4.new.sheet (flag_leaf c.args.over) l4 c.with_bit-4.ensures.longer c.with_bit-4.ensures.kept in
    let l6 = later_leaves c.args.w c.with_bit-4.new.sheet c.with_bit-5.new.sheet (flag_leaf c.args.over) l5 c.with_bit-5.ensures.longer c.with_bit-5.ensures.kept in
    (l6.inside 0, omega (arith, c.requires.byte, l6.widths 0))

pub with_bit-requires-7-clause-node : goal.with_bit-requires-7-clause-node
with_bit-requires-7-clause-node c =
    let l1 = later_leaves c.args.w c.args.sheet.now c.node.new.sheet (flag_leaf c.args.over) c.requires.leaves c.node.ensures.longer c.node.ensures.kept in
    let l2 = later_leaves c.args.w c.node.new.sheet c.with_bit.new.sheet (flag_leaf c.args.over) l1 c.with_bit.ensures.longer c.with_bit.ensures.kept in
    let l3 = later_leaves c.args.w c.with_bit.new.sheet c.with_bit-2.new.sheet (flag_leaf c.args.over) l2 c.with_bit-2.ensures.longer c.with_bit-2.ensures.kept in
    let l4 = later_leaves c.args.w c.with_bit-2.new.sheet c.with_bit-3.new.sheet (flag_leaf c.args.over) l3 c.with_bit-3.ensures.longer c.with_bit-3.ensures.kept in
    let l5 = later_leaves c.args.w c.with_bit-3.new.sheet c.with_bit-4.new.sheet (flag_leaf c.args.over) l4 c.with_bit-4.ensures.longer c.with_bit-4.ensures.kept in
    let l6 = later_leaves c.args.w c.with_bit-4.new.sheet c.with_bit-5.new.sheet (flag_leaf c.args.over) l5 c.with_bit-5.ensures.longer c.with_bit-5.ensures.kept in
    let l7 = later_leaves c.args.w c.with_bit-5.new.sheet c.with_bit-6.new.sheet (flag_leaf c.args.over) l6 c.with_bit-6.ensures.longer c.with_bit-6.ensures.kept in
    (l7.inside 0, omega (arith, c.requires.byte, l7.widths 0))

pub returns-in_err-p7-clause-extends : goal.returns-in_err-p7-clause-extends
returns-in_err-p7-clause-extends c =
    let e1 = c.node.ensures.extends in
    let e2 = extends_through c.args.sheet.now c.node.new.sheet c.with_bit.new.sheet e1 c.with_bit.ensures.extends in
    let e3 = extends_through c.args.sheet.now c.with_bit.new.sheet c.with_bit-2.new.sheet e2 c.with_bit-2.ensures.extends in
    let e4 = extends_through c.args.sheet.now c.with_bit-2.new.sheet c.with_bit-3.new.sheet e3 c.with_bit-3.ensures.extends in
    let e5 = extends_through c.args.sheet.now c.with_bit-3.new.sheet c.with_bit-4.new.sheet e4 c.with_bit-4.ensures.extends in
    let e6 = extends_through c.args.sheet.now c.with_bit-4.new.sheet c.with_bit-5.new.sheet e5 c.with_bit-5.ensures.extends in
    let e7 = extends_through c.args.sheet.now c.with_bit-5.new.sheet c.with_bit-6.new.sheet e6 c.with_bit-6.ensures.extends in
    extends_through c.args.sheet.now c.with_bit-6.new.sheet c.with_bit-7.new.sheet e7 c.with_bit-7.ensures.extends

pub returns-clause-extends : goal.returns-clause-extends
returns-clause-extends c =
    let e1 = c.node.ensures.extends in
    let e2 = extends_through c.args.sheet.now c.node.new.sheet c.with_bit.new.sheet e1 c.with_bit.ensures.extends in
    let e3 = extends_through c.args.sheet.now c.with_bit.new.sheet c.with_bit-2.new.sheet e2 c.with_bit-2.ensures.extends in
    let e4 = extends_through c.args.sheet.now c.with_bit-2.new.sheet c.with_bit-3.new.sheet e3 c.with_bit-3.ensures.extends in
    let e5 = extends_through c.args.sheet.now c.with_bit-3.new.sheet c.with_bit-4.new.sheet e4 c.with_bit-4.ensures.extends in
    let e6 = extends_through c.args.sheet.now c.with_bit-4.new.sheet c.with_bit-5.new.sheet e5 c.with_bit-5.ensures.extends in
    let e7 = extends_through c.args.sheet.now c.with_bit-5.new.sheet c.with_bit-6.new.sheet e6 c.with_bit-6.ensures.extends in
    let e8 = extends_through c.args.sheet.now c.with_bit-6.new.sheet c.with_bit-7.new.sheet e7 c.with_bit-7.ensures.extends in
    extends_through c.args.sheet.now c.with_bit-7.new.sheet c.node-2.new.sheet e8 c.node-2.ensures.extends
