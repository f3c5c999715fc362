use Rattle.std.proofs.Common.{sym, ◌∙◌, arith}
use Rattle.sym_rows.proofs.rows.built_row.Goals as goal

pub node-requires : goal.node-requires
node-requires c =
    let e = rw c.in-Add.is at c.requires.widths in
    (c.requires.inside 0, c.requires.inside 1, e.0 ∙ sym e.1.0)

pub node-requires-in-Sub : goal.node-requires-in-Sub
node-requires-in-Sub c =
    let e = rw c.in-Sub.is at c.requires.widths in
    (c.requires.inside 0, c.requires.inside 1, e.0 ∙ sym e.1.0)

pub node-requires-in-Cmp : goal.node-requires-in-Cmp
node-requires-in-Cmp c =
    let e = rw c.in-Cmp.is at c.requires.widths in
    (c.requires.inside 0, c.requires.inside 1, e.0 ∙ sym e.1.0)

pub node-requires-in-Test : goal.node-requires-in-Test
node-requires-in-Test c =
    let e = rw c.in-Test.is at c.requires.widths in
    (c.requires.inside 0, c.requires.inside 1, e.0 ∙ sym e.1.0)

pub node-requires-in-And : goal.node-requires-in-And
node-requires-in-And c =
    let e = rw c.in-And.is at c.requires.widths in
    (c.requires.inside 0, c.requires.inside 1, e.0 ∙ sym e.1.0)

pub node-requires-in-Or : goal.node-requires-in-Or
node-requires-in-Or c =
    let e = rw c.in-Or.is at c.requires.widths in
    (c.requires.inside 0, c.requires.inside 1, e.0 ∙ sym e.1.0)

pub node-requires-in-Xor : goal.node-requires-in-Xor
node-requires-in-Xor c =
    let e = rw c.in-Xor.is at c.requires.widths in
    (c.requires.inside 0, c.requires.inside 1, e.0 ∙ sym e.1.0)

pub node-requires-in-Imul : goal.node-requires-in-Imul
node-requires-in-Imul c =
    let e = rw c.in-Imul.is at c.requires.widths in
    (c.requires.inside 0, c.requires.inside 1, e.0 ∙ sym e.1.0)

pub node-requires-in-Inc : goal.node-requires-in-Inc
node-requires-in-Inc c =
    let e = rw c.in-Inc.is at c.requires.widths in
    (omega (arith, c.requires.inside 0, c.constant.ensures.longer), c.in_ok-one-in-Inc.ensures.inside, c.constant.ensures.kept _ (c.requires.inside 0) ∙ e.0 ∙ sym c.in_ok-one-in-Inc.ensures.width)

pub node-requires-in-Dec : goal.node-requires-in-Dec
node-requires-in-Dec c =
    let e = rw c.in-Dec.is at c.requires.widths in
    (omega (arith, c.requires.inside 0, c.constant-in-Dec.ensures.longer), c.in_ok-one-in-Dec.ensures.inside, c.constant-in-Dec.ensures.kept _ (c.requires.inside 0) ∙ e.0 ∙ sym c.in_ok-one-in-Dec.ensures.width)

pub node-requires-in-Neg : goal.node-requires-in-Neg
node-requires-in-Neg c =
    let e = rw c.in-Neg.is at c.requires.widths in
    (c.in_ok-zero-in-Neg.ensures.inside, omega (arith, c.requires.inside 0, c.constant-in-Neg.ensures.longer), c.in_ok-zero-in-Neg.ensures.width ∙ sym (c.constant-in-Neg.ensures.kept _ (c.requires.inside 0) ∙ e.0))

pub node-requires-in-Not : goal.node-requires-in-Not
node-requires-in-Not c = c.requires.inside 0

pub node-requires-in-Shl : goal.node-requires-in-Shl
node-requires-in-Shl c =
    let e = rw c.in-Shl.is at c.requires.widths in
    let h = rw c.in-Shl.is at c.requires.row in
    (c.requires.inside 0, h.0, omega (arith, h.1, e.0))

pub node-requires-in-Shr : goal.node-requires-in-Shr
node-requires-in-Shr c =
    let e = rw c.in-Shr.is at c.requires.widths in
    let h = rw c.in-Shr.is at c.requires.row in
    (c.requires.inside 0, h.0, omega (arith, h.1, e.0))

pub node-requires-in-Sar : goal.node-requires-in-Sar
node-requires-in-Sar c =
    let e = rw c.in-Sar.is at c.requires.widths in
    let h = rw c.in-Sar.is at c.requires.row in
    (c.requires.inside 0, h.0, omega (arith, h.1, e.0))

pub node-requires-in-Lea : goal.node-requires-in-Lea
node-requires-in-Lea c =
    let e = rw c.in-Lea.is at c.requires.widths in
    let h = rw c.in-Lea.is at c.requires.row in
    (c.requires.inside 1, h.0, omega (arith, h.1, e.0))

pub node-requires-in-Movzx : goal.node-requires-in-Movzx
node-requires-in-Movzx c =
    let e = rw c.in-Movzx.is at c.requires.widths in
    let h = rw c.in-Movzx.is at c.requires.row in
    let source = c.constant-in-Movzx.ensures.kept _ (c.requires.inside 1) ∙ e.0 in (
      c.in_ok-zeros-in-Movzx.ensures.inside,
      omega (arith, c.requires.inside 1, c.constant-in-Movzx.ensures.longer),
      omega (arith, h.1, h.2, source, c.in_ok-zeros-in-Movzx.ensures.width),
    )

pub node-requires-in-Movsx : goal.node-requires-in-Movsx
node-requires-in-Movsx c =
    let e = rw c.in-Movsx.is at c.requires.widths in
    let h = rw c.in-Movsx.is at c.requires.row in
    (c.requires.inside 1, omega (arith, h.1, e.0), h.2)

pub node-requires-in-Cltq : goal.node-requires-in-Cltq
node-requires-in-Cltq c =
    let e = rw c.in-Cltq.is at c.requires.widths in
    (c.requires.inside 1, omega (arith, e.0), omega arith)

pub node-requires-in-Cmov : goal.node-requires-in-Cmov
node-requires-in-Cmov c =
    let e = rw c.in-Cmov.is at c.requires.widths in
    (c.requires.inside 2, e.0, (c.requires.inside 1, c.requires.inside 0, e.1.0 ∙ sym e.1.1.0))

pub node-requires-in-Set : goal.node-requires-in-Set
node-requires-in-Set c =
    let e = rw c.in-Set.is at c.requires.widths in
    let bit = c.constant-in-Set.ensures.kept _ (c.requires.inside 2) ∙ e.0 in (
      c.in_ok-zeros-in-Set.ensures.inside,
      omega (arith, c.requires.inside 2, c.constant-in-Set.ensures.longer),
      omega (arith, bit, c.in_ok-zeros-in-Set.ensures.width),
    )
