use Rattle.std.proofs.Common.{◌≤◌, ◌^◌, arith}
use Rattle.std.proofs.lemmas.Nat.{or_lt, xor_lt, pow_below}
use Rattle.insn_semantics.specs.Rows.{AreWords, Widens}
use Rattle.insn_semantics.proofs.WordLaws.{power_grows}
use Rattle.scalar_ops.proofs.rows.scalar.Goals as goal

pub word_sub-requires-in-Dec-clause-subtrahend : goal.word_sub-requires-in-Dec-clause-subtrahend
word_sub-requires-in-Dec-clause-subtrahend c =
    let words : AreWords c.args.width c.args.a c.args.b = rw c.in-Dec.is at c.requires in
    pow_below 0 c.args.width words.0

pub returns-in-Or-clause-below : goal.returns-in-Or-clause-below
returns-in-Or-clause-below c =
    let words : AreWords c.args.width c.args.a c.args.b = rw c.in-Or.is at c.requires in
    or_lt c.args.width c.args.a c.args.b words.2 words.3

pub returns-in-Xor-clause-below : goal.returns-in-Xor-clause-below
returns-in-Xor-clause-below c =
    let words : AreWords c.args.width c.args.a c.args.b = rw c.in-Xor.is at c.requires in
    xor_lt c.args.width c.args.a c.args.b words.2 words.3

pub returns-in-Movzx-clause-below : goal.returns-in-Movzx-clause-below
returns-in-Movzx-clause-below c =
    let wide : Widens c.in-Movzx.field-0 c.args.width c.args.b = rw c.in-Movzx.is at c.requires in
    let grows : 2 ^ c.in-Movzx.field-0 ≤ 2 ^ c.args.width = power_grows c.in-Movzx.field-0 c.args.width (omega arith) in
    omega arith
