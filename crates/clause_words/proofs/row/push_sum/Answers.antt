use Rattle.std.proofs.Common.{◌<◌, arith}
use Rattle.clause_words.specs.Rows.{bit}
use Rattle.clause_words.proofs.Columns.{sum_later}
use Rattle.clause_words.proofs.row.push_sum.Goals as goal

pub returns-else-k-eq0 : goal.returns-else-k-eq0
returns-else-k-eq0 c =
    let later : 0 < c.args.k = omega (arith, c.if-k-eq0.false) in
    rw (sum_later c.args.w (bit c.args.r) (bit c.args.a) (bit c.args.b) (bit c.args.carry) c.args.k later)
    (rw (c.bit-sum.ensures, c.bit-first.ensures, c.bit-second.ensures, c.bit-into.ensures, c.bit-out.ensures) at c.push_next_sum.ensures)
