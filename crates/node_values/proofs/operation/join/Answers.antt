use Rattle.std.proofs.Common.{◌≡◌, ◌+◌, ◌*◌, ◌%◌, ◌^◌, ◌<◌, ◌≤◌, arith, ap}
use Rattle.std.proofs.Math.Nat.{mod-eq_of_lt}
use Rattle.insn_semantics.specs.Words as words
use Rattle.insn_semantics.proofs.WordLaws.{power_grows}
use Rattle.node_values.proofs.NodeLaws.{joined_below}
use Rattle.node_values.proofs.operation.join.Goals as goal

pub overflow_add-result : goal.overflow_add-result
overflow_add-result c =
    let below : words.concatenation c.args.n c.args.high c.args.low < 2 ^ (c.args.m + c.args.n) =
    joined_below c.args.m c.args.n c.args.high c.args.low c.requires.high c.requires.low in
    let most : 2 ^ (c.args.m + c.args.n) ≤ 2 ^ 64 = power_grows (c.args.m + c.args.n) 64 c.requires.widths.1 in
    let whole : c.args.high * 2 ^ c.args.n % 2 ^ 64 ≡ c.args.high * 2 ^ c.args.n = mod-eq_of_lt (omega arith) in
    omega arith

pub returns : goal.returns
returns c =
    let below : words.concatenation c.args.n c.args.high c.args.low < 2 ^ (c.args.m + c.args.n) =
    joined_below c.args.m c.args.n c.args.high c.args.low c.requires.high c.requires.low in
    let most : 2 ^ (c.args.m + c.args.n) ≤ 2 ^ 64 = power_grows (c.args.m + c.args.n) 64 c.requires.widths.1 in
    let whole : c.args.high * 2 ^ c.args.n % 2 ^ 64 ≡ c.args.high * 2 ^ c.args.n = mod-eq_of_lt (omega arith) in
    ap (λ n. n + c.args.low) whole
