use Rattle.std.proofs.Common.{rules}
use Rattle.plain_functions.proofs.Verdicts.{sums_agree, sums_differ}
use Rattle.plain_functions.proofs.verdict.compare.Goals as goal

pub returns-in-None : goal.returns-in-None
returns-in-None c =
    sums_agree _ _ c.rax_sum-left_sum.result c.rax_sum-right_sum.result _ c.requires.left_plain c.requires.right_plain
    c.rax_sum-left_sum.ensures c.rax_sum-right_sum.ensures c.in-None.ensures.none (search rules) c.requires.left_few c.requires.right_few

pub returns-in-Some : goal.returns-in-Some
returns-in-Some c = record {
  left_steps = search rules;
  right_steps = search rules;
  different =
      sums_differ _ _ c.rax_sum-left_sum.result c.rax_sum-right_sum.result c.in-Some.regs c.value.result c.value-in-Some.result c.requires.left_plain c.requires.right_plain
      c.rax_sum-left_sum.ensures c.rax_sum-right_sum.ensures c.in-Some.ensures.some c.value.ensures c.value-in-Some.ensures;
}
