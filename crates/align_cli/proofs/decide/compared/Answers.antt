use Rattle.align_base.specs.declared.status.Status.TheVariants as status
use Rattle.align_cli.specs.Inside.{Compares}
use Rattle.align_cli.proofs.Reaching.{answer-as}
use Rattle.align_cli.proofs.decide.compared.Goals as goal

pub returns-in_ok-equivalent_text-in-Equivalent : goal.returns-in_ok-equivalent_text-in-Equivalent
returns-in_ok-equivalent_text-in-Equivalent c =
    answer-as (λ s report. Compares s c.args.left.now.insns c.args.right.now.insns report) status.Good _ _ _ c.new.ensures.status c.new.ensures.report (
      c.requires.left_plain,
      c.requires.right_plain,
      record {
        bound = _;
        equivalent = rw (c.as_slice.ensures, c.as_slice-2.ensures) at c.in-Equivalent.ensures;
        report_is = c.in_ok-equivalent_text-in-Equivalent.ensures;
      },
    )

pub returns-in_ok-different_text-in-Different : goal.returns-in_ok-different_text-in-Different
returns-in_ok-different_text-in-Different c =
    let found = rw (c.as_slice.ensures, c.as_slice-2.ensures) at c.in-Different.ensures in
    answer-as (λ s report. Compares s c.args.left.now.insns c.args.right.now.insns report) status.Negative _ _ _ c.new-in-Different.ensures.status c.new-in-Different.ensures.report (
      c.requires.left_plain,
      c.requires.right_plain,
      record {
        regs = _;
        left_value = _;
        right_value = _;
        different = found.different;
        report_is = rw (found.left_steps, found.right_steps) at c.in_ok-different_text-in-Different.ensures;
      },
    )
