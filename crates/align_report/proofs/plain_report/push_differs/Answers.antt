use Rattle.std.proofs.Common.{codes}
use Rattle.align_report.proofs.RegisterLines.{five_pieces}
use Rattle.align_report.specs.PlainReport.{differs_line}
use Rattle.text_parts.specs.Numbers.{value_text}
use Rattle.align_report.proofs.plain_report.push_differs.Goals as goal

pub returns : goal.returns
unfolding differs_line
returns c =
    five_pieces _ (codes "differs %rax ") (value_text c.args.left) (codes " ") (value_text c.args.right) (codes "\n") _ _ _ _ _
    c.in_ok-push_str.ensures.bytes c.in_ok-push_value.ensures c.in_ok-push_str-2.ensures.bytes c.in_ok-push_value-2.ensures c.in_ok-push_str-3.ensures.bytes
