use Rattle.text_parts.proofs.NumberTexts.{decimal-known, decimal-only}
use Rattle.text_parts.proofs.Printed.{decimal-is, decimal-one}
use Rattle.text_parts.proofs.laws.decimals_are_canonical.Goals as goal

pub returns : goal.returns
returns c = record {
  written = λ n small. decimal-only _ n (decimal-is n small);
  one = λ text n small h. decimal-one text n small (decimal-known text n h);
}
