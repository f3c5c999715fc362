use Rattle.text_parts.proofs.NumberTexts.{amount-known, amount-only}
use Rattle.text_parts.proofs.Printed.{decimal-read, value-read}
use Rattle.text_parts.proofs.laws.numbers_are_read_back.Goals as goal

pub returns : goal.returns
returns c = record { known = amount-known; only = amount-only; decimal_back = decimal-read; value_back = value-read }
