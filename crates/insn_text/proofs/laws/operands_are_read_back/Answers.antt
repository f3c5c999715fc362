use Rattle.insn_text.proofs.ReadBack.{number-read, plain-read}
use Rattle.insn_text.proofs.laws.operands_are_read_back.Goals as goal

pub returns : goal.returns
returns c = record { plain = λ w text operand h. plain-read w text operand h; number = λ w v lt. number-read w v lt }
