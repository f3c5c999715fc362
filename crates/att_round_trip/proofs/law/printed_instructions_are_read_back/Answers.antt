use Rattle.att_round_trip.proofs.Texts.{read-back}
use Rattle.att_round_trip.proofs.law.printed_instructions_are_read_back.Goals as goal

pub returns : goal.returns
returns c = λ text name f k i h there none. read-back text name f k i h there none
