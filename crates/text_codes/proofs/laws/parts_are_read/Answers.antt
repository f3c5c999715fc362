use Rattle.text_codes.proofs.Combined.{word_reads}
use Rattle.text_codes.proofs.Ended.{signed_reads}
use Rattle.text_codes.proofs.NameReading.{names_read}
use Rattle.text_codes.proofs.NumberReading.{number_reads}
use Rattle.text_codes.proofs.laws.parts_are_read.Goals as goal

pub returns : goal.returns
returns c = record { words = word_reads; numbers = number_reads; signed = signed_reads; names = names_read }
