use Rattle.memory_spans.proofs.MemoryWords.{number_of_low_bytes, read_back, written_past}
use Rattle.memory_spans.proofs.laws.memory_law.Goals as goal

pub returns : goal.returns
returns c = record { read_back = read_back; others = written_past; number = number_of_low_bytes }
