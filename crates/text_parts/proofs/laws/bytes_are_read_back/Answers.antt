use Rattle.text_parts.proofs.ByteTexts.{hex-known, hex-only}
use Rattle.text_parts.proofs.Printed.{bytes-are}
use Rattle.text_parts.proofs.laws.bytes_are_read_back.Goals as goal

pub returns : goal.returns
returns c = record {
  back = λ bytes small. hex-only bytes _ (bytes-are bytes small);
  known = hex-known;
  only = λ text bytes are. hex-only bytes text are;
}
