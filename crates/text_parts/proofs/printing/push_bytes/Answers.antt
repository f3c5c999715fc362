use Rattle.std.proofs.Common.{string_bytes, arith}
use Rattle.text_parts.proofs.ByteTexts.{bytes_more}
use Rattle.text_parts.proofs.printing.push_bytes.Goals as goal

pub loop-byte-preserved : goal.loop-byte-preserved
loop-byte-preserved c = bytes_more (string_bytes c.args.out.now) (string_bytes c.loop-byte.out) _ c.args.bytes.now c.loop-byte.byte-index 0 (omega arith)
    c.loop-byte.invariant c.in_ok-push_byte.ensures
