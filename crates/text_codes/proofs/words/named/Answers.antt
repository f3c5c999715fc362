use Rattle.std.proofs.Common.{map, arith}
use Rattle.text_codes.proofs.NameReading.{no_further}
use Rattle.text_codes.proofs.words.named.Goals as goal

pub loop-left-init : goal.loop-left-init
loop-left-init c = (no_further 0 (map (λ name. name.now) c.args.names.now) c.args.text.now, omega arith, omega arith)
