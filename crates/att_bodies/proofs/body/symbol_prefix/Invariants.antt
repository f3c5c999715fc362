use Rattle.std.proofs.Common.{◌-◌, length}
use Rattle.text_lines.proofs.Prefixes.{IsCutAt}
use Rattle.att_bodies.specs.Body.{is_symbol_byte}
use Rattle.att_bodies.proofs.body.symbol_prefix.Given as goal

abbrev pub invariant-loop-end : goal.invariant-loop-end
invariant-loop-end l = IsCutAt is_symbol_byte l.text l.end

abbrev pub decreases-loop-end : goal.decreases-loop-end
decreases-loop-end l = length l.text - l.end
