use Rattle.std.proofs.Common.{◌-◌, length}
use Rattle.text_lines.specs.Bytes.{is_name_byte}
use Rattle.text_lines.proofs.Prefixes.{IsCutAt}
use Rattle.att_statements.proofs.memory.split_name.Given as goal

abbrev pub invariant-loop-end : goal.invariant-loop-end
invariant-loop-end l = IsCutAt is_name_byte l.text l.end

abbrev pub decreases-loop-end : goal.decreases-loop-end
decreases-loop-end l = length l.text - l.end
