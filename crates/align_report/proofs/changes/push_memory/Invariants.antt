use Rattle.std.proofs.Common.{◌≡◌, ◌++◌, string_bytes}
use Rattle.machine.specs.Kept.{pure_of}
use Rattle.memory_spans.specs.Memory.{bytes_at}
use Rattle.text_parts.specs.Bytes.{bytes_text}
use Rattle.align_report.proofs.changes.push_memory.Given as goal

abbrev pub invariant-loop-k : goal.invariant-loop-k
invariant-loop-k l = string_bytes l.out ≡ string_bytes l.initial.out ++ bytes_text (bytes_at (pure_of l.state).memory l.at l.k)
