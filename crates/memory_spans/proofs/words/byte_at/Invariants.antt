use Rattle.std.proofs.Common.{◌≡◌, drop}
use Rattle.memory_spans.specs.Spans.{byte_of}
use Rattle.memory_spans.proofs.words.byte_at.Given as goal

abbrev pub invariant-loop-span : goal.invariant-loop-span
invariant-loop-span l = byte_of (drop l.span-index l.spans) l.at ≡ byte_of l.spans l.at
