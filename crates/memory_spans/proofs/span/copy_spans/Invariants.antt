use Rattle.std.proofs.Common.{◌≡◌, take}
use Rattle.memory_spans.specs.Spans.{contents}
use Rattle.memory_spans.proofs.span.copy_spans.Given as goal

abbrev pub invariant-loop-span : goal.invariant-loop-span
invariant-loop-span l = contents l.copied.items ≡ contents (take l.span-index l.spans)
