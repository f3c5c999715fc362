use Rattle.std.proofs.Common.{◌≡◌, drop}
use Rattle.memory_spans.specs.Spans.{is_spanned}
use Rattle.memory_spans.proofs.words.span_with.Given as goal

abbrev pub invariant-loop-i : goal.invariant-loop-i
invariant-loop-i l = l.n ≡ 1 → is_spanned (drop l.i l.spans) l.at ≡ is_spanned l.spans l.at
