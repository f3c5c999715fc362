use Rattle.std.proofs.Common.{refl}
use Rattle.memory_spans.proofs.WordsInSpans.{has_bytes_of}
use Rattle.memory_spans.proofs.words.span_with.Goals as goal

pub returns-then-has_bytes-clause-some : goal.returns-then-has_bytes-clause-some
returns-then-has_bytes-clause-some c =
    let there = c.if-has_bytes.ensures.0 refl in
    has_bytes_of c.args.spans.now c.loop-i.i c.args.at c.args.n c.index-spans-i.result c.loop-i-test.true c.index-spans-i.is there.0 there.1
