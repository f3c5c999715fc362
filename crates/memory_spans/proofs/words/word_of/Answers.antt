use Rattle.std.proofs.Common.{◌∙◌, ap, ◌-◌, List, ℕ}
use Rattle.std.proofs.Common.{slice_index}
use Rattle.memory_spans.specs.Memory.{word_at}
use Rattle.memory_spans.proofs.WordsInSpans.{has_as_read, same_span, word_within}
use Rattle.memory_spans.proofs.words.word_of.Goals as goal

pub returns-in-Some-clause-value : goal.returns-in-Some-clause-value
returns-in-Some-clause-value c =
    let w = c.in-Some.ensures.some in
    let span = c.index-spans-i.result in
    let read = has_as_read c.args.spans.now c.in-Some.i c.args.at c.args.n w span (same_span c.args.spans.now c.in-Some.i c.args.at c.args.n w span c.index-spans-i.is) in
    c.word_in.ensures.value
    ∙ ap (λ (bytes : List ℕ). word_at (slice_index bytes) (c.args.at - span.at) c.args.n) c.deref.ensures.value
    ∙ word_within c.args.spans.now c.in-Some.i c.args.at c.args.n span c.requires.ordered read.0 read.1 read.2
