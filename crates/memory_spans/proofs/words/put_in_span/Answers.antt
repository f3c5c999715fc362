use Rattle.std.proofs.Common.{refl}
use Rattle.memory_spans.specs.declared.span.Span.{Span}
use Rattle.memory_spans.proofs.Ordering.{places_written}
use Rattle.memory_spans.proofs.WordsInSpans.{has_as_read, same_span, span_written}
use Rattle.memory_spans.proofs.words.put_in_span.Goals as goal

pub returns-clause-bytes : goal.returns-clause-bytes
returns-clause-bytes c =
    let spans = c.args.spans.now.items in
    let w = c.requires.within in
    let span = c.index_mut-span.result.now in
    let new : Span = record { at = span.at; bytes = c.put_in.new.bytes } in
    let read = has_as_read spans c.args.i c.args.at c.args.n w span (same_span spans c.args.i c.args.at c.args.n w span c.index_mut-span.ensures.value) in
    λ x small. span_written spans c.args.i c.args.at c.args.n c.args.word span new x c.requires.ordered read.0 read.1 read.2 refl c.put_in.ensures.length c.put_in.ensures.bytes small

pub returns-clause-places : goal.returns-clause-places
returns-clause-places c =
    let spans = c.args.spans.now.items in
    let w = c.requires.within in
    let span = c.index_mut-span.result.now in
    let new : Span = record { at = span.at; bytes = c.put_in.new.bytes } in
    let read = has_as_read spans c.args.i c.args.at c.args.n w span (same_span spans c.args.i c.args.at c.args.n w span c.index_mut-span.ensures.value) in
    places_written spans c.args.i span new read.0 refl c.put_in.ensures.length
