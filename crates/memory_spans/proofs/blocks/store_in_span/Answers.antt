use Rattle.std.proofs.Common.{refl, length}
use Rattle.memory_spans.specs.declared.span.Span.{Span}
use Rattle.memory_spans.proofs.Ordering.{places_written}
use Rattle.memory_spans.proofs.VectorBlocks.{bytes_stored}
use Rattle.memory_spans.proofs.WordsInSpans.{has_as_read, same_span}
use Rattle.memory_spans.proofs.blocks.store_in_span.Goals as goal

pub returns-clause-bytes : goal.returns-clause-bytes
returns-clause-bytes c =
    let spans = c.args.spans.now.items in
    let n = length c.args.bytes.now in
    let w = c.requires.within in
    let span = c.index_mut-span.result.now in
    let new : Span = record { at = span.at; bytes = c.store_in.new.list } in
    let read = has_as_read spans c.args.i c.args.at n w span (same_span spans c.args.i c.args.at n w span c.index_mut-span.ensures.value) in
    λ x small. bytes_stored spans c.args.i c.args.at c.args.bytes.now span new x c.requires.ordered read.0 read.1 read.2 refl c.store_in.ensures.length c.store_in.ensures.bytes small

pub returns-clause-places : goal.returns-clause-places
returns-clause-places c =
    let spans = c.args.spans.now.items in
    let n = length c.args.bytes.now in
    let w = c.requires.within in
    let span = c.index_mut-span.result.now in
    let new : Span = record { at = span.at; bytes = c.store_in.new.list } in
    let read = has_as_read spans c.args.i c.args.at n w span (same_span spans c.args.i c.args.at n w span c.index_mut-span.ensures.value) in
    places_written spans c.args.i span new read.0 refl c.store_in.ensures.length
