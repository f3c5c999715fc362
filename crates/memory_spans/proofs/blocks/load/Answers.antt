use Rattle.std.proofs.Common.{◌∙◌, ◌-◌, ◌++◌, ℕ, List, ap, slice_index}
use Rattle.std.specs.Prelude.{replicate}
use Rattle.memory_spans.specs.Memory.{vector_from}
use Rattle.memory_spans.proofs.VectorBlocks.{vector_within}
use Rattle.memory_spans.proofs.WordsInSpans.{has_as_read, same_span}
use Rattle.memory_spans.proofs.blocks.load.Goals as goal

pub returns-in-Some : goal.returns-in-Some
returns-in-Some c =
    let w = c.in-Some.ensures.some in
    let span = c.index-spans-i.result in
    let read = has_as_read c.args.spans.now c.in-Some.i c.args.at c.args.n w span (same_span c.args.spans.now c.in-Some.i c.args.at c.args.n w span c.index-spans-i.is) in
    c.load_in.ensures
    ∙ ap (λ (bytes : List ℕ). vector_from (slice_index bytes) (c.args.at - span.at) c.args.n) c.deref.ensures.value
    ∙ ap (λ (bytes : List ℕ). bytes ++ replicate (32 - c.args.n) 0) (vector_within c.args.spans.now c.in-Some.i c.args.at c.args.n span c.requires.ordered read.0 read.1 read.2)
