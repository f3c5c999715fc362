use Rattle.std.proofs.Common.{◌∙◌}
use Rattle.memory_spans.proofs.Ordering.{ordered_by_places, spanned_by_places}
use Rattle.memory_spans.proofs.blocks.store_bytes.Goals as goal

pub put_byte-requires-clause-ordered : goal.put_byte-requires-clause-ordered
put_byte-requires-clause-ordered c = ordered_by_places 0 c.args.spans.now.items c.loop-k.spans.items c.loop-k.invariant.1 c.requires.ordered

pub put_byte-requires-clause-spanned : goal.put_byte-requires-clause-spanned
put_byte-requires-clause-spanned c =
    spanned_by_places c.args.spans.now.items c.loop-k.spans.items _ c.loop-k.invariant.1 ∙ c.requires.spanned c.loop-k.k c.loop-k-test.true
