use Rattle.std.proofs.Common.{◌≡◌, drop}
use Rattle.serde_json.specs.View.{items_view}
use Rattle.tests_text.specs.Reading.{size_of}
use Rattle.tests_text.proofs.memory.size_of.Given as goal

abbrev pub invariant-loop-piece : goal.invariant-loop-piece
invariant-loop-piece l = size_of l.size (items_view (drop l.piece-index l.pieces)) ≡ size_of 0 (items_view l.pieces)
