use Rattle.std.proofs.Common.{◌≡◌, drop}
use Rattle.serde_json.specs.View.{items_view}
use Rattle.tests_text.specs.Reading.{bytes_of}
use Rattle.tests_text.proofs.Collecting.{before_those}
use Rattle.tests_text.proofs.memory.bytes_of.Given as goal

-- the bytes so far, and those of the pieces that are left
abbrev pub invariant-loop-piece : goal.invariant-loop-piece
invariant-loop-piece l = bytes_of (items_view l.pieces) ≡ before_those l.bytes (bytes_of (items_view (drop l.piece-index l.pieces)))
