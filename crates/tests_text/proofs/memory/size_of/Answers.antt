use Rattle.std.proofs.Common.{◌≤◌, ◌+◌, length, drop, arith}
use Rattle.serde_json.specs.View.{items_view, view}
use Rattle.tests_text.specs.Reading.{size_of}
use Rattle.tests_text.proofs.Filling.{size-end, size-more, size-stop, view-end, view-more}
use Rattle.tests_text.proofs.memory.size_of.Goals as goal

pub returns-in_default : goal.returns-in_default
returns-in_default c =
    let h = c.loop-piece in
    let xs = c.args.pieces.now in
    size-stop (size_of 0 (items_view xs)) (items_view (drop h.piece-index xs)) (items_view (drop (h.piece-index + 1) xs)) (view c.piece-item.result) h.size h.invariant
    (view-more xs h.piece-index c.piece-item.result c.loop-piece-test.true c.piece-item.is) c.in_default.ensures

pub loop-piece-preserved : goal.loop-piece-preserved
loop-piece-preserved c =
    let h = c.loop-piece in
    let xs = c.args.pieces.now in
    size-more (size_of 0 (items_view xs)) (items_view (drop h.piece-index xs)) (items_view (drop (h.piece-index + 1) xs)) (view c.piece-item.result) h.size
    c.saturating_add-size.result c.in-Some._at c.in-Some.text.now h.invariant (view-more xs h.piece-index c.piece-item.result c.loop-piece-test.true c.piece-item.is)
    c.in-Some.ensures c.saturating_add-size.ensures

pub returns : goal.returns
returns c =
    let h = c.loop-piece in
    let xs = c.args.pieces.now in
    let over : length xs ≤ h.piece-index = omega arith in
    size-end (size_of 0 (items_view xs)) (items_view (drop h.piece-index xs)) h.size h.invariant (view-end xs h.piece-index over)
