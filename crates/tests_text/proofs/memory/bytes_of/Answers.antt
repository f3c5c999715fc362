use Rattle.std.proofs.Common.{◌≤◌, ◌+◌, length, drop, arith}
use Rattle.serde_json.specs.View.{items_view, view}
use Rattle.tests_text.specs.Reading.{bytes_of}
use Rattle.tests_text.proofs.Filling.{bytes-end, bytes-more, bytes-stop, piece-ends, piece-hex, view-end, view-more}
use Rattle.tests_text.proofs.memory.bytes_of.Goals as goal

pub returns-in_default : goal.returns-in_default
returns-in_default c =
    let h = c.loop-piece in
    let xs = c.args.pieces.now in
    bytes-stop (bytes_of (items_view xs)) (items_view (drop h.piece-index xs)) (items_view (drop (h.piece-index + 1) xs)) (view c.piece-item.result) h.bytes h.invariant
    (view-more xs h.piece-index c.piece-item.result c.loop-piece-test.true c.piece-item.is) c.in_default.ensures

pub push_bytes-requires-clause-hex : goal.push_bytes-requires-clause-hex
push_bytes-requires-clause-hex c = piece-hex (view c.piece-item.result) c.in-Some.at c.in-Some.text.now c.in-Some.ensures

pub push_bytes-requires-clause-ends : goal.push_bytes-requires-clause-ends
push_bytes-requires-clause-ends c = piece-ends (view c.piece-item.result) c.in-Some.at c.in-Some.text.now c.in-Some.ensures

pub loop-piece-preserved : goal.loop-piece-preserved
loop-piece-preserved c =
    let h = c.loop-piece in
    let xs = c.args.pieces.now in
    bytes-more (bytes_of (items_view xs)) (items_view (drop h.piece-index xs)) (items_view (drop (h.piece-index + 1) xs)) (view c.piece-item.result)
    c.in-Some.at c.in-Some.text.now h.bytes c.push_bytes.new.bytes h.invariant (view-more xs h.piece-index c.piece-item.result c.loop-piece-test.true c.piece-item.is)
    c.in-Some.ensures c.in_ok-push_bytes.ensures

pub returns : goal.returns
returns c =
    let h = c.loop-piece in
    let xs = c.args.pieces.now in
    let over : length xs ≤ h.piece-index = omega arith in
    bytes-end (bytes_of (items_view xs)) (items_view (drop h.piece-index xs)) h.bytes h.invariant (view-end xs h.piece-index over)
