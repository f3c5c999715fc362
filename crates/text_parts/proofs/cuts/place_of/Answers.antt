use Rattle.std.proofs.lemmas.List.{take_rest}
use Rattle.memchr.specs.Find.{is_byte}
use Rattle.text_parts.proofs.Searching.{found_in_rest, none_in_rest}
use Rattle.text_parts.proofs.cuts.place_of.Goals as goal

pub returns-in-Some : goal.returns-in-Some
returns-in-Some c =
    let text = c.args.text.now in
    found_in_rest (is_byte c.args.byte) text c.loop-near.near _ (take_rest text c.loop-near.near) c.loop-near.invariant.1 c.in-Some.place c.in-Some.ensures

pub returns-in-None : goal.returns-in-None
returns-in-None c =
    let text = c.args.text.now in
    none_in_rest (is_byte c.args.byte) text c.loop-near.near _ (take_rest text c.loop-near.near) c.loop-near.invariant.0 c.loop-near.invariant.1 c.in-None.ensures
