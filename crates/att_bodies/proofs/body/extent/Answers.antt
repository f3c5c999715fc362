use Rattle.std.proofs.Common.{rules, arith, ◌≡◌, ◌<◌, ℕ, List, [], ◌∷◌, length, map, Some, None}
use Rattle.text_lines.specs.Lines.{Item}
use Rattle.text_lines.specs.declared.items.Item.{Item as KeptItem}
use Rattle.text_lines.specs.Views.{seen}
use Rattle.att_bodies.specs.Reading.{extent_of}
use Rattle.att_bodies.proofs.Extents.{extent-found, extent-none}
use Rattle.att_bodies.proofs.body.extent.Goals as goal

pub returns-then-is_label-clause-found : goal.returns-then-is_label-clause-found
unfolding extent_of
returns-then-is_label-clause-found c =
    let name = c.args.name.now in
    let items = map seen c.args.items.now in
    let body = map seen c.body_split.result.0.now in
    let after = map seen c.body_split.result.1.now in
    let is : Some (body, after) ≡ extent_of name items = search rules in
    extent-found name items body after is

none-left : (name : List ℕ) (items : List Item) (rest : List KeptItem) → length rest < 1 → extent_of name (map seen rest) ≡ extent_of name items → None ≡ extent_of name items
unfolding extent_of
none-left name items [] few same = same
none-left name items (r ∷ rs) few same = absurd (omega arith)

pub returns-clause-none : goal.returns-clause-none
returns-clause-none c =
    let name = c.args.name.now in
    let items = map seen c.args.items.now in
    extent-none name items (none-left name items c.loop-rest.rest.now c.in_default.len_below c.loop-rest.invariant)
