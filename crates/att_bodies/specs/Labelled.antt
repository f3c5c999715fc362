-- How contracts see the labels of a body: by the body's items.
use Rattle.std.specs.Prelude.{List, map}
use Rattle.text_lines.specs.Lines.{Item}
use Rattle.text_lines.specs.Views.{seen}
use Rattle.att_bodies.specs.declared.labels.BodyLabels.{BodyLabels}

-- the items of the body whose labels these are
abbrev pub labelled : BodyLabels → List Item
labelled labels = map seen labels.body.now
