-- How contracts see the items that the code keeps.
use Rattle.text_lines.specs.Lines.{Item, Label, Statement}
use Rattle.text_lines.specs.declared.items.Item.{Item as KeptItem}
use Rattle.text_lines.specs.declared.items.Item.TheVariants as kept

-- an item that the code keeps, by the bytes that it points to
abbrev pub seen : KeptItem → Item
seen (kept.Label name line) = Label name.now line
seen (kept.Statement text line) = Statement text.now line
