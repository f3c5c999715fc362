use Rattle.sym_rows.proofs.Widths.{small_word}
use Rattle.sym_rows.proofs.building.constant.Goals as goal

pub node-requires : goal.node-requires
node-requires c = (c.requires.some, c.requires.word, small_word _ _ c.requires.some c.requires.bit)
