use Rattle.sym_rows.proofs.Widths.{small_word}
use Rattle.sym_general.proofs.rows.constant_or.Goals as goal

pub build-requires : goal.build-requires
build-requires c =
    let small = rw c.in-Some.is at c.requires.small in
    (c.requires.some, c.requires.word, small_word _ _ c.requires.some small)
