use Rattle.std.proofs.Common.{map, string_bytes}
use Rattle.command_line.proofs.Values.{show-has, show-is}
use Rattle.command_line.proofs.parser.show_of.Goals as goal

pub word_of-requires : goal.word_of-requires
word_of-requires c = (show-has c.in-Ok.matches (map string_bytes c.args.words.now) c.requires.0 c.requires.1 (c.in-Ok.ensures.ok c.requires.0 c.requires.1)).0

pub word_of-requires-2 : goal.word_of-requires-2
word_of-requires-2 c = (show-has c.in-Ok.matches (map string_bytes c.args.words.now) c.requires.0 c.requires.1 (c.in-Ok.ensures.ok c.requires.0 c.requires.1)).1

pub returns : goal.returns
returns c = λ d are.
    show-is c.in-Ok.matches (map string_bytes c.args.words.now) d c.in_ok-word_of.field-0 c.in_ok-word_of-2.field-0
    are (c.in-Ok.ensures.ok d are) c.in_ok-word_of.ensures c.in_ok-word_of-2.ensures
