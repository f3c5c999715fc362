use Rattle.std.proofs.Common.{map, string_bytes}
use Rattle.command_line.proofs.Values.{decide-has, decide-is}
use Rattle.command_line.proofs.parser.decide_of.Goals as goal

pub word_of-requires : goal.word_of-requires
word_of-requires c = (decide-has c.in-Ok.matches (map string_bytes c.args.words.now) c.requires.0 c.requires.1 (c.in-Ok.ensures.ok c.requires.0 c.requires.1)).0

pub word_of-requires-2 : goal.word_of-requires-2
word_of-requires-2 c = (decide-has c.in-Ok.matches (map string_bytes c.args.words.now) c.requires.0 c.requires.1 (c.in-Ok.ensures.ok c.requires.0 c.requires.1)).1

pub word_of-requires-3 : goal.word_of-requires-3
word_of-requires-3 c = (decide-has c.in-Ok.matches (map string_bytes c.args.words.now) c.requires.0 c.requires.1 (c.in-Ok.ensures.ok c.requires.0 c.requires.1)).2

pub word_of-requires-4 : goal.word_of-requires-4
word_of-requires-4 c = (decide-has c.in-Ok.matches (map string_bytes c.args.words.now) c.requires.0 c.requires.1 (c.in-Ok.ensures.ok c.requires.0 c.requires.1)).3

pub returns : goal.returns
returns c = λ d are.
    decide-is c.in-Ok.matches (map string_bytes c.args.words.now) d c.in_ok-word_of.field-0 c.in_ok-word_of-2.field-0 c.in_ok-word_of-3.field-0 c.in_ok-word_of-4.field-0
    are (c.in-Ok.ensures.ok d are) c.in_ok-word_of.ensures c.in_ok-word_of-2.ensures c.in_ok-word_of-3.ensures c.in_ok-word_of-4.ensures
