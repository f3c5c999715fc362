use Rattle.std.proofs.Common.{map, string_bytes}
use Rattle.command_line.proofs.Values.{run-has, run-is}
use Rattle.command_line.proofs.parser.run_of.Goals as goal

pub word_of-requires : goal.word_of-requires
word_of-requires c = (run-has c.in-Ok.matches (map string_bytes c.args.words.now) c.requires.0 c.requires.1 (c.in-Ok.ensures.ok c.requires.0 c.requires.1)).0

pub word_of-requires-2 : goal.word_of-requires-2
word_of-requires-2 c = (run-has c.in-Ok.matches (map string_bytes c.args.words.now) c.requires.0 c.requires.1 (c.in-Ok.ensures.ok c.requires.0 c.requires.1)).1

pub word_of-requires-3 : goal.word_of-requires-3
word_of-requires-3 c = (run-has c.in-Ok.matches (map string_bytes c.args.words.now) c.requires.0 c.requires.1 (c.in-Ok.ensures.ok c.requires.0 c.requires.1)).2

pub word_of-requires-4 : goal.word_of-requires-4
word_of-requires-4 c = (run-has c.in-Ok.matches (map string_bytes c.args.words.now) c.requires.0 c.requires.1 (c.in-Ok.ensures.ok c.requires.0 c.requires.1)).3

pub steps_of-requires : goal.steps_of-requires
steps_of-requires c = (run-has c.in-Ok.matches (map string_bytes c.args.words.now) c.requires.0 c.requires.1 (c.in-Ok.ensures.ok c.requires.0 c.requires.1)).4

pub returns : goal.returns
returns c = λ d are.
    run-is c.in-Ok.matches (map string_bytes c.args.words.now) d c.in_ok-word_of.field-0 c.in_ok-word_of-2.field-0 c.in_ok-admission.admission c.in_ok-tests.tests c.steps_of.result
    are (c.in-Ok.ensures.ok d are) c.in_ok-word_of.ensures c.in_ok-word_of-2.ensures c.in_ok-admission.ensures c.in_ok-tests.ensures c.steps_of.ensures
