use Rattle.std.proofs.Common.{◌≡◌, Some, ap, is_some, decimal}
use Rattle.std.specs.Str.Parse.{ExplainsUnsignedError, HasUnsignedDigitsIfOk, ParsesUnsigned}
use Rattle.command_line.proofs.Pushing.{read-number}
use Rattle.command_line.proofs.parser.steps_of.Goals as goal

pub unwrap-requires : goal.unwrap-requires
unwrap-requires c =
    let n = c.requires.0 in
    let found : c.get_one.result ≡ Some n =
    read-number (λ bs r. ParsesUnsigned 64 10 bs r × ExplainsUnsignedError 10 bs r × HasUnsignedDigitsIfOk bs r) n c.get_one.result
    (c.get_one.ensures.value (decimal n) c.requires.1) (λ u x g. g.0) c.requires.2 in
    ap is_some found

pub returns : goal.returns
returns c = λ n text small.
    let found : c.get_one.result ≡ Some n =
    read-number (λ bs r. ParsesUnsigned 64 10 bs r × ExplainsUnsignedError 10 bs r × HasUnsignedDigitsIfOk bs r) n c.get_one.result
    (c.get_one.ensures.value (decimal n) text) (λ u x g. g.0) small in
    let e = c.unwrap.ensures in cc
