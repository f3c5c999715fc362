use Rattle.std.proofs.Common.{ap, ◌∙◌, is_some}
use Rattle.tests_text.proofs.Named.{numbered_among}
use Rattle.tests_text.proofs.shape.is_register.Goals as goal

pub returns : goal.returns
returns c = c.is_some.ensures ∙ ap is_some c.register_number.ensures ∙ numbered_among 64 c.args.name.now
