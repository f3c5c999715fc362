use Rattle.att_reader.proofs.TextLaws.{gives-function, gives-refusal}
use Rattle.att_reader.proofs.ClosedTexts.{reads-closed}
use Rattle.att_reader.proofs.text.read_function.Goals as goal

pub returns-clause-only : goal.returns-clause-only
returns-clause-only c = gives-function c.args.text.now c.args.name.now c.function_in.result c.function_in.ensures

pub returns-clause-refused : goal.returns-clause-refused
returns-clause-refused c = gives-refusal c.args.text.now c.args.name.now c.function_in.result c.function_in.ensures

pub returns-clause-closed : goal.returns-clause-closed
returns-clause-closed c = reads-closed c.args.text.now c.args.name.now c.function_in.result c.function_in.ensures
