use Rattle.register_names.proofs.NameTexts.{names_read, names_there}
use Rattle.register_names.proofs.laws.names_are_read.Goals as goal

pub returns-clause-read : goal.returns-clause-read
returns-clause-read c = names_read

pub returns-clause-there : goal.returns-clause-there
returns-clause-there c = names_there
