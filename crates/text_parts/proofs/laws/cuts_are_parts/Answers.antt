use Rattle.text_parts.proofs.CutTexts.{cuts_first}
use Rattle.text_parts.proofs.WordTexts.{cuts_parts}
use Rattle.text_parts.proofs.laws.cuts_are_parts.Goals as goal

pub returns-clause-first : goal.returns-clause-first
returns-clause-first c = cuts_first

pub returns-clause-parts : goal.returns-clause-parts
returns-clause-parts c = cuts_parts
