use Rattle.admission_text.proofs.WholeTexts.{text-some, text-once, text-differs, refused-once, refused-found}
use Rattle.admission_text.proofs.laws.admissions_have_one_meaning.Goals as goal

pub returns : goal.returns
returns c = record { some = text-some; admission = text-once; not_both = text-differs; refusal = refused-once; not_memory = refused-found }
