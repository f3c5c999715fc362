use Rattle.tests_text.proofs.TestFaults.{text-some, text-once, text-differs, refused-once, refused-found}
use Rattle.tests_text.proofs.laws.tests_have_one_meaning.Goals as goal

pub returns : goal.returns
returns c = record { some = text-some; tests = text-once; not_both = text-differs; refusal = refused-once; not_memory = refused-found }
