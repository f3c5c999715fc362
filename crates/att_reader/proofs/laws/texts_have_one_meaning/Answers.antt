use Rattle.att_reader.proofs.TextLaws.{text-some, text-once, text-differs, refused-once, refused-found}
use Rattle.att_reader.proofs.laws.texts_have_one_meaning.Goals as goal

pub returns : goal.returns
returns c = record { some = text-some; function = text-once; not_both = text-differs; refusal = refused-once; not_memory = refused-found }
