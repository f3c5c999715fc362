use Rattle.std.proofs.Common.{codes, sym, ap, rules}
use Rattle.std.proofs.lemmas.Slice.Eq.{text_from_reads}
use Rattle.admission_text.specs.Reading.{keyword_of}
use Rattle.admission_text.proofs.line.keyword_of.Goals as goal

pub returns-in-region : goal.returns-in-region
unfolding keyword_of
returns-in-region c = sym (ap keyword_of (text_from_reads c.args.word.now (codes "region") (search rules) (search rules)))

pub returns-in-require : goal.returns-in-require
unfolding keyword_of
returns-in-require c = sym (ap keyword_of (text_from_reads c.args.word.now (codes "require") (search rules) (search rules)))

pub returns-in-scratch : goal.returns-in-scratch
unfolding keyword_of
returns-in-scratch c = sym (ap keyword_of (text_from_reads c.args.word.now (codes "scratch") (search rules) (search rules)))
