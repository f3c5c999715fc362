use Rattle.clause_words.proofs.Sums.{difference_law, sum_law}
use Rattle.clause_words.proofs.laws.sums_and_differences.Goals as goal

pub returns : goal.returns
returns c = record { sum = sum_law; difference = difference_law }
