use Rattle.std.proofs.Common.{◌≡◌}
use Rattle.clause_words.specs.Rows.{all_alike}
use Rattle.clause_words.proofs.row.push_all_alike.Given as goal

abbrev pub invariant-loop-k : goal.invariant-loop-k
invariant-loop-k l = l.lits.items ≡ all_alike l.k l.r l.alike
