use Rattle.std.proofs.Common.{◌≡◌, ◌++◌, take}
use Rattle.clause_gates.specs.NormalForms.{normal_clauses}
use Rattle.clause_gates.proofs.list.ClauseList.push_each.Given as goal

abbrev pub invariant-loop-lits : goal.invariant-loop-lits
invariant-loop-lits g l = l.self ≡ l.initial.self ++ normal_clauses (take l.lits-index l.rows)
