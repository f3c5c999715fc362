use Rattle.std.proofs.Common.{◌≡◌, [], drop}
use Rattle.insn_table.specs.Building.{insns_made}
use Rattle.insn_table.proofs.builder.assemble_function.Given as goal

-- what is pushed so far and what is left make what all do
abbrev pub invariant-loop-statement : goal.invariant-loop-statement
invariant-loop-statement l = insns_made l.builder (drop l.statement-index l.statements) ≡ insns_made [] l.statements
