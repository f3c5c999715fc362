use Rattle.std.proofs.Common.{◌≡◌, length, map}
use Rattle.insn_spellings.specs.Rows.{named}
use Rattle.insn_spellings.proofs.finding.find.Given as goal

-- what is left answers as all do
abbrev pub invariant-loop-rest : goal.invariant-loop-rest
invariant-loop-rest l =
    named (map (λ row. (row.0.now, record { op = row.1; w = row.2; vex = l.vex })) l.rest) l.mnemonic
    ≡ named (map (λ row. (row.0.now, record { op = row.1; w = row.2; vex = l.vex })) l.rows) l.mnemonic

abbrev pub decreases-loop-rest : goal.decreases-loop-rest
decreases-loop-rest l = length l.rest
