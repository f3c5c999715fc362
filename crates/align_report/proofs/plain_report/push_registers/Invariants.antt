use Rattle.std.proofs.Common.{◌≡◌, ◌++◌, drop, string_bytes}
use Rattle.align_report.specs.PlainReport.{register_lines}
use Rattle.align_report.proofs.plain_report.push_registers.Given as goal

-- the lines so far and those that are left are all lines
abbrev pub invariant-loop-n : goal.invariant-loop-n
invariant-loop-n l = string_bytes l.out ++ register_lines l.n (drop l.n l.regs) ≡ string_bytes l.fn.out ++ register_lines 0 l.regs
