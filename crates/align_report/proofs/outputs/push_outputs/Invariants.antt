use Rattle.std.proofs.Common.{◌≡◌, ◌++◌, drop, string_bytes}
use Rattle.machine.specs.Kept.{pure_of}
use Rattle.align_report.specs.Outputs.{output_lines}
use Rattle.align_report.proofs.outputs.push_outputs.Given as goal

abbrev pub invariant-loop-output : goal.invariant-loop-output
invariant-loop-output l =
    string_bytes l.out ++ output_lines (pure_of l.state) (drop l.output-index l.live) ≡ string_bytes l.initial.out ++ output_lines (pure_of l.state) l.live
