use Rattle.std.proofs.Common.{◌≡◌, drop, map, slice_index}
use Rattle.std.specs.List.{list_all}
use Rattle.admission.specs.Admitted.{region_of}
use Rattle.admission.specs.Tests.{is_placed}
use Rattle.admission.proofs.meaning.are_placed.Given as goal

abbrev pub invariant-loop-line : goal.invariant-loop-line
invariant-loop-line l =
    list_all (is_placed (slice_index l.regs 4) l.stack) (map (region_of l.regs) (drop l.line-index l.regions))
    ≡ list_all (is_placed (slice_index l.regs 4) l.stack) (map (region_of l.regs) l.regions)
