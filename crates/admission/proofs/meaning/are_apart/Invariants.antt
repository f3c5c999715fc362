use Rattle.std.proofs.Common.{◌≡◌, drop}
use Rattle.std.specs.List.{list_all}
use Rattle.admission.specs.Admitted.{regions_of}
use Rattle.admission.specs.Tests.{is_pair_apart}
use Rattle.admission.proofs.meaning.are_apart.Given as goal

abbrev pub invariant-loop-pair : goal.invariant-loop-pair
invariant-loop-pair l =
    list_all (is_pair_apart (regions_of l.regs l.admission)) (drop l.pair-index l.admission.aparts)
    ≡ list_all (is_pair_apart (regions_of l.regs l.admission)) l.admission.aparts
