use Rattle.std.proofs.Common.{◌≡◌, ◌+◌, take}
use Rattle.std.specs.List.{sum_by}
use Rattle.memory_spans.specs.declared.region.Region.{Region}
use Rattle.test_states.proofs.choosing.is_large.Given as goal

abbrev pub invariant-loop-region : goal.invariant-loop-region
invariant-loop-region l = sum_by (λ (r : Region). r.len) (take l.region-index l.regions) + l.stack + l.room ≡ 65536
