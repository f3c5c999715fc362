use Rattle.std.proofs.Common.{◌≡◌, ℕ, ◌<◌, ◌^◌, ◌||◌, nat_lt, take}
use Rattle.std.specs.List.{All, list_any}
use Rattle.memory_spans.specs.Memory.{offset_from}
use Rattle.memory_spans.specs.declared.region.Region.{Region}
use Rattle.test_states.specs.Ranges.{IsRange, is_covered}
use Rattle.test_states.proofs.ranges.ranges_of.Given as goal

abbrev pub invariant-loop-region : goal.invariant-loop-region
invariant-loop-region l =
    All IsRange l.ranges.items
    × ((x : ℕ) → x < 2 ^ 64 → is_covered l.ranges.items x
    ≡ (nat_lt (offset_from l.base x) l.len || list_any (λ (r : Region). nat_lt (offset_from r.base x) r.len) (take l.region-index l.regions)))
