use Rattle.std.proofs.Common.{◌≡◌, drop, map}
use Rattle.admission.specs.declared.admission.RegionLine.{RegionLine}
use Rattle.text_parts.specs.Places.{place_from}
use Rattle.admission_text.proofs.line.region_number.Given as goal

abbrev pub invariant-loop-region : goal.invariant-loop-region
invariant-loop-region l =
    (place_from l.number (map (λ (r : RegionLine). r.name) (drop l.region-index l.regions)) l.name
    ≡ place_from 0 (map (λ (r : RegionLine). r.name) l.regions) l.name) × (l.number ≡ l.region-index)
