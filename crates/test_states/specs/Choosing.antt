-- What the code finds of the regions and of the bytes that a test names.
use Rattle.std.specs.Prelude.{ℕ, ◌-◌, Bool, not, ◌&&◌, nat_le, nat_lt, List, [], ◌∷◌, Option, Some, None, min, if◌then◌else◌}
use Rattle.std.specs.List.{list_any}
use Rattle.memory_spans.specs.declared.region.Region.{Region}

-- the address is one of the region's
abbrev pub region_has : ℕ → Region → Bool
region_has at r = nat_le r.base at && nat_lt (at - r.base) r.len

-- the address is one of no region
abbrev pub is_outside : List Region → ℕ → Bool
is_outside regions at = not (list_any (region_has at) regions)

-- the lesser of an address and the one that was found, if any
abbrev pub lesser : Option ℕ → ℕ → ℕ
lesser None at = at
lesser (Some found) at = min found at

-- the least address of no region among those of pairs, and the one that was found before
abbrev pub least_outside : List Region → Option ℕ → List (ℕ × ℕ) → Option ℕ
least_outside regions found [] = found
least_outside regions found (named ∷ more) =
    least_outside regions (if is_outside regions named.0 then Some (lesser found named.0) else found) more
