-- The tests of the code, as functions to truth values.
use Rattle.std.specs.Prelude.{ℕ, ◌+◌, ◌-◌, ◌%◌, ◌^◌, Bool, false, not, ◌&&◌, ◌||◌, ◌==◌, nat_lt, nat_le, List, Some, Option, slice_get, slice_index}
use Rattle.std.specs.List.{list_all}
use Rattle.memory_spans.specs.declared.region.Region.{Region}
use Rattle.memory_spans.specs.Memory.{offset_from}
use Rattle.admission.specs.declared.admission.Rel.{Rel}
use Rattle.admission.specs.declared.admission.Rel.TheVariants.{Eq, Ne, Lt, Le, Slt, Sle}
use Rattle.admission.specs.declared.admission.Need.{Need}
use Rattle.admission.specs.declared.admission.Need.TheVariants.{Compare, Modulo}
use Rattle.admission.specs.declared.admission.Admission.{Admission}
use Rattle.admission.specs.Admitted.{regions_of, signed_place}
use Rattle.admission.specs.Values.{value_of}

-- two numbers stand in a relation
abbrev pub are_related : Rel → ℕ → ℕ → Bool
are_related Eq a b = a == b
are_related Ne a b = not (a == b)
are_related Lt a b = nat_lt a b
are_related Le a b = nat_le a b
are_related Slt a b = nat_lt (signed_place a) (signed_place b)
are_related Sle a b = nat_le (signed_place a) (signed_place b)

-- a need is met
abbrev pub is_met : List ℕ → Need → Bool
is_met regs (Compare a rel b) = are_related rel (value_of regs a) (value_of regs b)
is_met regs (Modulo a m r) = (value_of regs a % m) == r

-- a region ends at 2^64 at most
abbrev pub fits : Region → Bool
fits r = (r.len == 0) || nat_le r.base (2 ^ 64 - 1 - (r.len - 1))

-- two ranges, whose addresses wrap at 2^64, share none
abbrev pub is_clear : ℕ → ℕ → ℕ → ℕ → Bool
is_clear base len other other_len =
    (len == 0) || ((other_len == 0) || (nat_le len (offset_from base other) && nat_le other_len (offset_from other base)))

-- a region ends at 2^64 at most, and shares no byte with the stack range
abbrev pub is_placed : ℕ → ℕ → Region → Bool
is_placed pointer stack r = fits r && is_clear r.base r.len (offset_from stack pointer) (stack + 8)

-- two regions share no byte
abbrev pub are_apart : Option Region → Option Region → Bool
are_apart (Some r) (Some s) = is_clear r.base r.len s.base s.len
are_apart _ _ = false

-- the regions of two numbers share no byte
abbrev pub is_pair_apart : List Region → ℕ × ℕ → Bool
is_pair_apart regions p = are_apart (slice_get regions p.0) (slice_get regions p.1)

-- entry registers are admitted
abbrev pub is_admitted : Admission → List ℕ → Bool
is_admitted a regs =
    list_all (is_placed (slice_index regs 4) a.stack) (regions_of regs a)
    && (list_all (is_met regs) a.needs && list_all (is_pair_apart (regions_of regs a)) a.aparts)
