-- Which entry registers an admission admits. All of it is this project's own.
use Rattle.std.specs.Prelude.{ℕ, ◌≡◌, ◌≢◌, ◌+◌, ◌%◌, ◌^◌, ◌<◌, ◌≤◌, List, Some, map, slice_get, slice_index}
use Rattle.std.specs.List.{AllByRecursion}
use Rattle.memory_spans.specs.declared.region.Region.{Region}
pub use Rattle.memory_spans.specs.Regions.{HasByte, IsPlaced}
use Rattle.admission.specs.declared.expr.Expr.{Expr}
use Rattle.admission.specs.declared.admission.Rel.{Rel}
use Rattle.admission.specs.declared.admission.Rel.TheVariants.{Eq, Ne, Lt, Le, Slt, Sle}
use Rattle.admission.specs.declared.admission.Need.{Need}
use Rattle.admission.specs.declared.admission.Need.TheVariants.{Compare, Modulo}
use Rattle.admission.specs.declared.admission.RegionLine.{RegionLine}
use Rattle.admission.specs.declared.admission.Admission.{Admission}
use Rattle.admission.specs.Values.{value_of}

-- the region that a line names, at these entry registers
abbrev pub region_of : List ℕ → RegionLine → Region
region_of regs line = record { base = value_of regs line.base; len = value_of regs line.len; write = line.write }

-- the regions, in the order of their lines
abbrev pub regions_of : List ℕ → Admission → List Region
regions_of regs a = map (region_of regs) a.regions

-- the base and the length of a scratch line
abbrev pub scratch_of : List ℕ → Expr × Expr → ℕ × ℕ
scratch_of regs s = (value_of regs s.0, value_of regs s.1)

-- the bases and lengths of the scratch lines, in their order
abbrev pub all_scratch : List ℕ → Admission → List (ℕ × ℕ)
all_scratch regs a = map (scratch_of regs) a.scratch

-- the place of a number in the signed order: -2^63 comes first, 2^63 - 1 last
abbrev pub signed_place : ℕ → ℕ
signed_place n = (n + 2 ^ 63) % 2 ^ 64

-- two numbers of 64 bits stand in a relation
abbrev pub Related : Rel → ℕ → ℕ → Type 0
Related Eq a b = a ≡ b
Related Ne a b = a ≢ b
Related Lt a b = a < b
Related Le a b = a ≤ b
Related Slt a b = signed_place a < signed_place b
Related Sle a b = signed_place a ≤ signed_place b

-- a need is met
abbrev pub IsMet : List ℕ → Need → Type 0
IsMet regs (Compare a rel b) = Related rel (value_of regs a) (value_of regs b)
IsMet regs (Modulo a m r) = value_of regs a % m ≡ r

-- two regions share no byte
abbrev pub AreApart : Region → Region → Type 0
AreApart r s = (at : ℕ) → HasByte r at → HasByte s at → ⊥

-- the regions of these two numbers share no byte
abbrev pub ArePairApart : List Region → ℕ × ℕ → Type 0
ArePairApart regions p = (r s : Region) → slice_get regions p.0 ≡ Some r → slice_get regions p.1 ≡ Some s → AreApart r s

-- entry registers are admitted: each region is placed, each need is met and each pair is apart
pub record IsAdmitted (a : Admission) (regs : List ℕ) : Type 0 where
  pub placed : AllByRecursion (IsPlaced (slice_index regs 4) a.stack) (regions_of regs a)
  pub met : AllByRecursion (IsMet regs) a.needs
  pub apart : AllByRecursion (ArePairApart (regions_of regs a)) a.aparts
