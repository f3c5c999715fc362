-- The start state of a test under an admission, and which tests have one. All of it is this project's own.
use Rattle.std.specs.Prelude.{◌≡◌, ℕ, ◌+◌, ◌<◌, ◌≤◌, map, sum_by}
use Rattle.std.specs.List.{Any}
use Rattle.lane_views.specs.declared.Bytes32.{Bytes32}
use Rattle.memory_spans.specs.declared.region.Region.{Region}
use Rattle.machine.specs.Machine.{Machine, no_flags}
use Rattle.admission.specs.declared.admission.Admission.{Admission}
use Rattle.admission.specs.Admitted.{HasByte, IsAdmitted, regions_of}
use Rattle.tests_text.specs.declared.test.Test.{Test}
use Rattle.test_states.specs.Naming.{named_memory}

-- The start state of a test: its registers and vectors, no flag set, the bytes that it names, and the regions and stack
-- bytes that the admission gives at these registers.
abbrev pub start_of : Admission → Test → Machine
start_of a t = record {
  regs = t.regs;
  entry = t.regs;
  flags = no_flags;
  vecs = map (λ (v : Bytes32). v.bytes) t.vecs;
  memory = named_memory t.bytes;
  regions = regions_of t.regs a;
  stack = a.stack;
  place = 0;
}

-- how many bytes the regions have together, each counted for itself, and the declared stack bytes
abbrev pub total_length : Admission → Test → ℕ
total_length a t = sum_by (λ (r : Region). r.len) (regions_of t.regs a) + a.stack

-- the test names the byte at an address
abbrev pub IsNamed : Test → ℕ → Type 0
IsNamed t at = Any (λ (named : ℕ × ℕ). named.0 ≡ at) t.bytes

-- the address is one of a region's
abbrev pub IsInRegion : Admission → Test → ℕ → Type 0
IsInRegion a t at = Any (λ (r : Region). HasByte r at) (regions_of t.regs a)

-- the test names the byte at an address of no region
pub record IsOutside (a : Admission) (t : Test) (at : ℕ) : Type 0 where
  pub named : IsNamed t at
  pub outside : IsInRegion a t at → ⊥

-- the least such address
pub record IsFirstOutside (a : Admission) (t : Test) (at : ℕ) : Type 0 where
  pub outside : IsOutside a t at
  pub least : (x : ℕ) → x < at → IsOutside a t x → ⊥

-- A test has a start state: its registers are admitted, regions and stack bytes together are at most 65,536, and each
-- byte that it names lies in a region.
pub record IsLoadable (a : Admission) (t : Test) : Type 0 where
  pub admitted : IsAdmitted a t.regs
  pub small : total_length a t ≤ 65536
  pub inside : (at : ℕ) → IsNamed t at → IsInRegion a t at
