-- Which start states an admission admits. All of it is this project's own.
use Rattle.std.specs.Prelude.{◌≡◌}
use Rattle.machine.specs.Machine.{IsStart, Machine}
use Rattle.admission.specs.declared.admission.Admission.{Admission}
use Rattle.admission.specs.Admitted.{IsAdmitted, regions_of}

-- An admitted start state: at the first instruction, with the entry registers and no flag set, the regions and stack
-- bytes that the admission gives at the entry registers, and these admitted. Vectors and memory are free.
pub record IsAdmittedStart (a : Admission) (s : Machine) : Type 0 where
  pub start : IsStart s
  pub regions : s.regions ≡ regions_of s.entry a
  pub stack : s.stack ≡ a.stack
  pub admitted : IsAdmitted a s.entry
