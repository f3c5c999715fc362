-- Why a test has no start state, and which state is its start state.
use Rattle.std.specs.Prelude.{◌≡◌, ◌<◌, ◌≤◌}
use Rattle.machine.specs.Kept.{Kept, pure_of}
use Rattle.admission.specs.declared.admission.Admission.{Admission}
use Rattle.admission.specs.Admitted.{IsAdmitted}
use Rattle.tests_text.specs.declared.test.Test.{Test}
use Rattle.test_states.specs.declared.refusal.LoadRefusal.{LoadRefusal}
use Rattle.test_states.specs.declared.refusal.LoadRefusal.TheVariants.{ByteOutside, Memory, NotAdmitted, RegionsLarge}
use Rattle.test_states.specs.Starts.{IsFirstOutside, IsLoadable, start_of, total_length}

-- The first reason for which a test has no start state: its registers are not admitted, or else its regions and stack
-- bytes are more than 65,536, or else it names a byte of no region, the least of which is told.
abbrev pub IsRefused : Admission → Test → LoadRefusal → Type 0
IsRefused a t NotAdmitted = IsAdmitted a t.regs → ⊥
IsRefused a t RegionsLarge = IsAdmitted a t.regs × (65536 < total_length a t)
IsRefused a t (ByteOutside at) = IsAdmitted a t.regs × (total_length a t ≤ 65536) × IsFirstOutside a t at
IsRefused a t Memory = ⊥

-- the state is the test's start state
abbrev pub LoadsAs : Admission → Test → Kept → Type 0
LoadsAs a t state = IsLoadable a t × (pure_of state ≡ start_of a t)
