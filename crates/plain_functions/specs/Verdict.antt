-- What two plain functions are to each other, over every start state of the short form.
use Rattle.std.specs.Prelude.{◌≡◌, ◌≢◌, ◌⊎◌, ℕ, ◌*◌, ◌<◌, ◌≤◌, max, List, [], length}
use Rattle.insn_table.specs.declared.insn.Insn.{Insn}
use Rattle.runs.specs.Equivalent.{AreEquivalent}
use Rattle.runs.specs.Run.{Step, end_of, run_of}
use Rattle.runs.specs.declared.ends.RunEnd.TheVariants.{Returned, Faulted}
use Rattle.plain_functions.specs.ShortForm.{SamePlainEnd}
use Rattle.machine.specs.Machine.{Machine, rax}
use Rattle.plain_functions.specs.ShortForm.{IsPlainStart}
use Rattle.machine.specs.Step.{step_of}
use Rattle.plain_functions.specs.Shown.{no_register, one_register, start_at}
use Rattle.plain_functions.specs.declared.verdict.Counterexample.{Counterexample}
use Rattle.plain_functions.specs.declared.verdict.Verdict.{Verdict}
use Rattle.plain_functions.specs.declared.verdict.Verdict.TheVariants.{Equivalent, Different}

-- the step of a plain function, which has no pool of constants
abbrev pub plain_step : List Insn → Machine → Step Machine
plain_step insns = step_of insns []

-- no run of the function faults
abbrev pub NeverFaults : List Insn → Type 0
NeverFaults insns = (s : Machine) → IsPlainStart s → (n i : ℕ) → end_of (plain_step insns) s n ≢ Faulted i

-- The functions are equivalent within the bound, and no run of either faults.
pub record AreEquivalentWithin (bound : ℕ) (left right : List Insn) : Type 0 where
  pub bound_is : bound ≡ 2 * max (length left) (length right)
  pub small : bound ≤ 32768
  pub equivalent : AreEquivalent IsPlainStart SamePlainEnd bound (plain_step left) (plain_step right)
  pub left_never_faults : NeverFaults left
  pub right_never_faults : NeverFaults right

-- from the start state with these registers a function returns at its last instruction with this %rax
abbrev pub ReturnsFrom : List ℕ → List Insn → ℕ → Type 0
ReturnsFrom regs insns value =
    (end : Machine) × (run_of (plain_step insns) (start_at regs) (length insns) ≡ (end, Returned (length insns))) × (rax end ≡ value)

-- both return from that state with the same %rax
abbrev pub AgreeFrom : List ℕ → List Insn → List Insn → Type 0
AgreeFrom regs left right = (value : ℕ) × ReturnsFrom regs left value × ReturnsFrom regs right value

-- The state that is shown: all registers 0 where the functions differ there, else 1 in the first register, by number, where
-- they differ.
abbrev pub IsShownState : List Insn → List Insn → List ℕ → Type 0
IsShownState left right regs =
    (regs ≡ no_register)
    ⊎ ((n : ℕ) × (n < 16) × (regs ≡ one_register n) × AgreeFrom no_register left right
    × ((m : ℕ) → m < n → AgreeFrom (one_register m) left right))

-- From the start state with these registers, the shown one, both return, and with these values of %rax, which differ.
pub record ReturnDifferently (regs : List ℕ) (left right : List Insn) (left_value right_value : ℕ) : Type 0 where
  pub start : IsPlainStart (start_at regs)
  pub shown : IsShownState left right regs
  pub left_returns : ReturnsFrom regs left left_value
  pub right_returns : ReturnsFrom regs right right_value
  pub differ : left_value ≢ right_value

-- the functions return differently from the state of the counterexample, each as it says
pub record IsCounterexample (left right : List Insn) (c : Counterexample) : Type 0 where
  pub left_steps : c.left.steps ≡ length left
  pub right_steps : c.right.steps ≡ length right
  pub different : ReturnDifferently c.regs left right c.left.value c.right.value

-- the verdict is so of the functions
abbrev pub IsVerdict : List Insn → List Insn → Verdict → Type 0
IsVerdict left right (Equivalent bound) = AreEquivalentWithin bound left right
IsVerdict left right (Different c) = IsCounterexample left right c

-- the functions return the same %rax from every start state from which both return
abbrev pub ReturnTheSame : List Insn → List Insn → Type 0
ReturnTheSame left right =
    (s : Machine) → IsPlainStart s → (n m i j : ℕ) → end_of (plain_step left) s n ≡ Returned i → end_of (plain_step right) s m ≡ Returned j
    → rax (run_of (plain_step left) s n).0 ≡ rax (run_of (plain_step right) s m).0

-- from some start state both return, and not with the same end
pub record ReturnApart (left right : List Insn) : Type 0 where
  pub start : Machine
  pub is_start : IsPlainStart start
  pub left_steps : ℕ
  pub left_number : ℕ
  pub left_returns : end_of (plain_step left) start left_steps ≡ Returned left_number
  pub right_steps : ℕ
  pub right_number : ℕ
  pub right_returns : end_of (plain_step right) start right_steps ≡ Returned right_number
  pub differ : SamePlainEnd (run_of (plain_step left) start left_steps).0 (run_of (plain_step right) start right_steps).0 → ⊥
