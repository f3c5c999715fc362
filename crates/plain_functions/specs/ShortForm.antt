-- The start states of the short form, and when two returned states have the same end in it.
use Rattle.std.specs.Prelude.{◌≡◌, ℕ, [], ◌∷◌}
use Rattle.insn_ops.specs.declared.output.Output.TheVariants.{Reg}
use Rattle.machine.specs.Difference.{SameEnd}
use Rattle.machine.specs.Machine.{IsStart, Machine}

-- a start state of the short form: no region and no stack bytes, any vectors and any memory
pub record IsPlainStart (s : Machine) : Type 0 where
  pub start : IsStart s
  pub no_region : s.regions ≡ []
  pub no_stack : s.stack ≡ 0

-- two states have the same end in the short form, whose one live output is %rax, and which has no scratch line
abbrev pub SamePlainEnd : Machine → Machine → Type 0
SamePlainEnd s t = SameEnd (Reg 0 64 ∷ []) [] s t
