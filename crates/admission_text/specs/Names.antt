-- How an admission writes registers and numbers.
use Rattle.std.specs.Prelude.{◌≡◌, ◌⊎◌, ℕ, ◌^◌, ◌<◌, ◌≤◌, List, decimal}
use Rattle.insn_ops.specs.declared.output.Output.{Output}
use Rattle.insn_ops.specs.declared.output.Output.TheVariants.{Reg, Vec}
use Rattle.register_names.specs.Names.{IsRegisterText}
use Rattle.text_parts.specs.Numbers.{IsHexadecimal}

-- `%` and the name of a general register of w bits
abbrev pub IsGeneral : List ℕ → ℕ → ℕ → Type 0
IsGeneral text n w = IsRegisterText text n w × (w ≤ 64)

-- `%` and the name of a register, which is compared at the end
abbrev pub IsOutputText : List ℕ → Output → Type 0
IsOutputText text (Reg n w) = IsGeneral text n w
IsOutputText text (Vec n w) = IsRegisterText text n w × (64 < w)

-- a number below 2^64, without a sign: in decimal without a leading zero, or in base 16
pub record IsNumberText (text : List ℕ) (n : ℕ) : Type 0 where
  pub small : n < 2 ^ 64
  pub spelled : (text ≡ decimal n) ⊎ IsHexadecimal text n
