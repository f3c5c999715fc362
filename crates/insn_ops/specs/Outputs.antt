-- Outputs that there are: registers, and the widths that they have.
use Rattle.std.specs.Prelude.{◌≡◌, ◌⊎◌, ℕ, ◌<◌}
use Rattle.insn_ops.specs.declared.output.Output.{Output}
use Rattle.insn_ops.specs.declared.output.Output.TheVariants.{Reg, Vec}

-- the width of a general register or of a part of it
abbrev pub IsWidth : ℕ → Type 0
IsWidth w = (w ≡ 8) ⊎ ((w ≡ 16) ⊎ ((w ≡ 32) ⊎ (w ≡ 64)))

-- an output that there is: one of the sixteen registers, and a width that it has
abbrev pub IsOutput : Output → Type 0
IsOutput (Reg n w) = (n < 16) × IsWidth w
IsOutput (Vec n w) = (n < 16) × ((w ≡ 128) ⊎ (w ≡ 256))
