-- The lines of the live outputs.
use Rattle.std.specs.Prelude.{ℕ, ◌/◌, ◌%◌, ◌^◌, List, [], ◌∷◌, ◌++◌, codes, get_or, slice_index, take}
use Rattle.insn_ops.specs.declared.output.Output.{Output}
use Rattle.insn_ops.specs.declared.output.Output.TheVariants.{Reg, Vec}
use Rattle.machine.specs.Machine.{Machine}
use Rattle.register_names.specs.Names.{register_names}
use Rattle.text_parts.specs.Bytes.{bytes_text}
use Rattle.text_parts.specs.Numbers.{value_text}

-- an output as an admission names it
abbrev pub output_name : Output → List ℕ
output_name (Reg n w) = codes "%" ++ get_or (register_names w) n []
output_name (Vec n w) = codes "%" ++ get_or (register_names w) n []

-- what it holds: the low bits of a general register as a value, the first bytes of a vector as bytes
abbrev pub output_value : Machine → Output → List ℕ
output_value s (Reg n w) = value_text (slice_index s.regs n % 2 ^ w)
output_value s (Vec n w) = bytes_text (take (w / 8) (get_or s.vecs n []))

-- the line of a live output: its name and what it holds
unfoldable pub output_line : Machine → Output → List ℕ
output_line s output = output_name output ++ codes " " ++ output_value s output ++ codes "\n"

-- the lines of live outputs, in their order
abbrev pub output_lines : Machine → List Output → List ℕ
output_lines s [] = []
output_lines s (output ∷ outputs) = output_line s output ++ output_lines s outputs
