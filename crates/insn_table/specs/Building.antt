-- What mnemonics and operands make: instructions, and closed functions of them.
use Rattle.std.specs.Prelude.{◌≡◌, ℕ, ◌+◌, ◌-◌, ◌^◌, ◌<◌, ◌==◌, nat_lt, Bool, true, false, ◌&&◌, ◌||◌, List, [], ◌∷◌, ◌++◌, length, Option, Some, None, Result, Ok, Err, slice_get, if◌then◌else◌}
use Rattle.std.specs.List.{list_all, AllByRecursion}
use Rattle.insn_ops.specs.declared.op.Op.{Op}
use Rattle.insn_ops.specs.declared.op.Op.TheVariants.{Jmp, Ret}
use Rattle.insn_table.specs.declared.insn.Operand.{Operand}
use Rattle.insn_table.specs.declared.insn.Operand.TheVariants.{Reg, Mem, Vec, Target, Nothing}
use Rattle.insn_table.specs.declared.insn.Insn.{Insn}
use Rattle.insn_spellings.specs.declared.shape.Shape.{Shape}
use Rattle.insn_table.specs.declared.fitting.Misfit.{Misfit}
use Rattle.insn_table.specs.declared.fitting.Misfit.TheVariants.{BadOperand}
use Rattle.insn_table.specs.declared.assembling.Statement.{Statement}
use Rattle.insn_table.specs.declared.build_error.BuildError.{BuildError}
use Rattle.insn_table.specs.declared.build_error.BuildError.TheVariants.{UnknownMnemonic, Unfit, BadRegister, TooMany, Empty, TargetOutside, FallsOff}
use Rattle.insn_spellings.specs.Rows.{named}
use Rattle.insn_spellings.specs.Spellings.{table_rows}
use Rattle.insn_table.specs.Forms.{fits_of}
use Rattle.insn_table.specs.Table.{IsTableInsn}

-- four operands, of which those that are left out are nothing; None where there are more
abbrev pub four_of : List Operand → Option (List Operand)
four_of [] = Some (Nothing ∷ Nothing ∷ Nothing ∷ Nothing ∷ [])
four_of (a ∷ []) = Some (a ∷ Nothing ∷ Nothing ∷ Nothing ∷ [])
four_of (a ∷ b ∷ []) = Some (a ∷ b ∷ Nothing ∷ Nothing ∷ [])
four_of (a ∷ b ∷ c ∷ []) = Some (a ∷ b ∷ c ∷ Nothing ∷ [])
four_of (a ∷ b ∷ c ∷ d ∷ []) = Some (a ∷ b ∷ c ∷ d ∷ [])
four_of (a ∷ b ∷ c ∷ d ∷ e ∷ more) = None

-- a register, where there is one, is one of the sixteen
abbrev pub is_known : Option ℕ → Bool
is_known None = true
is_known (Some n) = nat_lt n 16

-- 1, 2, 4 or 8
abbrev pub is_scale : ℕ → Bool
is_scale s = s == 1 || (s == 2 || (s == 4 || s == 8))

-- each register of the operand is one of the sixteen, and each scale one that there is
abbrev pub has_registers : Operand → Bool
has_registers (Reg n w) = nat_lt n 16
has_registers (Vec n w) = nat_lt n 16
has_registers (Mem base index scale disp) = is_known base && (is_known index && is_scale scale)
has_registers _ = true

-- what fits answered, where each register and scale is one that there is
abbrev pub with_registers : Result Insn Misfit → Result Insn BuildError
with_registers (Ok i) = if list_all has_registers i.args then Ok i else Err BadRegister
with_registers (Err misfit) = Err (Unfit misfit)

-- what the shape of a mnemonic makes of four operands: None where the mnemonic is unknown, or where there are more
abbrev pub insn_made : Option Shape → Option (List Operand) → ℕ → Result Insn BuildError
insn_made None args line = Err UnknownMnemonic
insn_made (Some shape) None line = Err (Unfit BadOperand)
insn_made (Some shape) (Some args) line = with_registers (fits_of shape args line)

-- the instruction that a mnemonic and its operands make on this line, or why they make none
abbrev pub assembled : List ℕ → List Operand → ℕ → Result Insn BuildError
assembled mnemonic args line = insn_made (named table_rows mnemonic) (four_of args) line

-- the instruction that is made behind these, on this line, or why none is
abbrev pub insn_behind : List Insn → List ℕ → List Operand → ℕ → Result Insn BuildError
insn_behind before mnemonic args line =
    if nat_lt (length before + 1) (2 ^ 32) then assembled mnemonic args line else Err TooMany

-- the same on the line of its number: the first instruction is on line 1
abbrev pub next_insn : List Insn → List ℕ → List Operand → Result Insn BuildError
next_insn before mnemonic args = insn_behind before mnemonic args (length before + 1)

-- the new list has one instruction more, which is the one that was made
pub record Appends (old new : List Insn) (made : Result Insn BuildError) : Type 0 where
  pub insn : Insn
  pub is_made : made ≡ Ok insn
  pub behind : new ≡ old ++ insn ∷ []

-- a jump's target is one of n instructions
abbrev pub is_inside : ℕ → Operand → Bool
is_inside n (Target place) = nat_lt place n
is_inside n _ = true

-- each target of an instruction is one of n instructions
abbrev pub goes_inside : ℕ → Insn → Bool
goes_inside n i = list_all (is_inside n) i.args

-- a return or a jump: what a function may end in
abbrev pub is_leaving : Op → Bool
is_leaving Ret = true
is_leaving Jmp = true
is_leaving _ = false

-- there is an instruction, and it leaves
abbrev pub leaves : Option Insn → Bool
leaves None = false
leaves (Some i) = is_leaving i.op

-- what the last instruction is at fault of
abbrev pub ending_fault : List Insn → Option BuildError
ending_fault insns = if leaves (slice_get insns (length insns - 1)) then None else Some FallsOff

-- the first of the three faults that keep instructions from being a closed function
abbrev pub fault_of : List Insn → Option BuildError
fault_of insns =
    if length insns == 0 then Some Empty
    else if list_all (goes_inside (length insns)) insns then ending_fault insns else Some TargetOutside

-- what a builder holds: fewer than 2^32 instructions of the table
pub record IsDraft (insns : List Insn) : Type 0 where
  pub few : length insns < 2 ^ 32
  pub table : AllByRecursion IsTableInsn insns

-- goes on with the instruction that was made at the end of those before it
abbrev pub after_next : (List Insn → Result (List Insn) BuildError)
    → List Insn → Result Insn BuildError → Result (List Insn) BuildError
after_next rest before (Ok i) = rest (before ++ i ∷ [])
after_next rest before (Err e) = Err e

-- the instructions behind these when the statements are pushed one after another, or the first fault
abbrev pub insns_made : List Insn → List Statement → Result (List Insn) BuildError
insns_made before [] = Ok before
insns_made before (s ∷ rest) =
    after_next (λ insns. insns_made insns rest) before (next_insn before s.mnemonic.now s.args)

-- the instructions where there is no fault
abbrev pub unless_fault : Option BuildError → List Insn → Result (List Insn) BuildError
unless_fault None insns = Ok insns
unless_fault (Some e) insns = Err e

-- the instructions that were made, where they have no fault
abbrev pub closed_made : Result (List Insn) BuildError → Result (List Insn) BuildError
closed_made (Ok insns) = unless_fault (fault_of insns) insns
closed_made (Err e) = Err e

-- the instructions of the closed function that the statements make, or the first fault
abbrev pub function_made : List Statement → Result (List Insn) BuildError
function_made statements = closed_made (insns_made [] statements)
