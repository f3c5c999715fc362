-- The classes of operands, and the forms of an instruction's four operands.
use Rattle.std.specs.Prelude.{◌^◌, ◌-◌, ◌==◌, ℕ, Bool, true, false, ◌&&◌, ◌||◌, nat_lt, nat_le, List, [], ◌∷◌, if◌then◌else◌}
use Rattle.std.specs.List.{count_by}
use Rattle.std.specs.Cmp.Lexicographic.{pointwise}
use Rattle.insn_table.specs.declared.insn.Operand.{Operand}
use Rattle.insn_table.specs.declared.insn.Operand.TheVariants.{Reg, Imm, Mem, Vec, Pool, Target, Nothing}
use Rattle.insn_table.specs.declared.classes.Class.{Class}
use Rattle.insn_table.specs.declared.classes.Class.TheVariants.{Register, Writable, Readable, Source, Immediate, Wide, Count, Address, Label, VectorRegister, VectorSource, Control, Absent}

-- the classes of an instruction's four operands
abbrev pub OperandForm : Type 0
OperandForm = List Class

-- no operands
abbrev pub none : OperandForm
none = Absent ∷ Absent ∷ Absent ∷ Absent ∷ []

-- one operand
abbrev pub one : Class → OperandForm
one first = first ∷ Absent ∷ Absent ∷ Absent ∷ []

-- two operands
abbrev pub two : Class → Class → OperandForm
two first second = first ∷ second ∷ Absent ∷ Absent ∷ []

-- three operands
abbrev pub three : Class → Class → Class → OperandForm
three first second third = first ∷ second ∷ third ∷ Absent ∷ []

-- four operands
abbrev pub four : Class → Class → Class → Class → OperandForm
four first second third fourth = first ∷ second ∷ third ∷ fourth ∷ []

-- a general register of w bits
abbrev pub is_register : ℕ → Operand → Bool
is_register w (Reg n v) = v == w
is_register w _ = false

-- a vector register of w bits
abbrev pub is_vector_register : ℕ → Operand → Bool
is_vector_register w (Vec n v) = v == w
is_vector_register w _ = false

-- an immediate
abbrev pub is_number : Operand → Bool
is_number (Imm v) = true
is_number _ = false

-- memory at an address that registers make
abbrev pub is_addressed : Operand → Bool
is_addressed (Mem base index scale disp) = true
is_addressed _ = false

-- memory, in the pool or elsewhere
abbrev pub is_memory : Operand → Bool
is_memory (Mem base index scale disp) = true
is_memory (Pool at) = true
is_memory _ = false

-- the target of a jump
abbrev pub is_target : Operand → Bool
is_target (Target place) = true
is_target _ = false

-- no operand
abbrev pub is_nothing : Operand → Bool
is_nothing Nothing = true
is_nothing _ = false

-- whether an operand is of this class, whatever its numbers
abbrev pub takes_kind : Class → Operand → Bool
takes_kind (Register w) a = is_register w a
takes_kind (Writable w) a = is_register w a || is_addressed a
takes_kind (Readable w) a = is_register w a || is_memory a
takes_kind (Source w) a = is_number a || (is_register w a || is_memory a)
takes_kind (Immediate w) a = is_number a
takes_kind Wide a = is_number a
takes_kind (Count w) a = is_number a
takes_kind Address a = is_addressed a
takes_kind Label a = is_target a
takes_kind (VectorRegister w) a = is_vector_register w a
takes_kind (VectorSource w) a = is_vector_register w a || is_memory a
takes_kind Control a = is_number a
takes_kind Absent a = is_nothing a

-- whether a form takes these kinds of operands, of which no two are in memory
abbrev pub takes : List Operand → OperandForm → Bool
takes args form = pointwise takes_kind form args && nat_le (count_by is_memory args) 1

-- the greatest immediate of a form of w bits
abbrev pub greatest_immediate : ℕ → ℕ
greatest_immediate w =
    if w == 8 then 2 ^ 8 - 1 else if w == 16 then 2 ^ 16 - 1 else if w == 32 then 2 ^ 32 - 1 else 2 ^ 31 - 1

-- how far below 0 the least immediate of a form of w bits lies
abbrev pub immediate_depth : ℕ → ℕ
immediate_depth w = if w == 8 then 2 ^ 7 else if w == 16 then 2 ^ 15 else 2 ^ 31

-- whether a number modulo 2^64, read as one from -2^63 to 2^63 - 1, is an immediate of a form of w bits
abbrev pub is_immediate : ℕ → ℕ → Bool
is_immediate w v = nat_le v (greatest_immediate w) || nat_le (2 ^ 64 - immediate_depth w) v

-- whether a number is in the range of this class
abbrev pub is_within : Class → ℕ → Bool
is_within (Source w) v = is_immediate w v
is_within (Immediate w) v = is_immediate w v
is_within (Count w) v = nat_lt 0 v && nat_lt v w
is_within Control v = nat_lt v 256
is_within _ v = true

-- whether the number of an operand that has one is in the range of this class
abbrev pub number_fits : Class → Operand → Bool
number_fits class (Imm v) = is_within class v
number_fits class _ = true

-- whether the numbers of the operands are in the ranges of a form
abbrev pub numbers_fit : List Operand → OperandForm → Bool
numbers_fit args form = pointwise number_fits form args
