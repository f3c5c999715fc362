-- The text of an instruction, in GNU AT&T syntax.
use Rattle.std.specs.Prelude.{ℕ, ◌-◌, ◌/◌, ◌%◌, ◌^◌, ◌==◌, nat_lt, ℤ, pos, negsuc, List, [], ◌∷◌, ◌++◌, Option, Some, None, codes, decimal, slice_get, unwrap_or, if◌then◌else◌}
use Rattle.std.specs.Fmt.{signed_decimal}
use Rattle.insn_table.specs.declared.insn.Insn.{Insn}
use Rattle.insn_table.specs.declared.insn.Operand.{Operand}
use Rattle.insn_table.specs.declared.insn.Operand.TheVariants.{Reg, Imm, Mem, Vec, Pool, Target, Nothing}
use Rattle.register_names.specs.Names.{register_names}
use Rattle.insn_mnemonics.specs.Mnemonics.{mnemonic}

-- `%` and the name of register n of w bits
unfoldable pub register_text : ℕ → ℕ → List ℕ
register_text w n = codes "%" ++ unwrap_or (slice_get (register_names w) n) []

-- how many numbers a word of w bits holds; the immediates of vectors, below 256, are printed as they are
abbrev pub numbers_of : ℕ → ℕ
numbers_of w = if w == 8 then 2 ^ 8 else if w == 16 then 2 ^ 16 else if w == 32 then 2 ^ 32 else 2 ^ 64

-- `$` and a number modulo m, as a signed one
unfoldable pub number_text : ℕ → ℕ → List ℕ
number_text m v =
    if nat_lt (v % m) (m / 2) then codes "$" ++ decimal (v % m) else codes "$-" ++ decimal (m - v % m)

-- a displacement before parentheses: 0 is left out
abbrev pub displacement_text : ℤ → List ℕ
displacement_text (pos n) = if n == 0 then [] else decimal n
displacement_text (negsuc n) = signed_decimal (negsuc n)

-- an index, its scale and the closing parenthesis
unfoldable pub scaled_text : ℕ → ℕ → List ℕ
scaled_text index scale = register_text 64 index ++ codes "," ++ decimal scale ++ codes ")"

-- base and index in parentheses, behind the displacement; without either the displacement alone
unfoldable pub memory_text : Option ℕ → Option ℕ → ℕ → ℤ → List ℕ
memory_text None None scale disp = signed_decimal disp
memory_text (Some base) None scale disp = displacement_text disp ++ codes "(" ++ register_text 64 base ++ codes ")"
memory_text None (Some index) scale disp =
    displacement_text disp ++ codes "(," ++ scaled_text index scale
memory_text (Some base) (Some index) scale disp =
    displacement_text disp ++ codes "(" ++ register_text 64 base ++ codes "," ++ scaled_text index scale

-- the text of an operand, of which an immediate has the form's width
unfoldable pub operand_text : ℕ → Operand → List ℕ
operand_text w (Reg n v) = register_text v n
operand_text w (Imm v) = number_text (numbers_of w) v
operand_text w (Mem base index scale disp) = memory_text base index scale disp
operand_text w (Vec n v) = register_text v n
operand_text w (Pool at) = codes "pool+" ++ decimal at ++ codes "(%rip)"
operand_text w (Target place) = codes "@" ++ decimal place
operand_text w Nothing = []

-- the operands up to the first that is nothing, this text before the first one and a comma before each other one
unfoldable pub operands_text : List ℕ → ℕ → List Operand → List ℕ
operands_text lead w [] = []
operands_text lead w (Nothing ∷ rest) = []
operands_text lead w (operand ∷ rest) = lead ++ operand_text w operand ++ operands_text (codes ",") w rest

-- the text of an instruction: its mnemonic, a space, and its operands with commas between them
unfoldable pub insn_text : Insn → List ℕ
insn_text i = mnemonic i.op i.vex i.w ++ operands_text (codes " ") i.w i.args
