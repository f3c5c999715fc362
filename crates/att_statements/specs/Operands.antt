-- Numbers and operands of GNU AT&T text, by what stands where in their texts.
use Rattle.std.specs.Prelude.{◌≡◌, ◌≢◌, ◌⊎◌, ℕ, ◌+◌, ◌-◌, ◌^◌, ◌<◌, ◌≤◌, ℤ, pos, neg_ℤ, Bool, true, false, ◌||◌, ◌==◌, not, if◌then◌else◌, List, [], ◌∷◌, ◌++◌, Option, Some, None, codes}
use Rattle.std.specs.List.{list_all}
use Rattle.insn_table.specs.declared.insn.Operand.{Operand}
use Rattle.insn_table.specs.declared.insn.Operand.TheVariants.{Reg, Vec, Mem}
use Rattle.insn_table.specs.Table.{IsScale}
use Rattle.std.specs.Str.Parse.{IsNumeral}
use Rattle.register_names.specs.Names.{IsRegisterText}
use Rattle.text_lines.specs.Words.{IsName, IsPadded}
use Rattle.text_parts.specs.Numbers.{IsAmount, IsDecimal, IsHexadecimal}

-- numbers

-- a number of this sign: `-` stands before a negative one
abbrev pub IsNumber : List ℕ → Bool → ℕ → Type 0
IsNumber text false n = IsAmount text n
IsNumber text true n = (amount : List ℕ) × (text ≡ codes "-" ++ amount) × IsAmount amount n

-- registers

-- register n of w bits as an operand
abbrev pub register_operand : ℕ → ℕ → Operand
register_operand w n = if w == 128 || w == 256 then Vec n w else Reg n w

-- commas

-- how many parentheses are open behind this byte, where n are before it
abbrev pub open_behind : ℕ → ℕ → ℕ
open_behind n b = if b == 40 then n + 1 else if b == 41 then n - 1 else n

-- how many are open behind the text, where n are before it
abbrev pub open_after : ℕ → List ℕ → ℕ
open_after n [] = n
open_after n (b ∷ bs) = open_after (open_behind n b) bs

-- each comma of the text, n parentheses being open before it, stands inside parentheses
abbrev pub IsUncut : ℕ → List ℕ → Type 0
IsUncut n text = (before after : List ℕ) → text ≡ before ++ 44 ∷ after → 0 < open_after n before

-- The text, n parentheses being open before it, consists of these parts with a comma between each and the next; these
-- commas, and no others, stand outside parentheses.
abbrev pub AreParts : ℕ → List ℕ → List (List ℕ) → Type 0
AreParts n text [] = ⊥
AreParts n text (part ∷ []) = (text ≡ part) × IsUncut n part
AreParts n text (part ∷ next ∷ parts) =
    (rest : List ℕ) × (text ≡ part ++ 44 ∷ rest) × IsUncut n part × (open_after n part ≡ 0)
    × AreParts 0 rest (next ∷ parts)

-- memory

-- the text before the first parenthesis, and what stands inside it and a closing one at the end
pub record IsParenthesised (text before inside : List ℕ) : Type 0 where
  pub spelled : text ≡ before ++ 40 ∷ (inside ++ 41 ∷ [])
  pub first : list_all (λ b. not (b == 40)) before ≡ true

-- the integer of this sign and amount
abbrev pub integer : Bool → ℕ → ℤ
integer false n = pos n
integer true n = neg_ℤ (pos n)

-- the number of this sign lies from -depth to greatest
abbrev pub IsBetween : ℕ → ℕ → Bool → ℕ → Type 0
IsBetween depth greatest false n = n ≤ greatest
IsBetween depth greatest true n = n ≤ depth

-- a displacement: nothing, or a number from -2^31 to 2^31 - 1
abbrev pub IsDisplacement : List ℕ → ℤ → Type 0
IsDisplacement text disp =
    ((text ≡ []) × (disp ≡ pos 0))
    ⊎ ((negative : Bool) × (n : ℕ) × IsNumber text negative n
    × IsBetween (2 ^ 31) (2 ^ 31 - 1) negative n × (disp ≡ integer negative n))

-- a 64-bit register, with blanks around it
abbrev pub IsAddressRegister : List ℕ → ℕ → Type 0
IsAddressRegister part n = (text : List ℕ) × IsPadded part text × IsRegisterText text n 64

-- a base, which may be left out
abbrev pub IsBase : List ℕ → Option ℕ → Type 0
IsBase part base = (IsPadded part [] × (base ≡ None)) ⊎ ((n : ℕ) × IsAddressRegister part n × (base ≡ Some n))

-- an index: a register other than the stack pointer, register 4
abbrev pub IsIndex : List ℕ → Option ℕ → Type 0
IsIndex part index = (n : ℕ) × IsAddressRegister part n × (n ≢ 4) × (index ≡ Some n)

-- a scale: one of the digits 1, 2, 4 and 8, with blanks around it
abbrev pub IsScaleText : List ℕ → ℕ → Type 0
IsScaleText part scale = (digit : ℕ) × IsPadded part (digit ∷ []) × (digit ≡ 48 + scale) × IsScale scale

-- a base; or a base, which may be left out, an index, and a scale, which is 1 where it is left out
abbrev pub AreAddressParts : List (List ℕ) → Option ℕ → Option ℕ → ℕ → Type 0
AreAddressParts (base ∷ []) b i s = ((n : ℕ) × IsAddressRegister base n × (b ≡ Some n)) × (i ≡ None) × (s ≡ 1)
AreAddressParts (base ∷ index ∷ []) b i s = IsBase base b × IsIndex index i × (s ≡ 1)
AreAddressParts (base ∷ index ∷ scale ∷ []) b i s = IsBase base b × IsIndex index i × IsScaleText scale s
AreAddressParts _ b i s = ⊥

-- `disp(base,index,scale)`
pub record IsMemoryText (text : List ℕ) (operand : Operand) : Type 0 where
  pub before : List ℕ
  pub inside : List ℕ
  pub parts : List (List ℕ)
  pub disp : ℤ
  pub base : Option ℕ
  pub index : Option ℕ
  pub scale : ℕ
  pub spelled : IsParenthesised text before inside
  pub displaced : IsDisplacement before disp
  pub cut : AreParts 0 inside parts
  pub address : AreAddressParts parts base index scale
  pub means : operand ≡ Mem base index scale disp

-- symbols and labels

-- a name, or a name, `+` or `-`, and a decimal number
abbrev pub IsSymbol : List ℕ → Type 0
IsSymbol text =
    IsName text
    ⊎ ((name : List ℕ) × (sign : ℕ) × (digits : List ℕ) × (n : ℕ) × (text ≡ name ++ sign ∷ digits)
    × IsName name × ((sign ≡ 43) ⊎ (sign ≡ 45)) × IsDecimal digits n)

-- a symbol and `(%rip)`
pub record IsPoolText (text : List ℕ) : Type 0 where
  pub symbol : List ℕ
  pub inside : List ℕ
  pub spelled : IsParenthesised text symbol inside
  pub named : IsSymbol symbol
  pub relative : IsPadded inside (codes "%rip")

-- a number, or what would be one but for its leading zeros
abbrev pub IsLooseNumber : List ℕ → Type 0
IsLooseNumber text = IsNumeral 10 text ⊎ ((n : ℕ) × IsHexadecimal text n)

-- a label's name; `$` and a number are an immediate, though the bytes are those of a name
pub record IsLabelText (text : List ℕ) : Type 0 where
  pub named : IsName text
  pub other : (number : List ℕ) → text ≡ codes "$" ++ number → IsLooseNumber number → ⊥

-- operands

-- what an operand's text says: an immediate, the name of a label, or a register or memory
pub data Written : Type 0 where
  Immediate : (negative : Bool) → (amount : ℕ) → Written
  Label : (name : List ℕ) → Written
  Plain : (operand : Operand) → Written

-- the operand's text, without blanks around it, says this
abbrev pub IsOperandText : List ℕ → Written → Type 0
IsOperandText text (Immediate negative n) =
    (number : List ℕ) × (text ≡ codes "$" ++ number) × IsNumber number negative n
IsOperandText text (Label name) = (text ≡ name) × IsLabelText name
IsOperandText text (Plain operand) =
    ((n : ℕ) × (w : ℕ) × IsRegisterText text n w × (operand ≡ register_operand w n)) ⊎ IsMemoryText text operand

-- the same of the text with blanks around it
abbrev pub IsOperandPart : List ℕ → Written → Type 0
IsOperandPart part written = (text : List ℕ) × IsPadded part text × IsOperandText text written

-- the part is a symbol and `(%rip)`, with blanks around
abbrev pub IsPoolPart : List ℕ → Type 0
IsPoolPart part = (text : List ℕ) × IsPadded part text × IsPoolText text
