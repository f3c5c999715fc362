-- Statements of GNU AT&T text: which instruction one is, and what may be wrong with one. Mnemonics come from the
-- instruction table alone, and so does what an instruction takes.
use Rattle.std.specs.Prelude.{◌≡◌, ◌⊎◌, ℕ, ◌-◌, ◌%◌, ◌^◌, ◌<◌, ◌≤◌, Bool, true, false, nat_le, nat_lt, if◌then◌else◌, List, [], ◌∷◌, ◌++◌, length, replicate, Option, Some, None, Ok, Err, slice_get, codes}
use Rattle.std.specs.List.{list_all, AllByRecursion}
use Rattle.insn_ops.specs.declared.op.Op.{Op}
use Rattle.insn_ops.specs.declared.op.Op.TheVariants.{Movabs}
use Rattle.insn_table.specs.declared.insn.Operand.{Operand}
use Rattle.insn_table.specs.declared.insn.Operand.TheVariants.{Imm, Target, Nothing}
use Rattle.insn_table.specs.declared.insn.Insn.{Insn}
use Rattle.insn_spellings.specs.declared.shape.Shape.{Shape}
use Rattle.insn_table.specs.declared.fitting.Misfit.{Misfit}
use Rattle.insn_table.specs.declared.fitting.Misfit.TheVariants as misfits
use Rattle.insn_spellings.specs.Rows.{named}
use Rattle.insn_spellings.specs.Spellings.{table_rows}
use Rattle.insn_table.specs.Forms.{fits_of}
use Rattle.text_lines.specs.Bytes.{is_blank}
use Rattle.text_lines.specs.Words.{IsPadded, HasWord}
use Rattle.text_lines.specs.declared.refusal.ReadKind.{ReadKind}
use Rattle.text_lines.specs.declared.refusal.ReadKind.TheVariants.{UnknownInstruction, PoolRefused, BadOperand, BadNumber, UnknownLabel}
use Rattle.att_statements.specs.Operands.{Written, Immediate, Label, Plain, IsBetween, AreParts, IsOperandPart, IsPoolPart}

-- the place that a look-up of labels gives
abbrev pub LeadsTo : (List ℕ → Option ℕ) → List ℕ → ℕ → Type 0
LeadsTo target name place = target name ≡ Some place

-- mnemonics

-- `rep` and then `ret` alone
abbrev pub IsRepeatedReturn : List ℕ → Type 0
IsRepeatedReturn text = (rest : List ℕ) × HasWord text (codes "rep") rest × IsPadded rest (codes "ret")

-- what the statement is read as: `ret` for `rep ret`, and itself else
abbrev pub IsReadAs : List ℕ → List ℕ → Type 0
IsReadAs text shown = (IsRepeatedReturn text × (shown ≡ codes "ret")) ⊎ ((IsRepeatedReturn text → ⊥) × (shown ≡ text))

-- what follows a mnemonic is blank, without operands, or operands with commas between them
abbrev pub AreOperands : List ℕ → List (List ℕ) → Type 0
AreOperands text parts =
    ((list_all is_blank text ≡ true) × (parts ≡ []))
    ⊎ ((list_all is_blank text ≡ false) × AreParts 0 text parts)

-- the statement has this mnemonic and these operands' texts
pub record HasParts (text mnemonic : List ℕ) (parts : List (List ℕ)) : Type 0 where
  pub shown : List ℕ
  pub rest : List ℕ
  pub read : IsReadAs text shown
  pub word : HasWord shown mnemonic rest
  pub operands : AreOperands rest parts

-- operands

-- the parts say this, each by itself
abbrev pub AreWritten : List (List ℕ) → List Written → Type 0
AreWritten [] [] = Unit {0}
AreWritten [] (w ∷ ws) = ⊥
AreWritten (part ∷ parts) [] = ⊥
AreWritten (part ∷ parts) (w ∷ ws) = IsOperandPart part w × AreWritten parts ws

-- the word of 64 bits that holds the number, modulo 2^64; 0 stands for a number that none holds
abbrev pub word_of : Bool → ℕ → ℕ
word_of false n = if nat_lt n (2 ^ 64) then n else 0
word_of true n = if nat_le n (2 ^ 63) then (2 ^ 64 - n) % 2 ^ 64 else 0

-- the operand is what was written, with a label at its place; where a label has none, place 0 stands for it
abbrev pub StandsFor : (List ℕ → ℕ → Type 0) → Written → Operand → Type 0
StandsFor L (Immediate negative n) operand = operand ≡ Imm (word_of negative n)
StandsFor L (Label name) operand =
    ((place : ℕ) × L name place × (operand ≡ Target place))
    ⊎ (((place : ℕ) → L name place → ⊥) × (operand ≡ Target 0))
StandsFor L (Plain plain) operand = operand ≡ plain

-- the same of operand after operand
abbrev pub StandFor : (List ℕ → ℕ → Type 0) → List Written → List Operand → Type 0
StandFor L [] [] = Unit {0}
StandFor L [] (o ∷ os) = ⊥
StandFor L (w ∷ ws) [] = ⊥
StandFor L (w ∷ ws) (o ∷ os) = StandsFor L w o × StandFor L ws os

-- a label has a place
abbrev pub HasPlace : (List ℕ → ℕ → Type 0) → Written → Type 0
HasPlace L (Label name) = (place : ℕ) × L name place
HasPlace L (Immediate negative n) = Unit {0}
HasPlace L (Plain operand) = Unit {0}

-- the move that takes all immediates of 64 bits
abbrev pub is_movabs : Op → Bool
is_movabs Movabs = true
is_movabs _ = false

-- the greatest number that is written as an immediate: movabs takes words of 64 bits without a sign, too
abbrev pub greatest_written : Op → ℕ
greatest_written op = if is_movabs op then 2 ^ 64 - 1 else 2 ^ 63 - 1

-- an immediate is one of 64 bits
abbrev pub IsWithin : Op → Written → Type 0
IsWithin op (Immediate negative n) = IsBetween (2 ^ 63) (greatest_written op) negative n
IsWithin op (Label name) = Unit {0}
IsWithin op (Plain operand) = Unit {0}

-- an instruction's four operands
abbrev pub four : List Operand → List Operand
four operands = operands ++ replicate (4 - length operands) Nothing

-- instructions

-- The statement's mnemonic has this shape, and its operands, at most four, say this and stand for these.
pub record IsMade (L : List ℕ → ℕ → Type 0) (text : List ℕ) (shape : Shape)
    (written : List Written) (operands : List Operand) : Type 0 where
  pub mnemonic : List ℕ
  pub parts : List (List ℕ)
  pub has : HasParts text mnemonic parts
  pub row : named table_rows mnemonic ≡ Some shape
  pub few : length parts ≤ 4
  pub spelled : AreWritten parts written
  pub stand : StandFor L written operands

-- the statement on this line is the instruction, with labels at the places that L says
pub record IsInsnText (L : List ℕ → ℕ → Type 0) (text : List ℕ) (line : ℕ) (i : Insn) : Type 0 where
  pub shape : Shape
  pub written : List Written
  pub operands : List Operand
  pub made : IsMade L text shape written operands
  pub within : AllByRecursion (IsWithin shape.op) written
  pub placed : AllByRecursion (HasPlace L) written
  pub fits : fits_of shape (four operands) line ≡ Ok i

-- faults

-- one of these is such
pub record HasSuch {X : Type 0} (P : X → Type 0) (xs : List X) : Type 0 where
  pub place : ℕ
  pub item : X
  pub there : slice_get xs place ≡ Some item
  pub such : P item

-- the table takes no such operands, for this reason (the line plays no part)
pub record IsMisfit (L : List ℕ → ℕ → Type 0) (text : List ℕ) (misfit : Misfit) : Type 0 where
  pub shape : Shape
  pub written : List Written
  pub operands : List Operand
  pub made : IsMade L text shape written operands
  pub fails : fits_of shape (four operands) 0 ≡ Err misfit

-- an immediate is none of 64 bits
pub record HasWideNumber (L : List ℕ → ℕ → Type 0) (text : List ℕ) : Type 0 where
  pub shape : Shape
  pub written : List Written
  pub operands : List Operand
  pub made : IsMade L text shape written operands
  pub beyond : HasSuch (λ w. IsWithin shape.op w → ⊥) written

-- an operand's text says nothing, or there are more than four
abbrev pub HasNoOperands : List (List ℕ) → Type 0
HasNoOperands parts = HasSuch (λ part. (w : Written) → IsOperandPart part w → ⊥) parts ⊎ (4 < length parts)

-- a label that leads nowhere
abbrev pub IsLost : (List ℕ → ℕ → Type 0) → List ℕ → Type 0
IsLost L part = (name : List ℕ) × IsOperandPart part (Label name) × ((place : ℕ) → L name place → ⊥)

-- the statement has a mnemonic and operands' texts of which this holds
abbrev pub HasPartsOf : (List ℕ → List (List ℕ) → Type 0) → List ℕ → Type 0
HasPartsOf P text = (mnemonic : List ℕ) × (parts : List (List ℕ)) × HasParts text mnemonic parts × P mnemonic parts

-- the statement has this fault, whatever else is wrong with it
abbrev pub IsBadStatement : (List ℕ → ℕ → Type 0) → List ℕ → ReadKind → Type 0
IsBadStatement L text UnknownInstruction = HasPartsOf (λ mnemonic parts. named table_rows mnemonic ≡ None) text
IsBadStatement L text PoolRefused = HasPartsOf (λ mnemonic parts. HasSuch IsPoolPart parts) text
IsBadStatement L text BadOperand =
    HasPartsOf (λ mnemonic parts. HasNoOperands parts) text ⊎ IsMisfit L text misfits.BadOperand
IsBadStatement L text BadNumber = IsMisfit L text misfits.BadNumber ⊎ HasWideNumber L text
IsBadStatement L text UnknownLabel = HasPartsOf (λ mnemonic parts. HasSuch (IsLost L) parts) text
IsBadStatement L text _ = ⊥
