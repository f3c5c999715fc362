-- What each function of the code reads of statements, as functions on lists.
use Rattle.std.specs.Prelude.{ℕ, zero, suc, ◌^◌, Bool, true, false, ◌&&◌, nat_lt, if◌then◌else◌, List, [], ◌∷◌, map, Option, Some, None, is_none, unwrap_or, Result, Ok, Err, codes, bytes_eq}
use Rattle.std.specs.List.{list_all, list_any}
use Rattle.std.specs.Option.{option_map}
use Rattle.insn_ops.specs.declared.op.Op.{Op}
use Rattle.insn_table.specs.declared.insn.Operand.TheVariants.{Imm, Target, Nothing}
use Rattle.insn_table.specs.declared.insn.Insn.{Insn}
use Rattle.insn_spellings.specs.declared.shape.Shape.{Shape}
use Rattle.insn_table.specs.declared.fitting.Misfit.{Misfit}
use Rattle.insn_table.specs.declared.fitting.Misfit.TheVariants as misfits
use Rattle.insn_spellings.specs.Rows.{named}
use Rattle.insn_spellings.specs.Spellings.{table_rows}
use Rattle.insn_table.specs.Forms.{fits_of}
use Rattle.text_lines.specs.Bytes.{is_blank}
use Rattle.text_lines.specs.Words.{is_solid, prefix_of, behind_prefix, trim}
use Rattle.text_lines.specs.declared.refusal.ReadKind.{ReadKind}
use Rattle.text_lines.specs.declared.refusal.ReadKind.TheVariants.{UnknownInstruction, PoolRefused, BadOperand, BadNumber, UnknownLabel}
use Rattle.att_statements.specs.Operands.{Written, Immediate, Label, Plain}
use Rattle.att_statements.specs.Statements.{word_of, greatest_written}
use Rattle.text_parts.specs.Cuts.{◌>>=◌}
use Rattle.att_statements.specs.ReadingOperands.{are_none, parts_from, written_of, is_pool_part}
use Rattle.att_statements.specs.declared.part.Part.{Part}
use Rattle.att_statements.specs.declared.part.Operands.{Operands}

-- whether the statement is `rep` and then `ret` alone
unfoldable pub is_repeated_return : List ℕ → Bool
is_repeated_return text =
    bytes_eq (prefix_of is_solid text) (codes "rep") && bytes_eq (trim (behind_prefix is_solid text)) (codes "ret")

-- what the statement is read as
unfoldable pub shown_of : List ℕ → List ℕ
shown_of text = if is_repeated_return text then codes "ret" else text

-- the operands' texts behind a mnemonic
unfoldable pub operands_of : List ℕ → List (List ℕ)
operands_of text = if list_all is_blank text then [] else parts_from 0 text

-- whether a number is out of the range of immediates
abbrev pub is_beyond : Op → Bool → ℕ → Bool
is_beyond op false n = nat_lt (greatest_written op) n
is_beyond op true n = nat_lt (2 ^ 63) n

-- no operand
abbrev pub no_part : Part
no_part = record { operand = Nothing; beyond = false; lost = false }

-- an immediate
abbrev pub immediate_part : Op → Bool → ℕ → Part
immediate_part op negative n =
    record { operand = Imm (word_of negative n); beyond = is_beyond op negative n; lost = false }

-- the operand that is written so, whether its number is out of range, and whether its label leads nowhere
abbrev pub part_of : (List ℕ → Option ℕ) → Op → Written → Part
part_of target op (Immediate negative n) = immediate_part op negative n
part_of target op (Label name) =
    record { operand = Target (unwrap_or (target name) 0); beyond = false; lost = is_none (target name) }
part_of target op (Plain operand) = record { operand = operand; beyond = false; lost = false }

-- the part that stands in a text
unfoldable pub part_in : (List ℕ → Option ℕ) → Op → List ℕ → Option Part
part_in target op text = option_map (part_of target op) (written_of (trim text))

-- the first part, or no operand where there is none, and the texts behind it
unfoldable pub next_part : (List ℕ → Option ℕ) → Op → List (List ℕ) → Option (Part × List (List ℕ))
next_part target op [] = Some (no_part, [])
next_part target op (text ∷ texts) = option_map (λ part. (part, texts)) (part_in target op text)

-- n parts, of which the last may be no operands
abbrev pub parts_in : (List ℕ → Option ℕ) → Op → ℕ → List (List ℕ) → Option (List Part)
parts_in target op zero texts = if are_none texts then Some [] else None
parts_in target op (suc n) texts =
    next_part target op texts >>= λ next. option_map (λ parts. next.0 ∷ parts) (parts_in target op n next.1)

-- what is read of a statement's four operands
abbrev pub gathered : List Part → Operands
gathered parts =
    record {
      args = map (λ (part : Part). part.operand) parts;
      beyond = list_any (λ (part : Part). part.beyond) parts;
      lost = list_any (λ (part : Part). part.lost) parts;
    }

-- the four operands that stand in these texts
unfoldable pub four_in : (List ℕ → Option ℕ) → Op → List (List ℕ) → Option Operands
four_in target op texts = do
  first ← next_part target op texts
  second ← next_part target op first.1
  third ← next_part target op second.1
  fourth ← next_part target op third.1
  if are_none fourth.1 then Some (gathered (first.0 ∷ second.0 ∷ third.0 ∷ fourth.0 ∷ [])) else None

-- what is answered where the table takes these operands, or why it doesn't
abbrev pub answered_by : Operands → Result Insn Misfit → Result Insn ReadKind
answered_by operands (Err misfits.BadOperand) = Err BadOperand
answered_by operands (Err misfits.BadNumber) = Err BadNumber
answered_by operands (Ok i) = if operands.beyond then Err BadNumber else if operands.lost then Err UnknownLabel else Ok i

-- the instruction of operands that were read, or BadOperand
abbrev pub fitted_by : Shape → ℕ → Option Operands → Result Insn ReadKind
fitted_by shape line None = Err BadOperand
fitted_by shape line (Some operands) = answered_by operands (fits_of shape operands.args line)

-- the instruction of this shape with these operands' texts
unfoldable pub insn_with : (List ℕ → Option ℕ) → Shape → List (List ℕ) → ℕ → Result Insn ReadKind
insn_with target shape texts line =
    if list_any is_pool_part texts then Err PoolRefused else fitted_by shape line (four_in target shape.op texts)

-- the instruction of a mnemonic that the table has, or UnknownInstruction
abbrev pub insn_by : (List ℕ → Option ℕ) → Option Shape → List (List ℕ) → ℕ → Result Insn ReadKind
insn_by target None texts line = Err UnknownInstruction
insn_by target (Some shape) texts line = insn_with target shape texts line

-- the instruction of the statement on this line, or the first kind of fault that it has
unfoldable pub statement_of : (List ℕ → Option ℕ) → List ℕ → ℕ → Result Insn ReadKind
statement_of target text line =
    insn_by target (named table_rows (prefix_of is_solid (shown_of text)))
    (operands_of (behind_prefix is_solid (shown_of text))) line
