-- What each function of the code reads of operands, as functions on lists.
use Rattle.std.specs.Prelude.{ℕ, ◌-◌, ◌^◌, ℤ, pos, Bool, true, false, ◌&&◌, ◌||◌, ◌==◌, nat_lt, nat_le, if◌then◌else◌, List, [], ◌∷◌, length, take, Option, Some, None, is_some, slice_index, codes, bytes_eq}
use Rattle.std.specs.Option.{option_map}
use Rattle.insn_table.specs.declared.insn.Operand.{Operand}
use Rattle.insn_table.specs.declared.insn.Operand.TheVariants.{Mem}
use Rattle.text_lines.specs.Bytes.{is_name_byte}
use Rattle.text_lines.specs.Words.{is_name, prefix_of, behind_prefix, trim}
use Rattle.text_parts.specs.Cuts.{◌>>=◌, after_byte, cut_at}
use Rattle.text_parts.specs.Numbers.{amount_of, capped, decimal_of, digits_of}
use Rattle.register_names.specs.Reading.{register_named, register_number}
use Rattle.att_statements.specs.Operands.{Written, Immediate, Label, Plain, register_operand, open_behind, integer}

-- numbers

-- whether a number is negative, and its amount
abbrev pub signed_by : Option (List ℕ) → List ℕ → Option (Bool × ℕ)
signed_by (Some amount) text = option_map (λ (n : ℕ). (true, n)) (capped (amount_of amount))
signed_by None text = option_map (λ (n : ℕ). (false, n)) (capped (amount_of text))

-- whether a number has a minus sign, and its amount
unfoldable pub number_of : List ℕ → Option (Bool × ℕ)
number_of text = signed_by (after_byte 45 text) text

-- registers

-- the register with this name, as an operand
unfoldable pub operand_named : List ℕ → Option Operand
operand_named name = option_map (λ r. register_operand r.0 r.1) (register_named name)

-- commas

-- a byte before the first of some parts
abbrev pub onto_first : ℕ → List (List ℕ) → List (List ℕ)
onto_first b [] = []
onto_first b (part ∷ parts) = (b ∷ part) ∷ parts

-- the parts between commas outside parentheses, of which n are open
unfoldable pub parts_from : ℕ → List ℕ → List (List ℕ)
parts_from n [] = [] ∷ []
parts_from n (b ∷ bs) =
    if (b == 44) && (n == 0) then [] ∷ parts_from 0 bs else onto_first b (parts_from (open_behind n b) bs)

-- whether there is no text
abbrev pub are_none : List (List ℕ) → Bool
are_none [] = true
are_none (text ∷ texts) = false

-- the parts of a text, if there is one
abbrev pub parts_left : Option (List ℕ) → List (List ℕ)
parts_left None = []
parts_left (Some text) = parts_from 0 text

-- memory

-- what stands before this last byte
unfoldable pub before_byte : ℕ → List ℕ → Option (List ℕ)
before_byte byte text =
    if nat_lt 0 (length text) && (slice_index text (length text - 1) == byte) then Some (take (length text - 1) text)
    else None

-- what stands before the first parenthesis, and inside it and one at the end
unfoldable pub parenthesised : List ℕ → Option (List ℕ × List ℕ)
parenthesised text = do
  cut ← cut_at 40 text
  inside ← before_byte 41 cut.1
  Some (cut.0, inside)

-- an integer from -2^31 to 2^31 - 1
abbrev pub small_integer : Bool × ℕ → Option ℤ
small_integer number =
    if number.0 then (if nat_le number.1 (2 ^ 31) then Some (integer true number.1) else None)
    else (if nat_lt number.1 (2 ^ 31) then Some (integer false number.1) else None)

-- a displacement, which may be left out
unfoldable pub displacement_in : List ℕ → Option ℤ
displacement_in text = if length text == 0 then Some (pos 0) else (number_of text >>= small_integer)

-- a 64-bit register, with blanks around it
unfoldable pub address_register : List ℕ → Option ℕ
address_register part = after_byte 37 (trim part) >>= register_number 64

-- a base, which may be left out
unfoldable pub base_of : List ℕ → Option (Option ℕ)
base_of part = if length (trim part) == 0 then Some None else option_map (λ (n : ℕ). Some n) (address_register part)

-- an index
unfoldable pub index_of : List ℕ → Option (Option ℕ)
index_of part = address_register part >>= (λ (n : ℕ). if n == 4 then None else Some (Some n))

-- the scale that one digit is
abbrev pub scale_by : List ℕ → Option ℕ
scale_by (b ∷ []) =
    if b == 49 then Some 1 else if b == 50 then Some 2 else if b == 52 then Some 4 else if b == 56 then Some 8 else None
scale_by _ = None

-- a scale, with blanks around it
unfoldable pub scale_of : List ℕ → Option ℕ
scale_of part = scale_by (trim part)

-- base, index and scale
abbrev pub Address : Type 0
Address = Option ℕ × Option ℕ × ℕ

-- what stands inside the parentheses of memory
unfoldable pub address_in : List (List ℕ) → Option Address
address_in [] = None
address_in (base ∷ []) = option_map (λ (n : ℕ). (Some n, None, 1)) (address_register base)
address_in (base ∷ index ∷ []) = base_of base >>= λ b. option_map (λ i. (b, i, 1)) (index_of index)
address_in (base ∷ index ∷ scale ∷ parts) =
    if are_none parts
    then (base_of base >>= λ b. (index_of index >>= λ i. option_map (λ (s : ℕ). (b, i, s)) (scale_of scale)))
    else None

-- memory, by what stands before and inside its parentheses
unfoldable pub memory_of : List ℕ → List ℕ → Option Operand
memory_of before inside = do
  disp ← displacement_in before
  address ← address_in (parts_from 0 inside)
  Some (Mem address.0 address.1 address.2 disp)

-- symbols and labels

-- what may follow the name of a symbol: nothing, or a sign and a decimal number
abbrev pub is_offset : List ℕ → Bool
is_offset [] = true
is_offset (sign ∷ digits) = ((sign == 43) || (sign == 45)) && is_some (capped (decimal_of digits))

-- a name, and behind it nothing or an offset
unfoldable pub is_symbol : List ℕ → Bool
is_symbol text = is_name (prefix_of is_name_byte text) && is_offset (behind_prefix is_name_byte text)

-- a symbol, and then `%rip` in parentheses
abbrev pub is_relative : Option (List ℕ × List ℕ) → Bool
is_relative None = false
is_relative (Some parts) = is_symbol parts.0 && bytes_eq (trim parts.1) (codes "%rip")

-- whether the part is a symbol and `(%rip)`, with blanks around
unfoldable pub is_pool_part : List ℕ → Bool
is_pool_part part = is_relative (parenthesised (trim part))

-- operands

-- a label, if the text is a name
abbrev pub label_of : List ℕ → Option Written
label_of text = if is_name text then Some (Label text) else None

-- an immediate, or a label whose name begins with `$`
abbrev pub dollar_by : Option (Bool × ℕ) → Bool → List ℕ → Option Written
dollar_by (Some number) leading text = Some (Immediate number.0 number.1)
dollar_by None leading text = if leading then None else label_of text

-- an operand without parentheses: what stands behind `$`, behind `%`, and the text
abbrev pub bare_by : Option (List ℕ) → Option (List ℕ) → List ℕ → Option Written
bare_by (Some number) name text = dollar_by (number_of number) (is_some (capped (digits_of 10 number))) text
bare_by None (Some name) text = option_map (λ o. Plain o) (operand_named name)
bare_by None None text = label_of text

-- the operand with what stands before and inside its parentheses, or without any
abbrev pub written_by : Option (List ℕ × List ℕ) → List ℕ → Option Written
written_by (Some parts) text = option_map (λ o. Plain o) (memory_of parts.0 parts.1)
written_by None text = bare_by (after_byte 36 text) (after_byte 37 text) text

-- what an operand's text says; an amount above 2^64 is given as that
unfoldable pub written_of : List ℕ → Option Written
written_of text = written_by (parenthesised text) text
