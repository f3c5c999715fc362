-- What each function of the code reads of a line, as functions on lists.
use Rattle.std.specs.Prelude.{ℕ, zero, suc, ◌-◌, ◌%◌, ◌^◌, Bool, true, false, not, ◌&&◌, ◌||◌, ◌==◌, nat_lt, nat_le, if◌then◌else◌, List, [], ◌∷◌, length, map, Option, Some, None, is_none, codes, bytes_eq}
use Rattle.std.specs.List.{list_all}
use Rattle.std.specs.Option.{option_map, option_or}
use Rattle.insn_ops.specs.declared.output.Output.{Output}
use Rattle.insn_ops.specs.declared.output.Output.TheVariants.{Reg, Vec}
use Rattle.admission.specs.declared.expr.Term.{Term}
use Rattle.admission.specs.declared.expr.Expr.{Expr}
use Rattle.admission.specs.declared.admission.Rel.{Rel}
use Rattle.admission.specs.declared.admission.Rel.TheVariants.{Eq, Ne, Lt, Le, Slt, Sle}
use Rattle.admission.specs.declared.admission.Need.{Need}
use Rattle.admission.specs.declared.admission.Need.TheVariants.{Compare, Modulo}
use Rattle.admission.specs.declared.admission.RegionLine.{RegionLine}
use Rattle.admission_text.specs.declared.entry.Draft.{Draft}
use Rattle.admission_text.specs.declared.entry.Entry.{Entry}
use Rattle.admission_text.specs.declared.entry.Entry.TheVariants as entries
use Rattle.admission_text.specs.declared.entry.Keyword.{Keyword}
use Rattle.admission_text.specs.declared.entry.Keyword.TheVariants as words
use Rattle.register_names.specs.Reading.{register_named, register_number}
use Rattle.text_parts.specs.Cuts.{◌>>=◌, after_byte, cut_at, first_part, five_words, four_words, one_word, parts_left, three_words, two_words}
use Rattle.text_parts.specs.Numbers.{amount_of, within}
use Rattle.admission_text.specs.Grammar.{is_lower, is_name_byte, region_number}

-- the number below 2^64 that is written so
unfoldable pub word_number : List ℕ → Option ℕ
word_number text = within (2 ^ 64 - 1) (amount_of text)

-- registers

-- the number of the 64-bit register that is written so
unfoldable pub register_of : List ℕ → Option ℕ
register_of text = after_byte 37 text >>= register_number 64

-- the output that register n of w bits is
abbrev pub output_at : ℕ → ℕ → Output
output_at w n = if nat_le w 64 then Reg n w else Vec n w

-- the output that is written so
unfoldable pub output_of : List ℕ → Option Output
output_of text = do
  name ← after_byte 37 text
  register ← register_named name
  Some (output_at register.0 register.1)

-- the outputs that are written so, one a word
unfoldable pub outputs_of : List (List ℕ) → Option (List Output)
outputs_of [] = Some []
outputs_of (word ∷ more) = output_of word >>= λ output. (outputs_of more >>= λ rest. Some (output ∷ rest))

-- expressions

-- the product of a number and a register, or one of the two
abbrev pub term_by : Bool → Option (List ℕ × List ℕ) → List ℕ → Option Term
term_by minus None text =
    option_or (option_map (λ n. record { minus = minus; c = 1; reg = Some n }) (register_of text))
    (option_map (λ c. record { minus = minus; c = c; reg = None }) (word_number text))
term_by minus (Some factors) text =
    word_number factors.0 >>= λ c. register_of factors.1 >>= λ n. Some (record { minus = minus; c = c; reg = Some n })

-- the term that is written so, added or subtracted
unfoldable pub term_of : Bool → List ℕ → Option Term
term_of minus text = term_by minus (cut_at 42 text) text

-- a byte before the first of two parts
abbrev pub onto_term : ℕ → Option (List ℕ × Bool × List ℕ) → Option (List ℕ × Bool × List ℕ)
onto_term b None = None
onto_term b (Some found) = Some (b ∷ found.0, found.1, found.2)

-- what stands before and behind the first `+` or `-`, and whether it is `-`
unfoldable pub cut_sign : List ℕ → Option (List ℕ × Bool × List ℕ)
cut_sign [] = None
cut_sign (b ∷ bs) = if (b == 43) || (b == 45) then Some ([], b == 45, bs) else onto_term b (cut_sign bs)

-- a term, and then what stands behind a sign
abbrev pub terms_by : Option (List ℕ × Bool × List ℕ) → Bool → List ℕ → (Bool → List ℕ → Option (List Term)) → Option (List Term)
terms_by None minus text more = term_of minus text >>= λ t. Some (t ∷ [])
terms_by (Some cut) minus text more = term_of minus cut.0 >>= λ t. (more cut.1 cut.2 >>= λ ts. Some (t ∷ ts))

-- at most so many terms, the first one added or subtracted
unfoldable pub terms_of : ℕ → Bool → List ℕ → Option (List Term)
terms_of zero minus text = None
terms_of (suc left) minus text = terms_by (cut_sign text) minus text (terms_of left)

-- the expression that is written so
unfoldable pub expr_of : List ℕ → Option Expr
expr_of text = terms_of 8 false text >>= λ ts. Some (record { terms = ts })

-- lines

-- the relation that is written so
unfoldable pub relation_of : List ℕ → Option Rel
relation_of word =
    if bytes_eq word (codes "=") then Some Eq
    else if bytes_eq word (codes "!=") then Some Ne
    else if bytes_eq word (codes "<") then Some Lt
    else if bytes_eq word (codes "<=") then Some Le
    else if bytes_eq word (codes "s<") then Some Slt
    else if bytes_eq word (codes "s<=") then Some Sle
    else None

-- a power of two from 2 to 4,096
abbrev pub is_modulus : ℕ → Bool
is_modulus m =
    (m == 2) || ((m == 4) || ((m == 8) || ((m == 16) || ((m == 32) || ((m == 64) || ((m == 128) || ((m == 256) || ((m == 512)
    || ((m == 1024) || ((m == 2048) || (m == 4096)))))))))))

-- a name of a region: a lower-case letter, and then at most 15 letters and digits
unfoldable pub is_region_name : List ℕ → Bool
is_region_name [] = false
is_region_name (b ∷ bs) = is_lower b && (list_all is_name_byte bs && nat_le (length bs) 15)

-- whether a region may be written
unfoldable pub right_of : List ℕ → Option Bool
right_of word = if bytes_eq word (codes "write") then Some true else if bytes_eq word (codes "read") then Some false else None

-- the names of the regions so far
abbrev pub names_of : Draft → List (List ℕ)
names_of d = map (λ (r : RegionLine). r.name) d.admission.regions

-- `NAME BASE LEN RIGHT` behind `region`
unfoldable pub region_entry : Draft → List ℕ → Option Entry
region_entry d rest = do
  found ← four_words rest
  write ← right_of found.3
  base ← (if is_region_name found.0 && is_none (region_number found.0 (names_of d)) then expr_of found.1 else None)
  len ← expr_of found.2
  Some (entries.Region (record { name = found.0; base = base; len = len; write = write }))

-- `E mod M = R` behind `require`
unfoldable pub modulo_need : List ℕ → List ℕ → List ℕ → List ℕ → List ℕ → Option Need
modulo_need left word modulus equals rest = do
  m ← (if bytes_eq word (codes "mod") && bytes_eq equals (codes "=") then word_number modulus else None)
  r ← word_number rest
  a ← (if is_modulus m && nat_lt r m then expr_of left else None)
  Some (Modulo a m r)

-- `E RELATION E` behind `require`
unfoldable pub compare_need : List ℕ → List ℕ → List ℕ → Option Need
compare_need left word right = do
  rel ← relation_of word
  a ← expr_of left
  b ← expr_of right
  Some (Compare a rel b)

-- the need that five words spell, or else three
abbrev pub need_by : Option (List ℕ × List ℕ × List ℕ × List ℕ × List ℕ) → List ℕ → Option Need
need_by None rest = three_words rest >>= λ found. compare_need found.0 found.1 found.2
need_by (Some found) rest = modulo_need found.0 found.1 found.2 found.3 found.4

-- what stands behind `require`
unfoldable pub require_entry : List ℕ → Option Entry
require_entry rest = need_by (five_words rest) rest >>= λ n. Some (entries.Require n)

-- `NAME NAME` behind `apart`
unfoldable pub apart_entry : Draft → List ℕ → Option Entry
apart_entry d rest = do
  found ← two_words rest
  i ← region_number found.0 (names_of d)
  j ← region_number found.1 (names_of d)
  if i == j then None else Some (entries.Apart i j)

-- `BASE LEN` behind `scratch`
unfoldable pub scratch_entry : List ℕ → Option Entry
scratch_entry rest = do
  found ← two_words rest
  base ← expr_of found.0
  len ← expr_of found.1
  Some (entries.Scratch base len)

-- the number behind `stack`, where no line before was `stack`
unfoldable pub stack_entry : Draft → List ℕ → Option Entry
stack_entry d rest = do
  word ← (if d.stacked then None else one_word rest)
  n ← word_number word
  if ((n % 8) == 0) && nat_le n 4096 then Some (entries.Stack n) else None

-- the outputs behind `live`, where no line before was `live`
unfoldable pub live_entry : Draft → Option (List ℕ) → Option Entry
live_entry d rest = if d.lived then None else (outputs_of (parts_left 32 rest) >>= λ live. Some (entries.Live live))

-- the `1` behind `admit`, on the first line alone
unfoldable pub header_entry : Draft → List ℕ → Option Entry
header_entry d rest = if d.headed || not (bytes_eq rest (codes "1")) then None else Some entries.Header

-- the word that begins a line
unfoldable pub keyword_of : List ℕ → Option Keyword
keyword_of word =
    if bytes_eq word (codes "admit") then Some words.Admit
    else if bytes_eq word (codes "region") then Some words.Region
    else if bytes_eq word (codes "require") then Some words.Require
    else if bytes_eq word (codes "apart") then Some words.Apart
    else if bytes_eq word (codes "scratch") then Some words.Scratch
    else if bytes_eq word (codes "stack") then Some words.Stack
    else if bytes_eq word (codes "live") then Some words.Live
    else None

-- what a line of this keyword spells, by what stands behind the keyword's space
abbrev pub entry_with : Draft → Keyword → Option (List ℕ) → Option Entry
entry_with d words.Admit rest = rest >>= header_entry d
entry_with d words.Region rest = rest >>= region_entry d
entry_with d words.Require rest = rest >>= require_entry
entry_with d words.Apart rest = rest >>= apart_entry d
entry_with d words.Scratch rest = rest >>= scratch_entry
entry_with d words.Stack rest = rest >>= stack_entry d
entry_with d words.Live rest = live_entry d rest

-- the keyword of the first line
abbrev pub is_admit : Keyword → Bool
is_admit words.Admit = true
is_admit _ = false

-- what a line spells behind those that made the draft: the first line is `admit 1`
unfoldable pub entry_of : Draft → List ℕ → Option Entry
entry_of d text = do
  keyword ← keyword_of (first_part 32 text).0
  if d.headed || is_admit keyword then entry_with d keyword (first_part 32 text).1 else None
