-- What is read of a body, as functions on lists, over any reader r of single instructions.
use Rattle.std.specs.Prelude.{ℕ, ◌+◌, ◌-◌, ◌^◌, min, Bool, true, false, nat_lt, if◌then◌else◌, List, [], ◌∷◌, length, Option, Some, None, Result, Ok, Err, slice_get}
use Rattle.std.specs.List.{list_any, count_by}
use Rattle.std.specs.Option.{option_map_or}
use Rattle.outcomes.specs.Firsts.{◌>>=◌, all_of}
use Rattle.insn_ops.specs.declared.op.Op.{Op}
use Rattle.insn_ops.specs.declared.op.Op.TheVariants.{Jmp, Ret}
use Rattle.insn_table.specs.declared.insn.Insn.{Insn}
use Rattle.text_lines.specs.declared.refusal.ReadKind.{ReadKind}
use Rattle.text_lines.specs.declared.refusal.ReadKind.TheVariants.{NoFunction, TwiceLabel, DataInBody, TooManyInsns, FallsOff}
use Rattle.text_lines.specs.Lines.{Item, Label, Statement}
use Rattle.text_lines.specs.Kinds.{line_number}
use Rattle.att_bodies.specs.Body.{is_label, is_directive, is_code, ends_body}
use Rattle.att_bodies.specs.Faults.{Fault, fault, is_data}
use Rattle.att_bodies.specs.Functions.{last_line}

-- the items up to the first that ends the body
unfoldable pub inside_of : List ℕ → List Item → List Item
inside_of name [] = []
inside_of name (i ∷ is) = if ends_body name i then [] else i ∷ inside_of name is

-- the items from the first on that ends the body
unfoldable pub behind_body : List ℕ → List Item → List Item
behind_body name [] = []
behind_body name (i ∷ is) = if ends_body name i then i ∷ is else behind_body name is

-- the body that begins with the first item, and what stands behind it
abbrev pub body_split : List ℕ → List Item → List Item × List Item
body_split name [] = ([], [])
body_split name (i ∷ is) = (i ∷ inside_of name is, behind_body name is)

-- the body of the function of this name, and what stands behind it
unfoldable pub extent_of : List ℕ → List Item → Option (List Item × List Item)
extent_of name [] = None
extent_of name (i ∷ is) = if is_label name i then Some (body_split name (i ∷ is)) else extent_of name is

-- how many instructions an item is
abbrev pub count_of : Item → ℕ
count_of i = if is_code i then 1 else 0

-- the number of instructions before the first label of the name, and whether one stands behind it
unfoldable pub target_from : ℕ → List Item → List ℕ → Option ℕ
target_from n [] name = None
target_from n (i ∷ is) name =
    if is_label name i then (if list_any is_code is then Some (min n (2 ^ 32 - 1)) else None)
    else target_from (n + count_of i) is name

-- where a jump to the name leads in a body
unfoldable pub target_of : List Item → List ℕ → Option ℕ
target_of body name = target_from 0 body name

-- the instruction read on line k, or the fault there
abbrev pub at_line : ℕ → Result Insn ReadKind → Result Insn Fault
at_line k (Ok i) = Ok i
at_line k (Err kind) = Err (fault k kind)

-- at most 4,096 instructions, where n stand before this one
abbrev pub counted : ℕ → ℕ → Insn → Result (List Insn) Fault
counted n k i = if nat_lt n 4096 then Ok (i ∷ []) else Err (fault k TooManyInsns)

-- what an item gives behind those before it
abbrev pub item_of : (List ℕ → ℕ → Result Insn ReadKind) → List Item → Item → Result (List Insn) Fault
item_of r before (Label name k) = if list_any (is_label name) before then Err (fault k TwiceLabel) else Ok []
item_of r before (Statement x k) =
    if is_directive x then (if is_data x then Err (fault k DataInBody) else Ok [])
    else (at_line k (r x (line_number k)) >>= counted (count_by is_code before) k)

-- the instructions of a body
abbrev pub insns_of : (List ℕ → ℕ → Result Insn ReadKind) → List Item → Result (List Insn) Fault
insns_of r body = all_of (item_of r) [] body

-- an operation behind which the next instruction is not run
abbrev pub is_leaving : Op → Bool
is_leaving Ret = true
is_leaving Jmp = true
is_leaving _ = false

-- whether the last instruction returns or jumps
abbrev pub leaves : List Insn → Bool
leaves insns = option_map_or (λ (i : Insn). is_leaving i.op) (slice_get insns (length insns - 1)) false

-- the instructions, where the last of them leaves
abbrev pub closed_by : ℕ → List Item → List Item → List Insn → Result (List Insn) Fault
closed_by lines body after insns = if leaves insns then Ok insns else Err (fault (last_line lines body after) FallsOff)

-- what a body gives
abbrev pub read_extent : ((List ℕ → Option ℕ) → List ℕ → ℕ → Result Insn ReadKind)
    → ℕ → Option (List Item × List Item) → Result (List Insn) Fault
read_extent r lines None = Err (fault 0 NoFunction)
read_extent r lines (Some found) = insns_of (r (target_of found.0)) found.0 >>= closed_by lines found.0 found.1

-- the instructions of the function of this name, or the first fault
abbrev pub insns_in : ((List ℕ → Option ℕ) → List ℕ → ℕ → Result Insn ReadKind)
    → List ℕ → ℕ → List Item → Result (List Insn) Fault
insns_in r name lines items = read_extent r lines (extent_of name items)
