-- What is read of a text, as functions on lists.
use Rattle.std.specs.Prelude.{◌≡◌, ℕ, List, [], ◌∷◌, ◌++◌, Option, Some, None, Result, Ok, Err, length}
use Rattle.std.specs.Str.Lines.{lines}
use Rattle.outcomes.specs.Firsts.{◌>>=◌, all_of}
use Rattle.insn_table.specs.declared.insn.Insn.{Insn}
use Rattle.text_lines.specs.declared.refusal.ReadRefusal.{ReadRefusal}
use Rattle.text_lines.specs.Lines.{Item}
use Rattle.text_lines.specs.Kinds.{line_number, refusal}
use Rattle.text_lines.specs.Cutting.{items_of_text}
use Rattle.att_bodies.specs.Faults.{Fault}
use Rattle.att_bodies.specs.Reading.{at_line, counted, target_of, item_of, insns_of, insns_in}
use Rattle.att_statements.specs.ReadingStatements.{statement_of}

-- an answer with its fault as it is told
abbrev pub told : {V : Type 0} → Result V Fault → Result V ReadRefusal
told (Ok v) = Ok v
told (Err e) = Err (refusal e.line e.kind)

-- an answer's instruction as a list
abbrev pub listed : Result (Option Insn) ReadRefusal → Result (List Insn) ReadRefusal
listed (Ok None) = Ok []
listed (Ok (Some i)) = Ok (i ∷ [])
listed (Err e) = Err e

-- an answer's one instruction as a list
abbrev pub single : Result Insn ReadRefusal → Result (List Insn) ReadRefusal
single (Ok i) = Ok (i ∷ [])
single (Err e) = Err e

-- what a statement on line k gives, where labels lead as the look-up says and n instructions stand before it
abbrev pub insn_on : (List ℕ → Option ℕ) → ℕ → ℕ → List ℕ → Result (List Insn) Fault
insn_on target n k x = at_line k (statement_of target x (line_number k)) >>= counted n k

-- what an item of a body gives behind those before it
unfoldable pub item_in : List Item → List Item → Item → Result (List Insn) Fault
item_in body before item = item_of (statement_of (target_of body)) before item

-- what a body gives
unfoldable pub body_in : List Item → Result (List Insn) Fault
body_in body = insns_of (statement_of (target_of body)) body

-- the instructions that were read, and then what is left of a body behind n items
unfoldable pub body_from : List Item → List Item → List Item → List Insn → Result (List Insn) Fault
body_from body before rest insns = all_of (item_in body) before rest >>= λ more. Ok (insns ++ more)

-- an item gave this much more
abbrev pub Grows : Result (List Insn) Fault → List Insn → List Insn → Type 0
Grows (Ok found) old new = new ≡ old ++ found
Grows (Err e) old new = ⊥

-- the instructions of the function of this name that a text spells, or the first fault of its items
unfoldable pub insns_of_text : List ℕ → List ℕ → Result (List Insn) Fault
insns_of_text text name = insns_in statement_of name (length (lines text)) (items_of_text text)
