-- Function text: the function that a text spells under a name, or why the text is refused. Lines are in text_lines,
-- bodies and their faults in att_bodies, single statements in att_statements.
use Rattle.std.specs.Prelude.{◌≡◌, ℕ, false, List, [], length}
use Rattle.std.specs.List.{list_any}
use Rattle.std.specs.Str.{IsUtf8}
use Rattle.std.specs.Str.Lines.{lines}
use Rattle.insn_table.specs.declared.insn.Function.{Function}
use Rattle.text_lines.specs.declared.refusal.ReadKind.TheVariants.{NotUtf8, LineLong}
use Rattle.text_lines.specs.declared.refusal.ReadRefusal.{ReadRefusal}
use Rattle.text_lines.specs.Lines.{Item}
use Rattle.text_lines.specs.Texts.{AreItems, IsNotUtf8, is_long, IsLongLine}
use Rattle.text_lines.specs.Kinds.{refusal}
use Rattle.att_bodies.specs.Faults.{Fault}
use Rattle.att_bodies.specs.Functions as body
use Rattle.att_statements.specs.Statements.{IsInsnText, IsBadStatement}

-- the text is UTF-8, and no line has more than 4,096 bytes
pub record IsLegible (text : List ℕ) : Type 0 where
  pub utf8 : IsUtf8 text
  pub short : list_any is_long (lines text) ≡ false

-- the text spells this function under the name
pub record IsFunctionText (text name : List ℕ) (f : Function) : Type 0 where
  pub legible : IsLegible text
  pub items : List Item
  pub holds : AreItems text items
  pub function : body.IsFunction IsBadStatement IsInsnText name items f.insns
  pub named : f.name ≡ name
  pub no_pool : f.pool ≡ []

-- the text is refused: it is no UTF-8, or has a long line, or else its items are refused
pub data IsFunctionRefusal (text name : List ℕ) (e : ReadRefusal) : Type 0 where
  NoText : (k : ℕ) → IsNotUtf8 text k → e ≡ refusal k NotUtf8 → IsFunctionRefusal text name e
  Long : IsUtf8 text → (k : ℕ) → IsLongLine text k → e ≡ refusal k LineLong → IsFunctionRefusal text name e
  Faulty : IsLegible text → (items : List Item) → AreItems text items → (fault : Fault)
      → body.AreRefused IsBadStatement IsInsnText name (length (lines text)) items fault
      → e ≡ refusal fault.line fault.kind → IsFunctionRefusal text name e
