-- The function that the items of a text spell, or why they spell none. IsBad and IsInsn say what the texts of single
-- instructions are, where labels lead as their first argument says.
use Rattle.std.specs.Prelude.{◌≡◌, ℕ, ◌-◌, ◌==◌, false, if◌then◌else◌, List, [], ◌∷◌, length, slice_get, Some}
use Rattle.std.specs.List.{list_any, filter, AllZip}
use Rattle.insn_table.specs.declared.insn.Insn.{Insn}
use Rattle.insn_table.specs.Closed.{IsLeaving}
use Rattle.text_lines.specs.declared.refusal.ReadKind.{ReadKind}
use Rattle.text_lines.specs.declared.refusal.ReadKind.TheVariants.{NoFunction, FallsOff}
use Rattle.text_lines.specs.Lines.{Item, Label, Statement}
use Rattle.text_lines.specs.Kinds.{line_number}
use Rattle.att_bodies.specs.Body.{is_label, is_code, IsExtent, IsTarget}
use Rattle.att_bodies.specs.Faults.{Fault, fault, HasBodyFault, IsFirstFault}

-- the text of an instruction spells it, with the number of its line
abbrev pub Spells : (List ℕ → ℕ → Insn → Type 0) → Item → Insn → Type 0
Spells IsInsn (Label name k) i = ⊥
Spells IsInsn (Statement x k) i = IsInsn x (line_number k) i

-- the instructions of the body, one after another
abbrev pub AreInsns : (List ℕ → ℕ → Insn → Type 0) → List Item → List Insn → Type 0
AreInsns IsInsn body insns = AllZip (Spells IsInsn) (filter is_code body) insns

-- the last instruction returns or jumps
pub record Leaves (insns : List Insn) : Type 0 where
  pub last : Insn
  pub there : slice_get insns (length insns - 1) ≡ Some last
  pub leaves : IsLeaving last.op

-- the line of an item
abbrev pub line_of : Item → ℕ
line_of (Label name k) = k
line_of (Statement x k) = k

-- The last line of a body: the text's last one, or the one before the item that ends it, unless that shares its line.
abbrev pub last_line : ℕ → List Item → List Item → ℕ
last_line lines body [] = lines
last_line lines body (ending ∷ more) =
    if list_any (λ i. line_of i == line_of ending) body then line_of ending else line_of ending - 1

module _ (IsBad : (List ℕ → ℕ → Type 0) → List ℕ → ReadKind → Type 0)
    (IsInsn : (List ℕ → ℕ → Type 0) → List ℕ → ℕ → Insn → Type 0) (name : List ℕ) where
  -- the function of this name has these instructions
  pub record IsFunction (items : List Item) (insns : List Insn) : Type 0 where
    pub body : List Item
    pub after : List Item
    pub extent : IsExtent name items body after
    pub sound : (e : Fault) → HasBodyFault (IsBad (IsTarget body)) body e → ⊥
    pub read : AreInsns (IsInsn (IsTarget body)) body insns
    pub leaves : Leaves insns

  -- the items of a text of so many lines are refused: no label has the name, or there is a fault, or else the last
  -- instruction goes on
  pub data AreRefused (lines : ℕ) (items : List Item) (e : Fault) : Type 0 where
    Missing : list_any (is_label name) items ≡ false → e ≡ fault 0 NoFunction → AreRefused lines items e
    Faulty : (body after : List Item) → IsExtent name items body after
        → IsFirstFault (IsBad (IsTarget body)) body e → AreRefused lines items e
    Open : (body after : List Item) (insns : List Insn) → IsExtent name items body after
        → ((other : Fault) → HasBodyFault (IsBad (IsTarget body)) body other → ⊥)
        → AreInsns (IsInsn (IsTarget body)) body insns
        → (Leaves insns → ⊥) → e ≡ fault (last_line lines body after) FallsOff → AreRefused lines items e
