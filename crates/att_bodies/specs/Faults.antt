-- What is wrong with single items of a body, and the first such fault.
use Rattle.std.specs.Prelude.{◌≡◌, ◌⊎◌, ℕ, ◌≤◌, Bool, true, false, List, [], ◌∷◌, codes, bytes_eq}
use Rattle.std.specs.List.{list_any, count_by}
use Rattle.outcomes.specs.Firsts.{HasFault, IsFirst, Precedes}
use Rattle.text_lines.specs.declared.refusal.ReadKind.{ReadKind}
use Rattle.text_lines.specs.declared.refusal.ReadKind.TheVariants.{TwiceLabel, DataInBody, TooManyInsns}
use Rattle.text_lines.specs.Words.{is_solid, prefix_of}
use Rattle.text_lines.specs.Lines.{Item, Label, Statement}
use Rattle.text_lines.specs.Kinds.{rank}
use Rattle.att_bodies.specs.Body.{is_label, is_directive, is_code}

-- a fault of this kind on this line
pub record Fault : Type 0 where
  pub line : ℕ
  pub kind : ReadKind

-- the fault of this kind on this line
abbrev pub fault : ℕ → ReadKind → Fault
fault line kind = record { line = line; kind = kind }

-- the directives that put data into a section
abbrev pub data_words : List (List ℕ)
data_words =
    codes ".byte" ∷ codes ".word" ∷ codes ".short" ∷ codes ".value" ∷ codes ".long" ∷ codes ".int" ∷ codes ".quad"
    ∷ codes ".octa" ∷ codes ".ascii" ∷ codes ".asciz" ∷ codes ".string" ∷ codes ".zero" ∷ codes ".skip"
    ∷ codes ".space" ∷ codes ".fill"
    ∷ codes ".float" ∷ codes ".double" ∷ []

-- a directive whose word is one of these
unfoldable pub is_data : List ℕ → Bool
is_data x = list_any (λ word. bytes_eq word (prefix_of is_solid x)) data_words

-- A fault of an item of a body behind those before it. IsBad says what is wrong with the text of an instruction.
-- A label that stands before; data; a bad instruction; one behind 4,096 others.
abbrev pub IsItemFault : (List ℕ → ReadKind → Type 0) → List Item → Item → Fault → Type 0
IsItemFault IsBad before (Label name k) e = (e ≡ fault k TwiceLabel) × (list_any (is_label name) before ≡ true)
IsItemFault IsBad before (Statement x k) e =
    ((e ≡ fault k DataInBody) × (is_directive x ≡ true) × (is_data x ≡ true))
    ⊎ (((is_directive x ≡ false) × (e.line ≡ k) × IsBad x e.kind)
    ⊎ ((e ≡ fault k TooManyInsns) × (is_directive x ≡ false) × (4096 ≤ count_by is_code before)))

-- on a lesser line, or on the same line and of a kind that is told no later
abbrev pub FaultPrecedes : Fault → Fault → Type 0
FaultPrecedes e other = Precedes (λ (f : Fault). f.line) (λ (f : Fault). rank f.kind) e other

-- something is wrong with an item of the body
abbrev pub HasBodyFault : (List ℕ → ReadKind → Type 0) → List Item → Fault → Type 0
HasBodyFault IsBad body e = HasFault (IsItemFault IsBad) [] body e

-- the first fault of the body
abbrev pub IsFirstFault : (List ℕ → ReadKind → Type 0) → List Item → Fault → Type 0
IsFirstFault IsBad body e = IsFirst (IsItemFault IsBad) FaultPrecedes [] body e
