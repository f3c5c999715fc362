-- What the code reads of a whole text: line by line, up to the first fault.
use Rattle.std.specs.Prelude.{ℕ, ◌+◌, ◌-◌, ◌^◌, min, Bool, true, false, ◌||◌, nat_le, if◌then◌else◌, List, [], ◌∷◌, length, Option, Some, None, Result, Ok, Err}
use Rattle.outcomes.specs.Firsts.{◌>>=◌}
use Rattle.admission.specs.declared.admission.Admission.{Admission}
use Rattle.admission_text.specs.declared.entry.Draft.{Draft}
use Rattle.admission_text.specs.declared.entry.Entry.{Entry}
use Rattle.admission_text.specs.declared.entry.Entry.TheVariants.{Header, Region, Require, Apart, Scratch, Stack, Live}
use Rattle.admission.specs.declared.refusal.AdmitRefusal.{AdmitRefusal}
use Rattle.admission.specs.declared.refusal.AdmitRefusal.TheVariants.{BadLine, TooMany, NoLive}
use Rattle.text_parts.specs.Cuts.{parts}
use Rattle.admission_text.specs.Grammar.{is_skipped}
use Rattle.admission_text.specs.Entries.{no_admission, with_entry}
use Rattle.admission_text.specs.Reading.{entry_of}

-- before the first line
abbrev pub no_draft : Draft
no_draft = record { admission = no_admission; headed = false; stacked = false; lived = false }

-- the line is one too many of its kind
abbrev pub is_over : Draft → Entry → Bool
is_over d Header = false
is_over d (Region r) = nat_le 8 (length d.admission.regions)
is_over d (Require n) = nat_le 32 (length d.admission.needs)
is_over d (Apart i j) = nat_le 28 (length d.admission.aparts)
is_over d (Scratch base len) = nat_le 4 (length d.admission.scratch)
is_over d (Stack n) = false
is_over d (Live live) = nat_le 17 (length live)

-- a line of stack bytes
abbrev pub is_stack : Entry → Bool
is_stack (Stack n) = true
is_stack _ = false

-- a line of live outputs
abbrev pub is_live : Entry → Bool
is_live (Live live) = true
is_live _ = false

-- the draft behind a line
abbrev pub drafted_with : Draft → Entry → Draft
drafted_with d e = record {
  admission = with_entry d.admission e;
  headed = true;
  stacked = d.stacked || is_stack e;
  lived = d.lived || is_live e;
}

-- a line of this number
abbrev pub judged : ℕ → Draft → Option Entry → Result Draft AdmitRefusal
judged line d None = Err (BadLine line)
judged line d (Some e) = if is_over d e then Err (TooMany line) else Ok (drafted_with d e)

-- the draft behind a line, skipped or read
unfoldable pub behind_line : ℕ → Draft → List ℕ → Result Draft AdmitRefusal
behind_line line d text = if is_skipped text then Ok d else judged line d (entry_of d text)

-- the number of the line that follows
abbrev pub next_line : ℕ → ℕ
next_line line = min (line + 1) (2 ^ 32 - 1)

-- the draft behind these lines, which follow the line of this number
unfoldable pub behind_lines : ℕ → Draft → List (List ℕ) → Result Draft AdmitRefusal
behind_lines line d [] = Ok d
behind_lines line d (text ∷ texts) = behind_line (next_line line) d text >>= λ e. behind_lines (next_line line) e texts

-- the admission, if a line was `live`
abbrev pub finished : Draft → Result Admission AdmitRefusal
finished d = if d.lived then Ok d.admission else Err NoLive

-- the admission that a text spells, or its first fault
unfoldable pub admission_of : List ℕ → Result Admission AdmitRefusal
admission_of text = behind_lines 0 no_draft (parts 10 text) >>= finished
