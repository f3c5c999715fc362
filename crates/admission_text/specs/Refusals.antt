-- Why a text is no admission: its first fault.
use Rattle.std.specs.Prelude.{◌≡◌, ◌⊎◌, ℕ, ◌-◌, ◌^◌, min, true, false, List, [], codes}
use Rattle.outcomes.specs.Firsts.{HasFault, IsFirst, Precedes}
use Rattle.admission_text.specs.declared.entry.Entry.{Entry}
use Rattle.admission.specs.declared.refusal.AdmitRefusal.{AdmitRefusal}
use Rattle.admission.specs.declared.refusal.AdmitRefusal.TheVariants.{BadLine, TooMany, NoLive, Memory}
use Rattle.admission_text.specs.Grammar.{IsEntry, Line, has_line, lines_of}
use Rattle.admission_text.specs.Entries.{goes_over}

-- a line that spells nothing behind those before it, or one too many
abbrev pub IsLineFault : List Line → Line → AdmitRefusal → Type 0
IsLineFault before l e =
    ((e ≡ BadLine l.number) × ((entry : Entry) → IsEntry before l.words entry → ⊥))
    ⊎ ((e ≡ TooMany l.number) × (goes_over before l.words ≡ true))

-- the line of a fault, and the place of its kind in the order of one line's faults
abbrev pub fault_line : AdmitRefusal → ℕ
fault_line (BadLine n) = n
fault_line (TooMany n) = n
fault_line NoLive = 0
fault_line Memory = 0

-- the order of the faults of one line
abbrev pub rank : AdmitRefusal → ℕ
rank (BadLine n) = 0
rank (TooMany n) = 1
rank NoLive = 2
rank Memory = 3

-- a line's number as it is given: numbers above 2^32 - 1 are given as that
abbrev pub line_number : ℕ → ℕ
line_number n = min n (2 ^ 32 - 1)

-- a fault as it is given
abbrev pub given : AdmitRefusal → AdmitRefusal
given (BadLine n) = BadLine (line_number n)
given (TooMany n) = TooMany (line_number n)
given NoLive = NoLive
given Memory = Memory

-- the refusal of a text: its first fault, else that no line is `live`
pub data IsAdmissionRefusal (text : List ℕ) (e : AdmitRefusal) : Type 0 where
  Faulty : (first : AdmitRefusal) → IsFirst IsLineFault (Precedes fault_line rank) [] (lines_of text) first
      → e ≡ given first → IsAdmissionRefusal text e
  Dead : ((other : AdmitRefusal) → HasFault IsLineFault [] (lines_of text) other → ⊥)
      → has_line (codes "live") (lines_of text) ≡ false → e ≡ NoLive
      → IsAdmissionRefusal text e
