-- Whole admissions: a text and the admission that it spells.
use Rattle.std.specs.Prelude.{◌≡◌, ℕ, Bool, true, false, ◌||◌, ◌&&◌, nat_le, List, [], ◌∷◌, ◌++◌, length, codes}
use Rattle.std.specs.List.{filter, list_any}
use Rattle.admission.specs.declared.admission.Admission.{Admission}
use Rattle.admission_text.specs.declared.entry.Entry.{Entry}
use Rattle.admission_text.specs.declared.entry.Entry.TheVariants.{Header, Region, Require, Apart, Scratch, Stack, Live}
use Rattle.admission_text.specs.Grammar.{IsEntry, Line, has_line, is_of, lines_of}

-- the words that begin lines of which there may be so many
abbrev pub limits : List (List ℕ × ℕ)
limits = (codes "region", 8) ∷ (codes "require", 32) ∷ (codes "apart", 28) ∷ (codes "scratch", 4) ∷ []

-- how many lines begin with this word
abbrev pub count_of : List ℕ → List Line → ℕ
count_of word lines = length (filter (λ (l : Line). is_of word l.words) lines)

-- so many lines of its word stand before it, or it is a line of more than 16 live outputs
abbrev pub goes_over : List Line → List (List ℕ) → Bool
goes_over before words =
    list_any (λ (limit : List ℕ × ℕ). is_of limit.0 words && nat_le limit.1 (count_of limit.0 before)) limits
    || (is_of (codes "live") words && nat_le 18 (length words))

-- what the lines spell, one after another; none goes over a limit
abbrev pub AreEntries : List Line → List Line → List Entry → Type 0
AreEntries before [] [] = Unit {0}
AreEntries before [] (e ∷ es) = ⊥
AreEntries before (l ∷ ls) [] = ⊥
AreEntries before (l ∷ ls) (e ∷ es) =
    IsEntry before l.words e × (goes_over before l.words ≡ false) × AreEntries (before ++ l ∷ []) ls es

-- the admission with what a line says
abbrev pub with_entry : Admission → Entry → Admission
with_entry a Header = a
with_entry a (Region r) = record a { regions = a.regions ++ r ∷ [] }
with_entry a (Require n) = record a { needs = a.needs ++ n ∷ [] }
with_entry a (Apart i j) = record a { aparts = a.aparts ++ (i, j) ∷ [] }
with_entry a (Scratch base len) = record a { scratch = a.scratch ++ (base, len) ∷ [] }
with_entry a (Stack n) = record a { stack = n }
with_entry a (Live live) = record a { live = live }

-- the admission with what lines say, in their order
abbrev pub with_entries : Admission → List Entry → Admission
with_entries a [] = a
with_entries a (e ∷ es) = with_entries (with_entry a e) es

-- no region, need, scratch line, stack byte or live output
abbrev pub no_admission : Admission
no_admission = record { regions = []; needs = []; aparts = []; scratch = []; stack = 0; live = [] }

-- the text spells the admission: its lines spell entries, one of them `live`, and these make it up
pub record IsAdmissionText (text : List ℕ) (a : Admission) : Type 0 where
  pub entries : List Entry
  pub read : AreEntries [] (lines_of text) entries
  pub is_live : has_line (codes "live") (lines_of text) ≡ true
  pub means : a ≡ with_entries no_admission entries
