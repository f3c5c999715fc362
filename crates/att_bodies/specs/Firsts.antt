-- The first label of each name in a body, as the code keeps it, and items whose labels have different names.
use Rattle.std.specs.Prelude.{◌≡◌, ℕ, ◌+◌, ◌-◌, ◌^◌, ◌<◌, min, nat_lt, true, false, if◌then◌else◌, List, [], ◌∷◌, drop, take, Option, Some, None}
use Rattle.std.specs.List.{list_any}
use Rattle.text_lines.specs.Lines.{Item}
use Rattle.att_bodies.specs.Body.{is_label}
use Rattle.att_bodies.specs.Reading.{count_of}
use Rattle.att_bodies.specs.declared.labels.First.{First}

-- the first label of a name among items, which stand from place k on behind n instructions
unfoldable pub first_from : ℕ → ℕ → List Item → List ℕ → Option First
first_from k n [] name = None
first_from k n (i ∷ is) name =
    if is_label name i then Some (record { item = k; insns = n }) else first_from (k + 1) (n + count_of i) is name

-- where a label leads, if instructions stand behind it: n are in the body
abbrev pub target_by : ℕ → Option First → Option ℕ
target_by n None = None
target_by n (Some first) = if nat_lt first.insns n then Some (min first.insns (2 ^ 32 - 1)) else None

-- none of the first n items is a label that has the name of one before it
abbrev pub AreDistinct : ℕ → List Item → Type 0
AreDistinct n items =
    (name : List ℕ) (p : ℕ) (i : Item) (later : List Item) → p < n → drop p items ≡ i ∷ later → is_label name i ≡ true
    → list_any (is_label name) (take p items) ≡ false
