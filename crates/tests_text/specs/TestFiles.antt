-- Whole files of tests, and why a file is none: its first fault.
use Rattle.std.specs.Prelude.{◌≡◌, ◌⊎◌, ℕ, ◌+◌, ◌<◌, ◌≤◌, true, List, [], ◌∷◌, length, Some, codes}
use Rattle.std.specs.Str.{IsUtf8}
use Rattle.outcomes.specs.Firsts.{IsFirst, Precedes}
use Rattle.serde_json.specs.Data.{Data, Items, array, item, no_items}
use Rattle.serde_json.specs.Find.{get}
use Rattle.serde_json.specs.Read.{read}
use Rattle.tests_text.specs.declared.refusal.TestRefusal.{TestRefusal}
use Rattle.tests_text.specs.declared.refusal.TestRefusal.TheVariants.{BadShape, Memory, NotJson, TooMany, TooManyBytes}
use Rattle.tests_text.specs.declared.shape.Kind.TheVariants as kinds
use Rattle.tests_text.specs.declared.test.Test.{Test}
use Rattle.tests_text.specs.declared.test.Tests.{Tests}
use Rattle.tests_text.specs.Shapes.{IsTest, is_object}

-- the text is JSON with this value
pub record IsJson (text : List ℕ) (d : Data) : Type 0 where
  pub utf8 : IsUtf8 text
  pub value : read text ≡ Some d

-- an object with exactly the member `tests`, a list
pub record HasTests (d : Data) (ds : Items) : Type 0 where
  pub named : is_object kinds.File d ≡ true
  pub tests : get (codes "tests") d ≡ Some (array ds)

-- a test's value and its number, counted from 1
pub record Numbered : Type 0 where
  pub value : Data
  pub number : ℕ

-- the values with their numbers, from k on
abbrev pub numbered : ℕ → Items → List Numbered
numbered k no_items = []
numbered k (item d ds) = record { value = d; number = k } ∷ numbered (k + 1) ds

-- the values of a list, numbered from 1
abbrev pub all_numbered : Items → List Numbered
all_numbered ds = numbered 1 ds

-- each value spells its test, of at most 65,536 bytes
abbrev pub AreTests : List Numbered → List Test → Type 0
AreTests [] [] = Unit {0}
AreTests [] (t ∷ ts) = ⊥
AreTests (d ∷ ds) [] = ⊥
AreTests (d ∷ ds) (t ∷ ts) = IsTest d.number d.value t × (length t.bytes ≤ 65536) × AreTests ds ts

-- the text spells the tests: at most 64
pub record IsTestsText (text : List ℕ) (tests : Tests) : Type 0 where
  pub value : Data
  pub json : IsJson text value
  pub items : Items
  pub has : HasTests value items
  pub few : length (all_numbered items) ≤ 64
  pub each : AreTests (all_numbered items) tests.tests

-- a value that spells no test, or one of too many bytes
abbrev pub IsTestFault : List Numbered → Numbered → TestRefusal → Type 0
IsTestFault before d e =
    ((e ≡ BadShape d.number) × ((t : Test) → IsTest d.number d.value t → ⊥))
    ⊎ ((e ≡ TooManyBytes d.number) × ((t : Test) × IsTest d.number d.value t × (65536 < length t.bytes)))

-- the test of a fault
abbrev pub fault_number : TestRefusal → ℕ
fault_number NotJson = 0
fault_number (BadShape k) = k
fault_number TooMany = 0
fault_number (TooManyBytes k) = k
fault_number Memory = 0

-- the place of a kind in the order of one test's faults
abbrev pub rank : TestRefusal → ℕ
rank NotJson = 0
rank (BadShape k) = 0
rank TooMany = 0
rank (TooManyBytes k) = 1
rank Memory = 0

-- the refusal of a text: no JSON, an outer value that is not as it should be, too many tests, or else the first fault of a test
pub data IsTestsRefusal (text : List ℕ) (e : TestRefusal) : Type 0 where
  Unread : ((d : Data) → IsJson text d → ⊥) → e ≡ NotJson → IsTestsRefusal text e
  Outer : (d : Data) → IsJson text d → ((ds : Items) → HasTests d ds → ⊥) → e ≡ BadShape 0 → IsTestsRefusal text e
  Many : (d : Data) → IsJson text d → (ds : Items) → HasTests d ds → 64 < length (all_numbered ds) → e ≡ TooMany → IsTestsRefusal text e
  Faulty : (d : Data) → IsJson text d → (ds : Items) → HasTests d ds → length (all_numbered ds) ≤ 64
      → IsFirst IsTestFault (Precedes fault_number rank) [] (all_numbered ds) e → IsTestsRefusal text e
