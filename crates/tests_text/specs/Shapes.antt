-- What a JSON value spells of a test. All of it is this project's own.
--
-- `object ms`, `get` and `read` are words of serde_json: `read` gives the value of a text, in which each member of an object
-- stands once, with the value that came last in the text.
use Rattle.std.specs.Prelude.{◌≡◌, ℕ, ◌+◌, ◌*◌, ◌%◌, ◌^◌, ◌<◌, ◌≤◌, Bool, true, false, ◌&&◌, List, [], ◌∷◌, ◌++◌, length, Option, Some, None, IfSome, option_and_then, slice_get, slice_index, codes, bytes_eq}
use Rattle.std.specs.List.{list_any}
use Rattle.lane_views.specs.declared.Bytes32.{Bytes32}
use Rattle.serde_json.specs.Data.{Data, Items, Members, array, item, member, no_items, no_members, null, boolean, number, object, string, unsigned}
use Rattle.serde_json.specs.Find.{get}
use Rattle.register_names.specs.Names.{register_names}
use Rattle.text_parts.specs.Bytes.{AreHexBytes}
use Rattle.tests_text.specs.declared.shape.Kind.{Kind}
use Rattle.tests_text.specs.declared.shape.Kind.TheVariants as kinds
use Rattle.tests_text.specs.declared.test.Test.{Test}

-- 0 to 15 in decimal
abbrev pub numerals : List (List ℕ)
numerals =
    codes "0" ∷ codes "1" ∷ codes "2" ∷ codes "3" ∷ codes "4" ∷ codes "5" ∷ codes "6" ∷ codes "7"
    ∷ codes "8" ∷ codes "9" ∷ codes "10" ∷ codes "11" ∷ codes "12" ∷ codes "13" ∷ codes "14" ∷ codes "15" ∷ []

-- what the members of an object of each kind are named
abbrev pub names : Kind → List (List ℕ)
names kinds.File = codes "tests" ∷ []
names kinds.Test = codes "regs" ∷ codes "ymm" ∷ codes "mem" ∷ []
names kinds.Registers = register_names 64
names kinds.Vectors = numerals
names kinds.Piece = codes "at" ∷ codes "hex" ∷ []

-- the name is one of these
abbrev pub is_among : List (List ℕ) → List ℕ → Bool
is_among table name = list_any (λ n. bytes_eq name n) table

-- each member has one of the names
abbrev pub are_named : List (List ℕ) → Members → Bool
are_named table no_members = true
are_named table (member name d ms) = is_among table name && are_named table ms

-- an object whose members are among those of its kind
abbrev pub is_object : Kind → Data → Bool
is_object kind null = false
is_object kind (boolean b) = false
is_object kind (number n) = false
is_object kind (string s) = false
is_object kind (array ds) = false
is_object kind (object ms) = are_named (names kind) ms

-- the member of this name of a value, where there are both
abbrev pub member_of : Option Data → List ℕ → Option Data
member_of found name = option_and_then (get name) found

-- a whole number below 2^64: `read` gives a JSON number without a sign, a fraction and an exponent so, and no other
abbrev pub IsWhole : Data → ℕ → Type 0
IsWhole d n = d ≡ number (unsigned n)

-- what register n holds in test k where it is not named
abbrev pub default_register : ℕ → ℕ → ℕ
default_register k n = 2 ^ 40 * (n + 1) + 2 ^ 20 * k * (2 * n + 1)

-- what byte i of vector register n holds in test k where it is not named
abbrev pub default_byte : ℕ → ℕ → ℕ → ℕ
default_byte k n i = (13 * n + 7 * i + 29 * k) % 256

-- the value of register n in test k, by its member
abbrev pub IsRegisterValue : ℕ → ℕ → Option Data → ℕ → Type 0
IsRegisterValue k n None v = v ≡ default_register k n
IsRegisterValue k n (Some d) v = IsWhole d v

-- the sixteen registers of test k, by the member `regs`
pub record AreRegisters (k : ℕ) (found : Option Data) (regs : List ℕ) : Type 0 where
  pub named : IfSome found (λ d. is_object kinds.Registers d ≡ true)
  pub sixteen : length regs ≡ 16
  pub each : (n : ℕ) (name : List ℕ) → slice_get (register_names 64) n ≡ Some name
      → IsRegisterValue k n (member_of found name) (slice_index regs n)

-- the bytes of vector register n in test k, by its member: 64 digits
abbrev pub IsVector : ℕ → ℕ → Option Data → List ℕ → Type 0
IsVector k n None bytes = (length bytes ≡ 32) × ((i : ℕ) → i < 32 → slice_index bytes i ≡ default_byte k n i)
IsVector k n (Some d) bytes = (length bytes ≡ 32) × ((text : List ℕ) × (d ≡ string text) × AreHexBytes text bytes)

-- the sixteen vector registers of test k, by the member `ymm`
pub record AreVectors (k : ℕ) (found : Option Data) (vecs : List Bytes32) : Type 0 where
  pub named : IfSome found (λ d. is_object kinds.Vectors d ≡ true)
  pub sixteen : length vecs ≡ 16
  pub each : (n : ℕ) (name : List ℕ) (v : Bytes32) → slice_get numerals n ≡ Some name → slice_get vecs n ≡ Some v
      → IsVector k n (member_of found name) v.bytes

-- bytes from an address on, each with its own
abbrev pub addressed : ℕ → List ℕ → List (ℕ × ℕ)
addressed at [] = []
addressed at (b ∷ bs) = (at, b) ∷ addressed (at + 1) bs

-- a piece of memory: an address and the bytes from there on, which end at 2^64 at most
pub record IsPiece (d : Data) (at : ℕ) (bytes : List ℕ) : Type 0 where
  pub named : is_object kinds.Piece d ≡ true
  pub place : Data
  pub has_place : get (codes "at") d ≡ Some place
  pub place_is : IsWhole place at
  pub text : List ℕ
  pub has_text : get (codes "hex") d ≡ Some (string text)
  pub bytes_are : AreHexBytes text bytes
  pub ends : at + length bytes ≤ 2 ^ 64

-- pieces, one after another
abbrev pub ArePieces : Items → List (ℕ × ℕ) → Type 0
ArePieces no_items bytes = bytes ≡ []
ArePieces (item d ds) bytes =
    (at : ℕ) × (here : List ℕ) × (rest : List (ℕ × ℕ)) × IsPiece d at here × ArePieces ds rest × (bytes ≡ addressed at here ++ rest)

-- the named bytes of memory, by the member `mem`
abbrev pub AreBytes : Option Data → List (ℕ × ℕ) → Type 0
AreBytes None bytes = bytes ≡ []
AreBytes (Some d) bytes = (ds : Items) × (d ≡ array ds) × ArePieces ds bytes

-- the value spells test k, counted from 1, whatever the number of its bytes
pub record IsTest (k : ℕ) (d : Data) (t : Test) : Type 0 where
  pub named : is_object kinds.Test d ≡ true
  pub regs : AreRegisters k (get (codes "regs") d) t.regs
  pub vecs : AreVectors k (get (codes "ymm") d) t.vecs
  pub bytes : AreBytes (get (codes "mem") d) t.bytes
