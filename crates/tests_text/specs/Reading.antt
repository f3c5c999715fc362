-- What each function of the code reads of a JSON value, as functions on values.
use Rattle.std.specs.Prelude.{ℕ, zero, suc, ◌+◌, ◌-◌, ◌/◌, ◌^◌, min, Bool, true, ◌&&◌, ◌==◌, nat_le, if◌then◌else◌, List, [], ◌∷◌, ◌++◌, length, Option, Some, None, option_and_then, get_or, codes}
use Rattle.lane_views.specs.declared.Bytes32.{Bytes32}
use Rattle.serde_json.specs.Data.{Data, Items, item, no_items}
use Rattle.serde_json.specs.Find.{as_array, as_number, as_str, as_u64, get}
use Rattle.register_names.specs.Names.{register_names}
use Rattle.text_parts.specs.Bytes.{decoded, is_hex_text}
use Rattle.tests_text.specs.declared.shape.Kind.TheVariants as kinds
use Rattle.tests_text.specs.Shapes.{addressed, default_byte, default_register, is_object, member_of, numerals}

infixl 10 ◌>>=◌
-- what follows, where there is a value
abbrev pub ◌>>=◌ : {A B : Type 0} → Option A → (A → Option B) → Option B
o >>= f = option_and_then f o

-- a whole number
abbrev pub whole_of : Data → Option ℕ
whole_of d = option_and_then as_u64 (as_number d)

-- the values of f from n on, so many
unfoldable pub collected : {A : Type 0} → (ℕ → Option A) → ℕ → ℕ → Option (List A)
collected f n zero = Some []
collected f n (suc count) = f n >>= λ x. (collected f (n + 1) count >>= λ xs. Some (x ∷ xs))

-- the values of f from n on, where each has one
unfoldable pub values : (ℕ → ℕ) → ℕ → ℕ → List ℕ
values f n zero = []
values f n (suc count) = f n ∷ values f (n + 1) count

-- the name at a place of a table
abbrev pub name_at : List (List ℕ) → ℕ → List ℕ
name_at table n = get_or table n []

-- the value of register n in test k, by its member
abbrev pub register_of : ℕ → ℕ → Option Data → Option ℕ
register_of k n None = Some (default_register k n)
register_of k n (Some d) = whole_of d

-- an object of its kind, or nothing at all
abbrev pub is_object_or_none : Option Data → (Data → Bool) → Bool
is_object_or_none None test = true
is_object_or_none (Some d) test = test d

-- the registers of test k
unfoldable pub registers_of : ℕ → Option Data → Option (List ℕ)
registers_of k found =
    if is_object_or_none found (is_object kinds.Registers)
    then collected (λ n. register_of k n (member_of found (name_at (register_names 64) n))) 0 16 else None

-- a vector with these bytes
abbrev pub vector : List ℕ → Bytes32
vector bytes = record { bytes = bytes }

-- the vector that has no entry
abbrev pub default_vector : ℕ → ℕ → Bytes32
default_vector k n = vector (values (default_byte k n) 0 32)

-- the vector that digits of base 16 spell
unfoldable pub vector_in : List ℕ → Option Bytes32
vector_in text = if is_hex_text text && (length text == 64) then Some (vector (decoded text)) else None

-- the value of vector register n in test k, by its member
abbrev pub vector_of : ℕ → ℕ → Option Data → Option Bytes32
vector_of k n None = Some (default_vector k n)
vector_of k n (Some d) = as_str d >>= vector_in

-- the vector registers of test k
unfoldable pub vectors_of : ℕ → Option Data → Option (List Bytes32)
vectors_of k found =
    if is_object_or_none found (is_object kinds.Vectors)
    then collected (λ n. vector_of k n (member_of found (name_at numerals n))) 0 16 else None

-- the address and the digits of a piece of memory that ends at 2^64 at most
unfoldable pub piece_of : Data → Option (ℕ × List ℕ)
piece_of d = do
  place ← (if is_object kinds.Piece d then get (codes "at") d else None)
  at ← whole_of place
  digits ← get (codes "hex") d
  text ← as_str digits
  if is_hex_text text && nat_le (at + length text / 2) (2 ^ 64) then Some (at, text) else None

-- how many bytes pieces have together, and those before them n; counts above 2^64 - 1 are given as that
unfoldable pub size_of : ℕ → Items → Option ℕ
size_of n no_items = Some n
size_of n (item d ds) = piece_of d >>= λ piece. size_of (min (n + length piece.1 / 2) (2 ^ 64 - 1)) ds

-- the bytes of pieces
unfoldable pub bytes_of : Items → Option (List (ℕ × ℕ))
bytes_of no_items = Some []
bytes_of (item d ds) = piece_of d >>= λ piece. (bytes_of ds >>= λ more. Some (addressed piece.0 (decoded piece.1) ++ more))

-- the pieces of a test
abbrev pub pieces_of : Option Data → Option Items
pieces_of None = Some no_items
pieces_of (Some d) = as_array d

-- the pieces of a test, and how many bytes they have
abbrev pub sized_pieces : Data → Option (Items × ℕ)
sized_pieces d = pieces_of (get (codes "mem") d) >>= λ pieces. (size_of 0 pieces >>= λ size. Some (pieces, size))

-- a test's registers, vectors and pieces, and how many bytes the pieces have
unfoldable pub parts_of : ℕ → Data → Option (List ℕ × List Bytes32 × Items × ℕ)
parts_of k d = do
  regs ← (if is_object kinds.Test d then registers_of k (get (codes "regs") d) else None)
  vecs ← vectors_of k (get (codes "ymm") d)
  sized ← sized_pieces d
  Some (regs, vecs, sized.0, sized.1)

-- the list that is the member `tests` of an outer value
unfoldable pub outer_of : Data → Option Items
outer_of d = (if is_object kinds.File d then get (codes "tests") d else None) >>= as_array
