-- Where a function begins and ends, and where its labels lead.
use Rattle.std.specs.Prelude.{◌≡◌, ◌⊎◌, ℕ, ◌-◌, ◌^◌, min, Bool, true, false, not, ◌&&◌, ◌||◌, ◌==◌, List, [], ◌∷◌, ◌++◌, codes, bytes_eq}
use Rattle.std.specs.List.{list_any, count_by}
use Rattle.text_lines.specs.Bytes.{is_blank}
use Rattle.text_lines.specs.Words.{is_solid, prefix_of, behind_prefix}
use Rattle.text_lines.specs.Lines.{Item, Label, Statement}

-- the item is a label of this name
abbrev pub is_label : List ℕ → Item → Bool
is_label name (Label n k) = bytes_eq n name
is_label name (Statement x k) = false

-- a statement that begins with `.` is a directive
abbrev pub is_directive : List ℕ → Bool
is_directive [] = false
is_directive (b ∷ bs) = b == 46

-- an instruction: a statement that is no directive
abbrev pub is_code : Item → Bool
is_code (Label n k) = false
is_code (Statement x k) = not (is_directive x)

-- a label inside a function: its name begins with `.L`
abbrev pub is_local : List ℕ → Bool
is_local (a ∷ b ∷ bs) = (a == 46) && (b == 76)
is_local _ = false

-- neither a blank nor a comma
abbrev pub is_symbol_byte : ℕ → Bool
is_symbol_byte b = is_solid b && not (b == 44)

-- the symbol behind a directive's word: up to a blank or a comma
unfoldable pub symbol_of : List ℕ → List ℕ
symbol_of x = prefix_of is_symbol_byte (behind_prefix is_blank (behind_prefix is_solid x))

-- the directives that end the function of this name
unfoldable pub ends_function : List ℕ → List ℕ → Bool
ends_function name x =
    let word = prefix_of is_solid x in
    bytes_eq word (codes ".cfi_endproc") || (bytes_eq word (codes ".size") && bytes_eq (symbol_of x) name)

-- the item ends the body of the function of this name: another function's label, or such a directive
abbrev pub ends_body : List ℕ → Item → Bool
ends_body name (Label n k) = not (is_local n)
ends_body name (Statement x k) = ends_function name x

-- The body of the function: from the first label of its name up to an item that ends it or to the end.
pub record IsExtent (name : List ℕ) (items body after : List Item) : Type 0 where
  pub before : List Item
  pub start : Item
  pub rest : List Item
  pub whole : items ≡ before ++ (body ++ after)
  pub begins : body ≡ start ∷ rest
  pub named : is_label name start ≡ true
  pub first : list_any (is_label name) before ≡ false
  pub inside : list_any (ends_body name) rest ≡ false
  pub ended : (after ≡ [])
      ⊎ ((ending : Item) × (more : List Item) × (after ≡ ending ∷ more) × (ends_body name ending ≡ true))

-- A jump to the name leads to the instruction at this place: as many stand before the first label of that name, and one
-- stands behind it. (A place above 2^32 - 1, which no function has, is given as that.)
pub record IsTarget (body : List Item) (name : List ℕ) (place : ℕ) : Type 0 where
  pub before : List Item
  pub label : Item
  pub after : List Item
  pub there : body ≡ before ++ label ∷ after
  pub named : is_label name label ≡ true
  pub first : list_any (is_label name) before ≡ false
  pub number : place ≡ min (count_by is_code before) (2 ^ 32 - 1)
  pub carried : list_any is_code after ≡ true
