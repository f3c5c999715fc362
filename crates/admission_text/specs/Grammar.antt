-- The lines of an admission, and what each spells behind those before it. All of it is this project's own.
--
-- A text is cut into lines at newlines, and a line into words at single spaces. Empty lines and lines that begin with `#`
-- are skipped.
use Rattle.std.specs.Prelude.{◌≡◌, ◌≢◌, ◌⊎◌, ℕ, ◌+◌, ◌%◌, ◌<◌, ◌≤◌, Bool, true, false, ◌||◌, ◌&&◌, ◌==◌, nat_le, List, [], ◌∷◌, ◌++◌, length, Option, Some, None, codes, bytes_eq, if◌then◌else◌}
use Rattle.std.specs.List.{list_all, list_any, filter_map, AllZip}
use Rattle.admission.specs.declared.expr.Term.{Term}
use Rattle.admission.specs.declared.expr.Expr.{Expr}
use Rattle.admission.specs.declared.admission.Rel.{Rel}
use Rattle.admission.specs.declared.admission.Rel.TheVariants.{Eq, Ne, Lt, Le, Slt, Sle}
use Rattle.admission.specs.declared.admission.Need.{Need}
use Rattle.admission.specs.declared.admission.Need.TheVariants.{Compare, Modulo}
use Rattle.admission.specs.declared.admission.RegionLine.{RegionLine}
use Rattle.admission.specs.WellFormed.{IsFirstAdded, IsModulus}
use Rattle.admission_text.specs.declared.entry.Entry.{Entry}
use Rattle.admission_text.specs.declared.entry.Entry.TheVariants as entries
use Rattle.admission_text.specs.Names.{IsGeneral, IsNumberText, IsOutputText}
use Rattle.text_parts.specs.Cuts.{parts}
use Rattle.text_parts.specs.Places.{place_from}

-- a line that is not skipped: its number, counted from 1, and its words
pub record Line : Type 0 where
  pub number : ℕ
  pub words : List (List ℕ)

-- an empty line, or one that begins with `#`
abbrev pub is_skipped : List ℕ → Bool
is_skipped [] = true
is_skipped (b ∷ bs) = b == 35

-- the lines that are not skipped, where the first of the texts is line n
abbrev pub lines_from : ℕ → List (List ℕ) → List Line
lines_from n [] = []
lines_from n (text ∷ texts) =
    if is_skipped text then lines_from (n + 1) texts else record { number = n; words = parts 32 text } ∷ lines_from (n + 1) texts

-- the lines of a text that are not skipped
abbrev pub lines_of : List ℕ → List Line
lines_of text = lines_from 1 (parts 10 text)

-- the words begin with this one
abbrev pub is_of : List ℕ → List (List ℕ) → Bool
is_of word [] = false
is_of word (w ∷ ws) = bytes_eq w word

-- a line begins with this word
abbrev pub has_line : List ℕ → List Line → Bool
has_line word lines = list_any (λ (l : Line). is_of word l.words) lines

-- the name in the words of a region's line
abbrev pub name_in : List (List ℕ) → Option (List ℕ)
name_in [] = None
name_in (w ∷ []) = None
name_in (w ∷ name ∷ ws) = if bytes_eq w (codes "region") then Some name else None

-- the names of the regions, in the order of their lines
abbrev pub region_names : List Line → List (List ℕ)
region_names lines = filter_map (λ (l : Line). name_in l.words) lines

-- the number of the region of this name, counted from 0
abbrev pub region_number : List ℕ → List (List ℕ) → Option ℕ
region_number name names = place_from 0 names name

-- a lower-case letter
abbrev pub is_lower : ℕ → Bool
is_lower b = nat_le 97 b && nat_le b 122

-- a lower-case letter or a digit
abbrev pub is_name_byte : ℕ → Bool
is_name_byte b = is_lower b || (nat_le 48 b && nat_le b 57)

-- a lower-case letter, then lower-case letters and digits, at most 16 bytes in all
abbrev pub IsRegionName : List ℕ → Type 0
IsRegionName [] = ⊥
IsRegionName (b ∷ bs) = (is_lower b ≡ true) × (list_all is_name_byte bs ≡ true) × (length bs ≤ 15)

-- a number, a general register of 64 bits, or a number, `*` and a register
abbrev pub IsTermText : List ℕ → Term → Type 0
IsTermText text t =
    (IsNumberText text t.c × (t.reg ≡ None))
    ⊎ (((n : ℕ) × IsGeneral text n 64 × (t.c ≡ 1) × (t.reg ≡ Some n))
    ⊎ ((number register : List ℕ) × (n : ℕ) × IsNumberText number t.c × IsGeneral register n 64
    × (text ≡ number ++ (codes "*" ++ register)) × (t.reg ≡ Some n)))

-- what stands before a term that is added, or subtracted
abbrev pub sign_of : Bool → ℕ
sign_of minus = if minus then 45 else 43

-- terms, with `+` or `-` before each but the first
abbrev pub AreTermTexts : List ℕ → List Term → Type 0
AreTermTexts text [] = ⊥
AreTermTexts text (t ∷ []) = IsTermText text t
AreTermTexts text (t ∷ u ∷ us) =
    (here rest : List ℕ) × (text ≡ here ++ sign_of u.minus ∷ rest) × IsTermText here t × AreTermTexts rest (u ∷ us)

-- one to eight terms joined by `+` or `-`
pub record IsExprText (text : List ℕ) (e : Expr) : Type 0 where
  pub terms : AreTermTexts text e.terms
  pub first : IsFirstAdded e.terms
  pub few : length e.terms ≤ 8

-- how a relation is written
abbrev pub relation : Rel → List ℕ
relation Eq = codes "="
relation Ne = codes "!="
relation Lt = codes "<"
relation Le = codes "<="
relation Slt = codes "s<"
relation Sle = codes "s<="

-- `region NAME BASE LEN read` or `write`, of a new name
pub record IsRegionEntry (before : List Line) (words : List (List ℕ)) (r : RegionLine) : Type 0 where
  pub base : List ℕ
  pub len : List ℕ
  pub spelled : words ≡ codes "region" ∷ r.name ∷ base ∷ len ∷ (if r.write then codes "write" else codes "read") ∷ []
  pub name_is : IsRegionName r.name
  pub fresh : region_number r.name (region_names before) ≡ None
  pub base_is : IsExprText base r.base
  pub len_is : IsExprText len r.len

-- `require E REL E`, or `require E mod M = R`
abbrev pub IsRequireEntry : List (List ℕ) → Need → Type 0
IsRequireEntry words (Compare a rel b) =
    (left right : List ℕ) × (words ≡ codes "require" ∷ left ∷ relation rel ∷ right ∷ []) × IsExprText left a × IsExprText right b
IsRequireEntry words (Modulo a m r) =
    (left modulus rest : List ℕ) × (words ≡ codes "require" ∷ left ∷ codes "mod" ∷ modulus ∷ codes "=" ∷ rest ∷ [])
    × IsExprText left a × IsNumberText modulus m × IsNumberText rest r × IsModulus m × (r < m)

-- `apart NAME NAME`, of two different regions of earlier lines
abbrev pub IsApartEntry : List Line → List (List ℕ) → ℕ → ℕ → Type 0
IsApartEntry before words i j =
    (a b : List ℕ) × (words ≡ codes "apart" ∷ a ∷ b ∷ []) × (region_number a (region_names before) ≡ Some i)
    × (region_number b (region_names before) ≡ Some j) × (i ≢ j)

-- `scratch BASE LEN`
abbrev pub IsScratchEntry : List (List ℕ) → Expr → Expr → Type 0
IsScratchEntry words base len = (x y : List ℕ) × (words ≡ codes "scratch" ∷ x ∷ y ∷ []) × IsExprText x base × IsExprText y len

-- `stack N`, N a multiple of 8 up to 4,096
abbrev pub IsStackEntry : List (List ℕ) → ℕ → Type 0
IsStackEntry words n = (x : List ℕ) × (words ≡ codes "stack" ∷ x ∷ []) × IsNumberText x n × (n % 8 ≡ 0) × (n ≤ 4096)

-- What a line spells behind those before it. The first line is `admit 1`, and no later one is; `stack` and `live` stand once
-- at most.
abbrev pub IsEntry : List Line → List (List ℕ) → Entry → Type 0
IsEntry before words entries.Header = (before ≡ []) × (words ≡ codes "admit" ∷ codes "1" ∷ [])
IsEntry before words (entries.Region r) = (before ≢ []) × IsRegionEntry before words r
IsEntry before words (entries.Require n) = (before ≢ []) × IsRequireEntry words n
IsEntry before words (entries.Apart i j) = (before ≢ []) × IsApartEntry before words i j
IsEntry before words (entries.Scratch base len) = (before ≢ []) × IsScratchEntry words base len
IsEntry before words (entries.Stack n) = (before ≢ []) × IsStackEntry words n × (has_line (codes "stack") before ≡ false)
IsEntry before words (entries.Live live) =
    (before ≢ []) × ((outs : List (List ℕ)) × (words ≡ codes "live" ∷ outs) × AllZip IsOutputText outs live)
    × (has_line (codes "live") before ≡ false)
