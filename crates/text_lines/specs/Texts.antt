-- Whole texts: their items, bytes that are no UTF-8, and long lines.
use Rattle.std.specs.Prelude.{◌≡◌, ℕ, ◌+◌, Bool, true, false, ◌==◌, nat_lt, List, ◌∷◌, ◌++◌, length, take}
use Rattle.std.specs.List.{count_by, list_any}
use Rattle.std.specs.Str.{IsValidUpTo}
use Rattle.std.specs.Str.Lines.{lines}
use Rattle.text_lines.specs.Lines.{Item, AreLines}

-- the text holds these items; its lines end at newlines, of which each takes a carriage return before it along
abbrev pub AreItems : List ℕ → List Item → Type 0
AreItems text items = AreLines 1 (lines text) items

-- the first byte that makes the text no UTF-8, which stands behind as many bytes as are valid, is on line k
pub record IsNotUtf8 (text : List ℕ) (k : ℕ) : Type 0 where
  pub valid : ℕ
  pub front : IsValidUpTo text valid
  pub line : k ≡ count_by (λ b. b == 10) (take valid text) + 1

-- a line of more than 4,096 bytes
abbrev pub is_long : List ℕ → Bool
is_long line = nat_lt 4096 (length line)

-- line k is the first long one
pub record IsLongLine (text : List ℕ) (k : ℕ) : Type 0 where
  pub before : List (List ℕ)
  pub long : List ℕ
  pub after : List (List ℕ)
  pub there : lines text ≡ before ++ long ∷ after
  pub wrong : is_long long ≡ true
  pub first : list_any is_long before ≡ false
  pub line : k ≡ length before + 1
