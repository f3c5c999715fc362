-- The first differing byte among some addresses, such as those of spans.
use Rattle.std.specs.Prelude.{◌≡◌, ℕ, ◌<◌, Bool, true, List, Option, None, Some, min}
use Rattle.machine.specs.Difference.{OtherByte, SameByte}
use Rattle.machine.specs.Machine.{Machine}

-- none of the bytes differs
abbrev pub AreSame : (ℕ → Bool) → List (ℕ × ℕ) → Machine → Machine → Type 0
AreSame among scratch s t = (x : ℕ) → among x ≡ true → SameByte scratch s t x

-- the bytes at the address differ, and those at no lesser one of the addresses
pub record IsFirstAmong (among : ℕ → Bool) (scratch : List (ℕ × ℕ)) (s t : Machine) (at : ℕ) : Type 0 where
  pub other : OtherByte scratch s t at
  pub first : (x : ℕ) → x < at → among x ≡ true → SameByte scratch s t x

-- the lesser of two numbers, or the only one
abbrev pub lesser : Option ℕ → Option ℕ → Option ℕ
lesser None b = b
lesser (Some a) None = Some a
lesser (Some a) (Some b) = Some (min a b)
