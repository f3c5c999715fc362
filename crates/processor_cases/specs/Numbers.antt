-- The numbers of a line: its words, which single spaces part, as decimal numbers.
use Rattle.std.specs.Prelude.{ℕ, ◌-◌, ◌^◌, List, [], ◌∷◌, Option, Some, None, map}
use Rattle.std.specs.Option.{option_map}
use Rattle.text_parts.specs.Cuts.{parts}
use Rattle.text_parts.specs.Numbers.{digits_of, within}

-- a word as a number: it is some decimal digits, and below 2^64
abbrev pub word_number : List ℕ → Option ℕ
word_number word = within (2 ^ 64 - 1) (digits_of 10 word)

-- the values of a list, where all of it have one
abbrev pub all_values : List (Option ℕ) → Option (List ℕ)
all_values [] = Some []
all_values (None ∷ more) = None
all_values (Some n ∷ more) = option_map (λ ns. n ∷ ns) (all_values more)

-- the numbers of a line, where each of its words is one
abbrev pub numbers_of : List ℕ → Option (List ℕ)
numbers_of line = all_values (map word_number (parts 32 line))
