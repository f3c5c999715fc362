-- The bytes that may end a number.
use Rattle.std.specs.Prelude.{ℕ, Bool, ◌||◌, ◌==◌, if◌then◌else◌}
use Rattle.text_codes.specs.declared.numbers.Ending.{Ending}
use Rattle.text_codes.specs.declared.numbers.Ending.TheVariants.{By, Either, Count}

-- the byte that ends a count of what stands behind it on its line
abbrev pub count_end : ℕ → ℕ
count_end n = if n == 0 then 10 else 32

-- whether a byte may end a number
abbrev pub may_end : Ending → ℕ → ℕ → Bool
may_end (By c) n b = b == c
may_end Either n b = (b == 32) || (b == 10)
may_end Count n b = b == count_end n
