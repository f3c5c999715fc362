-- The order in which refusals are told.
use Rattle.std.specs.Prelude.{ℕ, ◌-◌, ◌^◌, min}
use Rattle.text_lines.specs.declared.refusal.ReadKind.{ReadKind}
use Rattle.text_lines.specs.declared.refusal.ReadKind.TheVariants.{Memory, NotUtf8, LineLong, NoFunction, TwiceLabel, DataInBody, UnknownInstruction, PoolRefused, BadOperand, BadNumber, UnknownLabel, TooManyInsns, FallsOff}
use Rattle.text_lines.specs.declared.refusal.ReadRefusal.{ReadRefusal}

-- the place of a kind in the order of refusals; those of one line stand from TwiceLabel to TooManyInsns
abbrev pub rank : ReadKind → ℕ
rank Memory = 0
rank NotUtf8 = 1
rank LineLong = 2
rank NoFunction = 3
rank TwiceLabel = 4
rank DataInBody = 5
rank UnknownInstruction = 6
rank PoolRefused = 7
rank BadOperand = 8
rank BadNumber = 9
rank UnknownLabel = 10
rank TooManyInsns = 11
rank FallsOff = 12

-- a line's number as it is given: numbers above 2^32 - 1 are given as that
abbrev pub line_number : ℕ → ℕ
line_number n = min n (2 ^ 32 - 1)

-- a refusal at this line, counted from 1
abbrev pub refusal : ℕ → ReadKind → ReadRefusal
refusal line kind = record { line = line_number line; kind = kind }

-- the refusal where memory was not found
abbrev pub out_of_memory : ReadRefusal
out_of_memory = record { line = 0; kind = Memory }
