-- What an answer says that may be, in place of any other error, that memory was not found.
use Rattle.std.specs.Prelude.{◌≡◌, ◌⊎◌, Result, Ok, Err}

-- what was answered is so: a value or an error, or else this error, that memory was not found
abbrev pub Answers : {A E : Type 0} → E → (A → Type 0) → (E → Type 0) → Result A E → Type 0
Answers memory IsValue IsError (Ok a) = IsValue a
Answers memory IsValue IsError (Err e) = (e ≡ memory) ⊎ IsError e

-- this result was answered, or else this error, that memory was not found
abbrev pub Gives : {A E : Type 0} → E → Result A E → Result A E → Type 0
Gives memory (Ok a) right = right ≡ Ok a
Gives memory (Err e) right = (e ≡ memory) ⊎ (right ≡ Err e)
