-- What code that reads answers, against what is read.
use Rattle.std.specs.Prelude.{◌≡◌, ℕ, List, Result, Ok, Err}
use Rattle.std.specs.Borrow.{Bor}
use Rattle.text_codes.specs.declared.stop.Stop.{Stop}
use Rattle.text_codes.specs.declared.stop.Stop.TheVariants.{Memory, At}

-- what was read, seen by this view, or what is left of the text from the first wrong byte on, is what the text says
abbrev pub Tells : {X V : Type 0} → (X → V × List ℕ) → Result X (Bor (List ℕ)) → Result (V × List ℕ) (List ℕ) → Type 0
Tells view (Ok x) read = read ≡ Ok (view x)
Tells view (Err left) read = read ≡ Err left.now

-- what is left is this, or memory was not found
abbrev pub StopsAt : {V : Type 0} → Stop → Result (V × List ℕ) (List ℕ) → Type 0
StopsAt Memory read = Unit {0}
StopsAt (At left) read = read ≡ Err left.now

-- the same, or memory was not found
abbrev pub Gives : {X V : Type 0} → (X → V × List ℕ) → Result X Stop → Result (V × List ℕ) (List ℕ) → Type 0
Gives view (Ok x) read = read ≡ Ok (view x)
Gives view (Err stop) read = StopsAt stop read
