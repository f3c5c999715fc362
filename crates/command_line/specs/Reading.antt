-- Reading the arguments one by one: what the code computes, beside the relation in Parts.
use Rattle.std.specs.Prelude.{ℕ, Bool, ◌==◌, ◌&&◌, not, List, [], ◌∷◌, ◌++◌, length, Option, Some, None, option_map, codes, bytes_eq, if◌then◌else◌}
use Rattle.std.specs.List.{after_first, before_first, position_or_len}
use Rattle.command_line.specs.Parts.{Valued, is_bare, is_dashed, is_long}

-- what the arguments before leave open
pub data Mode : Type 0 where
  Usual : Mode
  ValueOf : List ℕ → Mode  -- the value of the option with this name is next
  AllPlain : Mode  -- `--` stands before

-- what one argument adds
pub data Item : Type 0 where
  Nothing : Item
  Bare : List ℕ → Item
  WithValue : Valued → Item

-- options and plain arguments, in order
pub record Line : Type 0 where
  pub options : List Valued
  pub plain : List (List ℕ)

-- the byte `=`
abbrev pub is_equals : ℕ → Bool
is_equals b = b == 61

-- an argument that begins with `-` and is neither `-` nor `--`
unfoldable pub dashed_turn : List ℕ → Option (Item × Mode)
dashed_turn w =
    if position_or_len is_equals w == length w
    then (if is_long w then Some (Nothing, ValueOf w) else None)
    else (if is_long (before_first is_equals w) && not (length (after_first is_equals w) == 0)
    then Some (WithValue (record { flag = before_first is_equals w; value = after_first is_equals w }), Usual) else None)

-- an argument where no `--` and no name of an option stands before
unfoldable pub usual_turn : List ℕ → Option (Item × Mode)
usual_turn w = if is_bare w then Some (Bare w, Usual) else (if bytes_eq w (codes "--") then Some (Nothing, AllPlain) else dashed_turn w)

-- what an argument adds, and what it leaves open; nothing where it is refused
unfoldable pub turn : Mode → List ℕ → Option (Item × Mode)
turn Usual w = usual_turn w
turn (ValueOf flag) w = if is_dashed w then None else Some (WithValue (record { flag = flag; value = w }), Usual)
turn AllPlain w = Some (Bare w, AllPlain)

-- a line with an item before it
abbrev pub with_item : Item → Line → Line
with_item Nothing line = line
with_item (Bare w) line = record line { plain = w ∷ line.plain }
with_item (WithValue o) line = record line { options = o ∷ line.options }

-- no value is missing
unfoldable pub ended : Mode → Option Line
ended (ValueOf flag) = None
ended _ = Some (record { options = []; plain = [] })

-- the rest of a line, by the answer for its first argument
abbrev pub after_turn : (Mode → Option Line) → Option (Item × Mode) → Option Line
after_turn more None = None
after_turn more (Some t) = option_map (with_item t.0) (more t.1)

-- the options and the plain arguments among the arguments
unfoldable pub line_in : Mode → List (List ℕ) → Option Line
line_in mode [] = ended mode
line_in mode (w ∷ ws) = after_turn (λ next. line_in next ws) (turn mode w)

-- an item behind those of a line
abbrev pub pushed : Line → Item → Line
pushed line Nothing = line
pushed line (Bare w) = record line { plain = line.plain ++ w ∷ [] }
pushed line (WithValue o) = record line { options = line.options ++ o ∷ [] }

-- one line behind another
abbrev pub joined : Line → Line → Line
joined a b = record { options = a.options ++ b.options; plain = a.plain ++ b.plain }
