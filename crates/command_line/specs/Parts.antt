-- What arguments are made of: plain ones, and options with their values.
use Rattle.std.specs.Prelude.{◌≡◌, ◌≢◌, ◌⊎◌, ℕ, Bool, true, false, not, ◌==◌, ◌&&◌, List, [], ◌∷◌, ◌++◌, codes}
use Rattle.std.specs.List.{AllByRecursion, list_all}

-- an option: its name with `--` before it, and its value
pub record Valued : Type 0 where
  pub flag : List ℕ
  pub value : List ℕ

-- one argument, or an option's name and its value as two
pub data Part : Type 0 where
  Plain : List ℕ → Part  -- `NAME`
  Joined : Valued → Part  -- `--name=value`
  Separate : Valued → Part  -- `--name value`

-- an argument that begins with `-`
abbrev pub is_dashed : List ℕ → Bool
is_dashed [] = false
is_dashed (b ∷ rest) = b == 45

-- an argument is plain where it doesn't begin with `-`, or is `-` alone
abbrev pub is_bare : List ℕ → Bool
is_bare [] = true
is_bare (b ∷ []) = true
is_bare (b ∷ c ∷ rest) = not (b == 45)

-- it begins with `--` and is longer
abbrev pub is_long : List ℕ → Bool
is_long [] = false
is_long (a ∷ []) = false
is_long (a ∷ b ∷ []) = false
is_long (a ∷ b ∷ c ∷ rest) = (a == 45) && (b == 45)

-- it may name an option: it begins with `--`, is longer, and has no `=`
pub record IsFlag (flag : List ℕ) : Type 0 where
  pub long : is_long flag ≡ true
  pub no_equals : list_all (λ b. not (b == 61)) flag ≡ true

-- a part as arguments
abbrev pub arguments_of : Part → List (List ℕ)
arguments_of (Plain argument) = argument ∷ []
arguments_of (Joined option) = (option.flag ++ 61 ∷ option.value) ∷ []
arguments_of (Separate option) = option.flag ∷ option.value ∷ []

-- A part as it may stand: a value is not empty, and one that stands by itself doesn't begin with `-`.
abbrev pub IsPart : Part → Type 0
IsPart (Plain argument) = is_bare argument ≡ true
IsPart (Joined option) = IsFlag option.flag × (option.value ≢ [])
IsPart (Separate option) = IsFlag option.flag × (is_dashed option.value ≡ false)

-- parts, one after another, as arguments
abbrev pub written : List Part → List (List ℕ)
written [] = []
written (part ∷ parts) = arguments_of part ++ written parts

-- the options among parts, in order
abbrev pub options_in : List Part → List Valued
options_in [] = []
options_in (Plain argument ∷ parts) = options_in parts
options_in (Joined option ∷ parts) = option ∷ options_in parts
options_in (Separate option ∷ parts) = option ∷ options_in parts

-- the plain arguments among parts, in order
abbrev pub plain_in : List Part → List (List ℕ)
plain_in [] = []
plain_in (Plain argument ∷ parts) = argument ∷ plain_in parts
plain_in (Joined option ∷ parts) = plain_in parts
plain_in (Separate option ∷ parts) = plain_in parts

-- nothing stands behind the parts, or `--` and these plain arguments
abbrev pub EndsWith : List (List ℕ) → List (List ℕ) → Type 0
EndsWith end last = ((end ≡ []) × (last ≡ [])) ⊎ (end ≡ codes "--" ∷ last)

-- The arguments are parts, and may end with `--` and plain arguments, which may be anything; they have these options and
-- these plain arguments, in order.
pub record AreRead (arguments : List (List ℕ)) (options : List Valued) (plain : List (List ℕ)) : Type 0 where
  pub parts : List Part
  pub each : AllByRecursion IsPart parts
  pub end : List (List ℕ)
  pub last : List (List ℕ)
  pub ends : EndsWith end last
  pub whole : arguments ≡ written parts ++ end
  pub options_are : options ≡ options_in parts
  pub plain_are : plain ≡ plain_in parts ++ last
