-- Weighted sums of linear forms.
use Rattle.std.specs.Prelude.{◌≡◌, ℕ, ◌+◌, ◌*◌, List, [], ◌∷◌}
use Rattle.node_forms.specs.declared.form.Form.{Form}
use Rattle.node_forms.specs.Sums.{SameWord, listed_coefficient, weighted_sum}

-- the coefficient of an atom, by its number: 0 where the form does not list it
abbrev pub coefficient : ℕ → Form → ℕ
coefficient atom form = listed_coefficient form.atoms atom

-- the constant of a form
abbrev pub constant : Form → ℕ
constant form = form.c

-- the sum of what f gives to forms, each times its weight
abbrev pub weighted : (Form → ℕ) → List (ℕ × Form) → ℕ
weighted f [] = 0
weighted f (p ∷ ps) = p.0 * f p.1 + weighted f ps

-- A form is the weighted sum of parts, modulo 2^w: so are its coefficient at each atom, and its constant.
pub record IsCombination (w : ℕ) (target : Form) (parts : List (ℕ × Form)) : Type 0 where
  pub coefficients : (atom : ℕ) → SameWord w (weighted (coefficient atom) parts) (coefficient atom target)
  pub constants : SameWord w (weighted constant parts) (constant target)

-- a form at w
abbrev pub IsAt : ℕ → Form → Type 0
IsAt w form = form.w ≡ w

-- the value of a form, where f gives those of its atoms
abbrev pub value_of : (ℕ → ℕ) → Form → ℕ
value_of f form = weighted_sum f form.atoms + form.c
