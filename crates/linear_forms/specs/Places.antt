-- The places at which forms have words: their atoms, and one for the constant.
use Rattle.std.specs.Prelude.{◌≡◌, ℕ, ◌+◌, ◌-◌, ◌^◌, ◌<◌, ◌==◌, Bool, true, List, length, if◌then◌else◌, slice_index_or}
use Rattle.std.specs.List.{AllByRecursion, list_any}
use Rattle.node_forms.specs.declared.form.Form.{Form}
use Rattle.linear_forms.specs.contracts.places.PlacePartialEq.TheImpl.{eq-value}
use Rattle.linear_forms.specs.declared.places.Place.{Place}
use Rattle.linear_forms.specs.declared.places.Place.TheVariants.{Atom, Constant}
use Rattle.linear_forms.specs.Combinations.{coefficient, constant}
use Rattle.linear_forms.specs.MatrixRows.{word}

-- the word of a form at a place
abbrev pub word_at : Place → Form → ℕ
word_at (Atom a) form = coefficient a.0 form
word_at Constant form = constant form

-- the test of two places
abbrev pub is_same_place : Place → Place → Bool
is_same_place = (eq-value).it

-- a place is among these
abbrev pub IsAmong : List Place → Place → Type 0
IsAmong places place = list_any (is_same_place place) places ≡ true

-- the atoms of a form are among these places
abbrev pub HasAtoms : List Place → Form → Type 0
HasAtoms places form = AllByRecursion (λ p. IsAmong places (Atom p.0)) form.atoms

-- a row begins with a form's words at these places
abbrev pub IsRowOf : List Place → Form → List ℕ → Type 0
IsRowOf places form row = (j : ℕ) → j < length places → word j row ≡ word_at (slice_index_or places j Constant) form

-- behind n words a row has less 1 at its own number, of these many, and 0 else
abbrev pub IsUnit : ℕ → ℕ → ℕ → List ℕ → Type 0
IsUnit n count own row = (k : ℕ) → k < count → word (n + k) row ≡ (if k == own then 2 ^ 64 - 1 else 0)
