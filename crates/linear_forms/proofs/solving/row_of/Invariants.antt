use Rattle.std.proofs.Common.{◌≡◌, ℕ, ◌+◌, ◌<◌, length}
use Rattle.std.specs.Prelude.{slice_index_or}
use Rattle.linear_forms.specs.declared.places.Place.TheVariants.{Constant}
use Rattle.linear_forms.specs.Places.{IsRowOf, IsUnit, word_at}
use Rattle.linear_forms.specs.MatrixRows.{word}
use Rattle.linear_forms.proofs.solving.row_of.Given as goal

abbrev pub invariant-loop-place : goal.invariant-loop-place
invariant-loop-place l = record {
  long : length l.words.items ≡ l.place-index;
  words : (j : ℕ) → j < l.place-index → word j l.words.items ≡ word_at (slice_index_or l.places j Constant) l.form;
}

abbrev pub invariant-loop-at : goal.invariant-loop-at
invariant-loop-at l = record {
  long : length l.words.items ≡ length l.places + l.at;
  words : IsRowOf l.places l.form l.words.items;
  unit : IsUnit (length l.places) l.at l.own l.words.items;
}
