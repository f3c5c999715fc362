use Rattle.std.proofs.Common.{◌≡◌, ℕ, ◌+◌, ◌<◌, length, take, []}
use Rattle.std.specs.Prelude.{slice_index_or}
use Rattle.std.specs.List.{AllByRecursion, AllZip}
use Rattle.linear_forms.specs.Places.{IsRowOf, IsUnit}
use Rattle.linear_forms.proofs.solving.rows_of.Given as goal

abbrev pub invariant-loop-at : goal.invariant-loop-at
invariant-loop-at l = record {
  count : length l.rows.items ≡ l.at;
  long : AllByRecursion (λ row. length row ≡ length l.places + length l.parts) l.rows.items;
  words : AllZip (IsRowOf l.places) (take l.at l.parts) l.rows.items;
  units : (k : ℕ) → k < length l.rows.items → IsUnit (length l.places) (length l.parts) k (slice_index_or l.rows.items k []);
}
