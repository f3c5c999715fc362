use Rattle.std.proofs.Common.{◌≡◌, ℕ, ◌<◌, ◌^◌, length}
use Rattle.std.specs.Prelude.{slice_index}
use Rattle.std.specs.List.{AllByRecursion}
use Rattle.node_forms.specs.Sums.{SameWord}
use Rattle.linear_forms.proofs.solving.low_words.Given as goal

abbrev pub invariant-loop-word : goal.invariant-loop-word
invariant-loop-word l = record {
  count : length l.low.items ≡ l.word-index;
  words : AllByRecursion (λ q. q < 2 ^ l.w) l.low.items;
  same : (k : ℕ) → k < l.word-index → SameWord l.w (slice_index l.low.items k) (slice_index l.words k);
}
