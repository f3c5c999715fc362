use Rattle.std.proofs.Common.{◌≡◌, ℕ, ◌+◌, ◌*◌, ◌<◌, ◌≤◌}
use Rattle.node_forms.specs.Sums.{SameWord}
use Rattle.linear_forms.specs.MatrixRows.{word}
use Rattle.linear_forms.proofs.matrix_row.add_multiple.Given as goal

abbrev pub invariant-loop-at : goal.invariant-loop-at
invariant-loop-at l = record {
  below : (j : ℕ) → j < l.at → SameWord 64 (word j l.words) (word j l.initial.words + l.times * word j l.others);
  above : (j : ℕ) → l.at ≤ j → word j l.words ≡ word j l.initial.words;
}
