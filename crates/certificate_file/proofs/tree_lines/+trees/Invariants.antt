use Rattle.std.proofs.Common.{◌≡◌, ◌+◌, ◌*◌}
use Rattle.text_codes.specs.Readers.{times_at}
use Rattle.certificate_file.specs.TreeReading.{tree_at}
use Rattle.certificate_file.proofs.Fronts.{with_front}
use Rattle.certificate_file.proofs.tree_lines.+trees.Given as goal

abbrev pub decreases-split : goal.decreases-split
decreases-split l = 3 * l.depth + 2

abbrev pub decreases-tree : goal.decreases-tree
decreases-tree l = 3 * l.depth

abbrev pub decreases-trees : goal.decreases-trees
decreases-trees l = 3 * l.depth + 1

-- what was found, before what is read of the rest, is what is read of the whole
abbrev pub invariant-trees-loop-left : goal.invariant-trees-loop-left
invariant-trees-loop-left l = with_front l.found.items (times_at (tree_at l.depth) l.left l.rest) ≡ times_at (tree_at l.fn.depth) l.fn.count l.fn.text

abbrev pub decreases-trees-loop-left : goal.decreases-trees-loop-left
decreases-trees-loop-left l = l.left
