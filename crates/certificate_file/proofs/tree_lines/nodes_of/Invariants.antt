use Rattle.std.proofs.Common.{◌≡◌, ◌-◌, ◌≤◌}
use Rattle.text_codes.specs.Readers.{numbered_at}
use Rattle.certificate_file.specs.ProductReading.{node_at}
use Rattle.certificate_file.proofs.Fronts.{with_front}
use Rattle.certificate_file.proofs.tree_lines.nodes_of.Given as goal

-- what was found, before what is read of the rest, is what is read of the whole
abbrev pub invariant-loop-number : goal.invariant-loop-number
invariant-loop-number l =
    (with_front l.found.items (numbered_at node_at l.number (l.count - l.number) l.rest) ≡ numbered_at node_at 0 l.fn.count l.fn.text) × (l.number ≤ l.count)

abbrev pub decreases-loop-number : goal.decreases-loop-number
decreases-loop-number l = l.count - l.number
