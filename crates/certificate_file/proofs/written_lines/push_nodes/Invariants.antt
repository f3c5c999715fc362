use Rattle.std.proofs.Common.{◌≡◌, ◌++◌, ◌+◌, length}
use Rattle.text_codes.specs.Lists.{numbered_of}
use Rattle.certificate_file.specs.Products.{node_text}
use Rattle.certificate_file.proofs.written_lines.push_nodes.Given as goal

-- what is out and what is left to write is all that is to be out
abbrev pub invariant-loop-rest : goal.invariant-loop-rest
invariant-loop-rest l =
    (l.out.items ++ numbered_of node_text l.number l.rest ≡ l.fn.out.items ++ numbered_of node_text 0 l.fn.nodes) × (l.number + length l.rest ≡ length l.fn.nodes)

abbrev pub decreases-loop-rest : goal.decreases-loop-rest
decreases-loop-rest l = length l.rest
