use Rattle.node_forms.specs.Gathering.{IsGathering}
use Rattle.node_forms.specs.Sums.{top_of}
use Rattle.node_forms.proofs.form.gather.Given as goal

abbrev pub invariant-loop-node : goal.invariant-loop-node
invariant-loop-node l = IsGathering l.nodes l.w l.initial.pending.items (record { pending = l.pending.items; atoms = l.atoms.items; constant = l.c })

abbrev pub decreases-loop-node : goal.decreases-loop-node
decreases-loop-node l = top_of l.pending.items
