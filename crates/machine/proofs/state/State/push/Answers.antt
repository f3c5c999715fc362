use Rattle.std.proofs.Common.{refl}
use Rattle.std.proofs.Math.ListN.{length-set}
use Rattle.machine.specs.Holding.{kept_of}
use Rattle.machine.specs.Kept.{Kept}
use Rattle.machine.proofs.KeptStates.{held_by_places}
use Rattle.machine.proofs.state.State.push.Goals as goal

pub invariant_of-self : goal.invariant_of-self
invariant_of-self c =
    let old : Kept = kept_of c.self.inside in
    held_by_places old _ (simp length-set c.self.invariant.regs) refl c.self.invariant.vecs refl refl c.put_word.ensures.places c.self.invariant
