use Rattle.std.proofs.Common.{refl}
use Rattle.machine.specs.Holding.{kept_of}
use Rattle.machine.specs.Kept.{Kept}
use Rattle.machine.proofs.KeptStates.{held_by_places}
use Rattle.machine.proofs.state.State.put.Goals as goal

pub invariant_of-self-in-Mem : goal.invariant_of-self-in-Mem
invariant_of-self-in-Mem c =
    let old : Kept = kept_of c.self.inside in
    held_by_places old (record old { spans = c.put_word.new.spans.items }) c.self.invariant.regs refl c.self.invariant.vecs refl refl c.put_word.ensures.places c.self.invariant
