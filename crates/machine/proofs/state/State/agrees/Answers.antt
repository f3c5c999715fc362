use Rattle.machine.specs.Kept.{pure_of}
use Rattle.machine.proofs.Differences.{vectors_agree}
use Rattle.machine.proofs.state.State.agrees.Goals as goal

pub returns-in-Vec : goal.returns-in-Vec
returns-in-Vec c = rw c.in-Vec.is
    (vectors_agree (pure_of c.args.self.now) (pure_of c.args.other.now) c.in-Vec.n c.in-Vec.w c.vec.result.now.bytes c.vec-in-Vec.result.now.bytes c.eq.result
    c.vec.ensures c.vec-in-Vec.ensures c.eq.ensures)
