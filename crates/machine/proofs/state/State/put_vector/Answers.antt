use Rattle.std.proofs.Common.{◌∙◌, ◌/◌, List, ℕ, sym, ap, refl}
use Rattle.machine.specs.Holding.{kept_of}
use Rattle.machine.specs.Kept.{Kept, pure_of}
use Rattle.machine.specs.Vectors.{with_vector}
use Rattle.machine.proofs.KeptStates.{held_by_places}
use Rattle.machine.proofs.VectorWrites.{vector_put}
use Rattle.machine.proofs.state.State.put_vector.Goals as goal

pub invariant_of-self-in-Mem : goal.invariant_of-self-in-Mem
invariant_of-self-in-Mem c =
    let old : Kept = kept_of c.self.inside in
    held_by_places old (record old { spans = c.store.new.spans.items }) c.self.invariant.regs refl c.self.invariant.vecs refl refl c.store.ensures.places c.self.invariant

pub returns-in-Vec : goal.returns-in-Vec
returns-in-Vec c =
    let old : Kept = kept_of c.self.inside in
    let changed = vector_put c.self.inside.vecs c.in-Vec.r c.written-new.result c.args.vex c.args.vector.now.bytes c.written-new.ensures in
    ap (λ (vecs : List (List ℕ)). record (pure_of old) { vecs = vecs }) changed
    ∙ (λ j. with_vector c.args.vex (c.args.w / 8) (pure_of (c.self.view_is j)) (sym c.in-Vec.is j) c.args.vector.now.bytes)
