use Rattle.machine.proofs.Allowed.{vector_spanned}
use Rattle.machine.proofs.state.State.compute_vectors.Goals as goal

pub put_vector-requires-clause-spanned : goal.put_vector-requires-clause-spanned
put_vector-requires-clause-spanned c =
    rw (c.target_width-width.ensures, c.last_operand-target.ensures)
    (vector_spanned c.args.insn.now c.args.self.now c.requires.family c.is_kept.ensures c.requires.allowed)
