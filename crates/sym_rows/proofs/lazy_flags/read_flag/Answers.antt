use Rattle.sym_rows.proofs.lazy_flags.read_flag.Goals as goal

pub shift_count-k-requires : goal.shift_count-k-requires
shift_count-k-requires c = let h = rw c.in-From.is at c.requires in h.leaves.inside 2
