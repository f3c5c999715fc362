-- The states that are shown.
use Rattle.std.specs.Prelude.{ℕ, List, [], replicate, slice_set}
use Rattle.machine.specs.Machine.{Machine, no_flags}

-- all registers 0
abbrev pub no_register : List ℕ
no_register = replicate 16 0

-- all registers 0 but this one, which is 1
abbrev pub one_register : ℕ → List ℕ
one_register n = slice_set no_register n 1

-- The start state with these registers. What the report does not name is 0: all vectors and the whole memory. No flag is
-- set, and there is no region and no stack byte.
abbrev pub start_at : List ℕ → Machine
start_at regs = record {
  regs = regs;
  entry = regs;
  flags = no_flags;
  vecs = replicate 16 (replicate 32 0);
  memory = λ at. 0;
  regions = [];
  stack = 0;
  place = 0;
}
