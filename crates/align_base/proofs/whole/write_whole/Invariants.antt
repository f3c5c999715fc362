use Rattle.std.proofs.Common.{◌≡◌, List, ℕ, ◌++◌, length}
use Rattle.std.specs.Io.KnownBytes.{Appends}
use Rattle.align_base.proofs.whole.write_whole.Given as goal

-- a prefix of the bytes was written, and the rest is left
abbrev pub invariant-loop-rest : goal.invariant-loop-rest
invariant-loop-rest g l = (prefix : List ℕ) × (l.bytes ≡ prefix ++ l.rest) × Appends (g.F.Write.contents l.initial.file) (g.F.Write.contents l.file) prefix

abbrev pub decreases-loop-rest : goal.decreases-loop-rest
decreases-loop-rest g l = length l.rest
