use Rattle.std.proofs.Common.{◌≡◌, ℕ, ◌<◌, length, get_or}
use Rattle.tests_text.specs.Shapes.{default_byte}
use Rattle.tests_text.proofs.vector.default_vector.Given as goal

abbrev pub invariant-loop-i : goal.invariant-loop-i
invariant-loop-i l = ((j : ℕ) → j < l.i → get_or l.bytes j 0 ≡ default_byte l.k l.n j) × (length l.bytes ≡ 32)
