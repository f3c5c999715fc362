use Rattle.std.proofs.Common.{◌≡◌, ℕ, ◌<◌, length, get_or}
use Rattle.text_parts.specs.Bytes.{decoded}
use Rattle.tests_text.proofs.vector.decoded_vector.Given as goal

abbrev pub invariant-loop-i : goal.invariant-loop-i
invariant-loop-i l = ((j : ℕ) → j < l.i → get_or l.bytes j 0 ≡ get_or (decoded l.text) j 0) × (length l.bytes ≡ 32)
