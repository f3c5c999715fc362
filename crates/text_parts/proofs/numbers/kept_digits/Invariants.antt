use Rattle.std.proofs.Common.{◌≡◌, ◌≤◌, ◌^◌, drop}
use Rattle.text_parts.specs.ReadingNumbers.{kept_from}
use Rattle.text_parts.proofs.numbers.kept_digits.Given as goal

abbrev pub invariant-loop-byte : goal.invariant-loop-byte
invariant-loop-byte l = (kept_from l.radix l.amount (drop l.byte-index l.text) ≡ kept_from l.radix 0 l.text) × (l.amount ≤ 2 ^ 64)
