use Rattle.std.proofs.Common.{◌≡◌, ◌++◌, take}
use Rattle.text_parts.specs.Bytes.{decoded}
use Rattle.tests_text.specs.Shapes.{addressed}
use Rattle.tests_text.proofs.memory.push_bytes.Given as goal

-- the bytes of the digits so far were appended
abbrev pub invariant-loop-i : goal.invariant-loop-i
invariant-loop-i l = l.bytes ≡ l.fn.bytes ++ take l.i (addressed l.at (decoded l.text))
