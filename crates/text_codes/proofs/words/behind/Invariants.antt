use Rattle.std.proofs.Common.{◌≡◌, length}
use Rattle.text_codes.specs.Readers.{word_at}
use Rattle.text_codes.proofs.words.behind.Given as goal

-- what is left of the word is read of what is left as the whole is
abbrev pub invariant-loop-left : goal.invariant-loop-left
invariant-loop-left l = word_at l.left l.rest ≡ word_at l.fn.word l.fn.text

abbrev pub decreases-loop-left : goal.decreases-loop-left
decreases-loop-left l = length l.left
