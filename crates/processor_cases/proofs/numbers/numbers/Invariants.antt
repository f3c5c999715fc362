use Rattle.std.proofs.Common.{◌≡◌, Some, map, take}
use Rattle.processor_cases.specs.Numbers.{all_values, word_number}
use Rattle.processor_cases.proofs.numbers.numbers.Given as goal

abbrev pub invariant-loop-word : goal.invariant-loop-word
invariant-loop-word l = all_values (map (λ x. word_number x.now) (take l.word-index l.word-items)) ≡ Some l.numbers.items
