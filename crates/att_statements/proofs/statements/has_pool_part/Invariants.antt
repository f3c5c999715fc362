use Rattle.std.proofs.Common.{◌≡◌, length}
use Rattle.std.specs.List.{list_any}
use Rattle.std.specs.Option.{option_map}
use Rattle.att_statements.specs.ReadingOperands.{parts_left, is_pool_part}
use Rattle.att_statements.proofs.statements.has_pool_part.Given as goal

-- what is left answers as all do
abbrev pub invariant-loop-rest : goal.invariant-loop-rest
invariant-loop-rest l =
    list_any is_pool_part (parts_left (option_map (λ t. t.now) l.rest)) ≡ list_any is_pool_part (parts_left (option_map (λ t. t.now) l.operands))

abbrev pub decreases-loop-rest : goal.decreases-loop-rest
decreases-loop-rest l = length (parts_left (option_map (λ t. t.now) l.rest))
