use Rattle.std.proofs.Common.{◌≡◌, ◌++◌, take, drop, map, length}
use Rattle.lane_views.specs.declared.Bytes32.{Bytes32}
use Rattle.machine.specs.Vectors.{cleared_above}
use Rattle.machine.proofs.vectors.clear_above.Given as goal

-- the vectors so far are cleared, and the others as they were
abbrev pub invariant-loop-n : goal.invariant-loop-n
invariant-loop-n l =
    (map (λ (v : Bytes32). v.bytes) l.vecs
    ≡ map cleared_above (take l.n (map (λ (v : Bytes32). v.bytes) l.fn.vecs)) ++ drop l.n (map (λ (v : Bytes32). v.bytes) l.fn.vecs))
    × (length l.vecs ≡ 16)
