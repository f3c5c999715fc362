-- The scratch node of two bytes of memory.
use Rattle.std.specs.Prelude.{ℕ, ◌==◌, ◌&&◌, ◌||◌, Bool, List, [], ◌∷◌, Option, None, if◌then◌else◌}
use Rattle.std.specs.Option.{option_map}
use Rattle.duty_claims.specs.declared.duty.StartPair.{StartPair}

-- whether a pair is of these two bytes, in either order
abbrev pub is_pair_of : ℕ → ℕ → StartPair → Bool
is_pair_of i j p = (p.m.0 == i && p.n.0 == j) || (p.m.0 == j && p.n.0 == i)

-- the node that a scratch line has the address of two bytes, where their pair has one
abbrev pub scratch_node : List StartPair → ℕ → ℕ → Option ℕ
scratch_node [] i j = None
scratch_node (p ∷ ps) i j = if is_pair_of i j p then option_map (λ node. node.0) p.scratch else scratch_node ps i j
