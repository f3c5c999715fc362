-- The term with the least number is the last one.
use Rattle.std.proofs.Common.{◌≡◌, suc, ◌-◌, ◌^◌, List, [], ◌∷◌, Some, length, ap, arith}
use Rattle.std.specs.Prelude.{nat_lt, slice_get}
use Rattle.address_nodes.specs.Multiples.{Term}
use Rattle.address_nodes.specs.Differences.{is_least_subtracted}

pub last_is_least : (ps : List Term) (p : Term) → Some p ≡ slice_get ps (length ps - 1) → nat_lt (2 ^ 63) p.1 ≡ is_least_subtracted ps
last_is_least [] p h = cc
last_is_least (q ∷ []) p h = let same : p ≡ q = cc in ap (λ t. nat_lt (2 ^ 63) t.1) same
last_is_least (q ∷ r ∷ ps) p h =
    let e : suc (suc (length ps)) - 1 ≡ suc (length ps) = omega arith in
    let k : suc (length ps) - 1 ≡ length ps = omega arith in
    last_is_least (r ∷ ps) p (rw k (rw e at h))
