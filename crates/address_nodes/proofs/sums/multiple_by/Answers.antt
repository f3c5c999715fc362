use Rattle.std.proofs.Common.{ℕ, ◌<◌, ◌≡◌, sym, ◌∙◌, arith}
use Rattle.address_nodes.proofs.TermSums.{shift_fits}
use Rattle.address_nodes.proofs.sums.multiple_by.Goals as goal

positive : (k : ℕ) → (k ≡ 0 → ⊥) → 0 < k
positive k h = omega arith

pub build-requires : goal.build-requires
build-requires c =
    let fits = shift_fits c.args.w c.args.q c.in-Some.k (sym c.requires.power ∙ c.in-Some.is) c.requires.number in
    (c.requires.node.0, positive c.in-Some.k c.if-k-eq0.false, omega (arith, fits, c.requires.node.1))
