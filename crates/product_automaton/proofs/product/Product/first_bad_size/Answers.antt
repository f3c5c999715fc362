use Rattle.std.proofs.Common.{inl, inr, refl, arith}
use Rattle.std.proofs.lemmas.Bool.{cases_lt}
use Rattle.product_automaton.proofs.Breaching.{sizes-past}
use Rattle.product_automaton.proofs.product.Product.first_bad_size.Goals as goal

pub returns : goal.returns
returns c = λ at. elim (cases_lt at.0 256) [
  | inl less ↦ c.loop-number.invariant at.0 (omega arith)
  | inr past ↦ sizes-past c.args.self.now at.0 (c.if-not-has_counts.ensures.0 refl) past
]
