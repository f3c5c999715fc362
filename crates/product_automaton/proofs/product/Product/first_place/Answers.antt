use Rattle.std.proofs.Common.{inl, inr, refl, arith}
use Rattle.std.proofs.lemmas.Bool.{cases_lt}
use Rattle.first_breaches.proofs.FirstBreaches.{first_place-at}
use Rattle.product_automaton.specs.Rules.{Keeps}
use Rattle.product_automaton.proofs.Breaching.{keeps-past}
use Rattle.product_automaton.proofs.product.Product.first_place.Goals as goal

pub returns-in-Some : goal.returns-in-Some
returns-in-Some c =
    first_place-at (Keeps c.args.self.now c.args.left.now c.args.right.now c.args.rule) c.loop-number.number c.in-Some.second
    c.loop-number.invariant c.in-Some.ensures

pub returns : goal.returns
returns c = λ at. elim (cases_lt at.0 256) [
  | inl less ↦ c.loop-number.invariant at.0 (omega arith) at.1
  | inr past ↦ keeps-past c.args.self.now c.args.left.now c.args.right.now c.args.rule at ((c.requires 0).counts refl) past
]
