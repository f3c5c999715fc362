use Rattle.std.proofs.Common.{refl}
use Rattle.product_automaton.proofs.Breaching.{breach-told, ranks_fall}
use Rattle.product_automaton.proofs.Cycling.{cycles_advance}
use Rattle.product_automaton.proofs.product.Product.well_formed.Goals as goal

pub returns-in-None-clause-falls : goal.returns-in-None-clause-falls
returns-in-None-clause-falls c = λ ok. ranks_fall c.args.self.now c.args.left.now c.args.right.now c.in-None.ensures

pub returns-in-None-clause-advances : goal.returns-in-None-clause-advances
returns-in-None-clause-advances c = λ ok.
    cycles_advance c.args.self.now (ranks_fall c.args.self.now c.args.left.now c.args.right.now c.in-None.ensures)

pub returns-in-Some-clause-first : goal.returns-in-Some-clause-first
returns-in-Some-clause-first c =
    breach-told c.args.self.now c.args.left.now c.args.right.now c.in-Some.breach _ refl c.in-Some.ensures
