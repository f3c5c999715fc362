use Rattle.clause_words.proofs.Orders.{less_law, signed_law}
use Rattle.clause_words.proofs.laws.orders.Goals as goal

pub returns : goal.returns
returns c = record { below = less_law; signed = signed_law }
