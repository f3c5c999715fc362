use Rattle.clause_words.proofs.ProductHelpers.{product_law}
use Rattle.clause_words.proofs.laws.products.Goals as goal

pub returns : goal.returns
returns c = product_law
