use Rattle.lane_semantics.proofs.RowLaws.{product_halves}
use Rattle.lane_semantics.proofs.laws.halves_of_products_make_the_product.Goals as goal

pub returns : goal.returns
returns c = product_halves
