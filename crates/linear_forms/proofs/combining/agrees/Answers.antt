use Rattle.std.proofs.Common.{ℕ, ◌%◌, ◌^◌, ◌∙◌, ap, arith}
use Rattle.linear_forms.specs.Combinations.{weighted}
use Rattle.linear_forms.specs.Places.{word_at}
use Rattle.linear_forms.proofs.WeightedSums.{low_test}
use Rattle.linear_forms.proofs.combining.agrees.Goals as goal

pub returns : goal.returns
returns c =
    let w : ℕ = c.args.target.now.w in
    low_test w c.weighted_sum-sum.result (weighted (word_at c.args.place) c.args.parts.now) (word_at c.args.place c.args.target.now)
    c.low_bits.result c.low_bits-2.result (omega arith) c.weighted_sum-sum.ensures c.low_bits.ensures.value
    (c.low_bits-2.ensures.value ∙ ap (λ n. n % 2 ^ w) c.word_of.ensures)
