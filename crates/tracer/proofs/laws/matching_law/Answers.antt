use Rattle.tracer.specs.Matching.{Satisfy}
use Rattle.tracer.proofs.Matched.{matched-once}
use Rattle.tracer.proofs.Matchings.{matched-some}
use Rattle.tracer.proofs.laws.matching_law.Goals as goal

pub returns : goal.returns
returns c =
    record {
      some = matched-some;
      once = λ alignment left right pairs others p o. matched-once (Satisfy alignment left right) 0 0 pairs others p o;
    }
