use Rattle.linear_forms.proofs.Worths.{combined_value}
use Rattle.linear_forms.proofs.laws.combinations_keep_values.Goals as goal

pub returns : goal.returns
returns c w n f target parts own others h = combined_value f n w target parts own others h
