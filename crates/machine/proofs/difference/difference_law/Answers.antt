use Rattle.machine.proofs.Differences.{excluded, one_first}
use Rattle.machine.proofs.difference.difference_law.Goals as goal

pub returns : goal.returns
returns c = record { excludes = excluded; one = one_first }
