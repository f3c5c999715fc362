-- The exit code of each status.
use Rattle.std.specs.Prelude.{ℕ}
use Rattle.align_base.specs.declared.status.Status.{Status}
use Rattle.align_base.specs.declared.status.Status.TheVariants.{Good, Negative, Unknown, Refused, Usage, ShelfFault, SinkFault, NoMemory}

-- 0 to 7
abbrev pub status_code : Status → ℕ
status_code Good = 0
status_code Negative = 1
status_code Unknown = 2
status_code Refused = 3
status_code Usage = 4
status_code ShelfFault = 5
status_code SinkFault = 6
status_code NoMemory = 7
