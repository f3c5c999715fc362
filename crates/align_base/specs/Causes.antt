-- Counts of calls and of faults, which never fall and stand still at 2^64 - 1.
use Rattle.std.specs.Prelude.{ℕ, ◌+◌, ◌-◌, ◌^◌, ◌≤◌, min}

-- a count after k more
abbrev pub count_after : ℕ → ℕ → ℕ
count_after count k = min (count + k) (2 ^ 64 - 1)

-- the count rose between before and now, or stands at its last value
abbrev pub Rose : ℕ → ℕ → Type 0
Rose before now = count_after before 1 ≤ now
