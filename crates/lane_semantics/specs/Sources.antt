-- The lanes of the arguments that a row reads.
use Rattle.std.specs.Prelude.{◌≡◌, ℕ, zero, suc, ◌+◌, ◌*◌, ◌-◌, ◌^◌, List, nat_lt, if◌then◌else◌}
use Rattle.insn_semantics.specs.Words.{cut}
use Rattle.lane_views.specs.Lanes.{IsLane, lane}
use Rattle.lane_semantics.specs.declared.source.Source.{Source}
use Rattle.lane_semantics.specs.declared.source.Source.TheVariants.{First, Second, Zero}

-- the word of a source in the bytes a and b
abbrev pub source_value : List ℕ → List ℕ → Source → ℕ
source_value a b (First w i) = lane w i a
source_value a b (Second w i) = lane w i b
source_value a b Zero = 0

-- m lanes of w bits that a lane of the result stands over: those of the first argument, and behind them the second's
abbrev pub under_lane : ℕ → ℕ → ℕ → ℕ → Source
under_lane m w i k = if nat_lt k m then First w (m * i + k) else Second w (m * i + (k - m))

-- the source lies inside vectors of 32 bytes, and its lane has n bits
abbrev pub IsInside : Source → Type 0
IsInside (First w i) = IsLane w i 32
IsInside (Second w i) = IsLane w i 32
IsInside Zero = Unit {0}

-- the source is a lane of w bits, or zero
abbrev pub HasBits : ℕ → Source → Type 0
HasBits n (First w i) = w ≡ n
HasBits n (Second w i) = w ≡ n
HasBits n Zero = Unit {0}

-- the highest bits of the first n bytes that g gives, as a number, bit k being that of byte k
abbrev pub tops : (ℕ → ℕ) → ℕ → ℕ
tops g zero = 0
tops g (suc k) = cut (g k) 7 1 * 2 ^ k + tops g k
