-- What a sink was given, where it tells, and what a give says of it.
use Rattle.std.specs.Prelude.{◌≡◌, ℕ, List, ◌++◌, Option, Some, None, MatchOption, Result, Ok, Err}
use Rattle.align_base.specs.Causes.{Rose}
use Rattle.align_base.specs.declared.sink.GiveFault.{GiveFault}
use Rattle.align_base.specs.declared.sink.GiveFault.TheVariants.{Failed, Memory}

-- the account of a sink: what it was given, where it tells; how many gives it had; and how many of them failed
pub record SinkAccount : Type 0 where
  pub written : Option (List ℕ)
  pub calls : ℕ
  pub faults : ℕ

-- the account of a sink that was just made
abbrev pub new_sink_account : Option (List ℕ) → SinkAccount
new_sink_account told = record { written = told; calls = 0; faults = 0 }

-- all of the bytes were appended; a sink that doesn't tell still doesn't
abbrev pub Appended : Option (List ℕ) → Option (List ℕ) → List ℕ → Type 0
Appended before after bytes = MatchOption before (after ≡ None) (λ old. after ≡ Some (old ++ bytes))

-- a prefix of the bytes was appended
abbrev pub AppendedPrefix : Option (List ℕ) → Option (List ℕ) → List ℕ → Type 0
AppendedPrefix before after bytes =
    MatchOption before (after ≡ None) (λ old. (prefix rest : List ℕ) × (bytes ≡ prefix ++ rest) × (after ≡ Some (old ++ prefix)))

-- Ok appends the bytes, Failed a prefix of them with a count that rose, Memory appends nothing.
abbrev pub GiveTells : {T : Type 0} → SinkAccount → SinkAccount → List ℕ → Result T GiveFault → Type 0
GiveTells before after bytes (Ok done) = (after.faults ≡ before.faults) × Appended before.written after.written bytes
GiveTells before after bytes (Err Failed) = Rose before.faults after.faults × AppendedPrefix before.written after.written bytes
GiveTells before after bytes (Err Memory) = (after.faults ≡ before.faults) × (after.written ≡ before.written)
