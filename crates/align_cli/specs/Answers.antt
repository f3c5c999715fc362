-- What is true where the program ends with each status, of every command. A command has a file of definitions of its own,
-- and rows in Commands; none here.
use Rattle.std.specs.Prelude.{◌≡◌, ◌⊎◌, ℕ, ◌≤◌, List, length}
use Rattle.std.specs.List.{AllByRecursion}
use Rattle.align_base.specs.Causes.{count_after}
use Rattle.align_base.specs.Shelf.{CallFailed, ShelfAccount}
use Rattle.align_base.specs.Sink.{Appended, AppendedPrefix, SinkAccount}
use Rattle.align_base.specs.declared.shelf.Call.TheVariants.{Take}
use Rattle.align_base.specs.declared.status.Status.{Status}
use Rattle.align_base.specs.declared.status.Status.TheVariants as status
use Rattle.command_line.specs.Command.{Command, IsUsageError, OfCommand}
use Rattle.align_cli.specs.Commands.{RefusesContents, Says, files_of}
use Rattle.align_cli.specs.Files.{File, IsReached, ReadsFile, RefusesFile}
use Rattle.align_report.specs.Usage.{usage_text}

-- The command was carried out: each of its files was taken once and read, and the report says what is so.
pub record Finishes (command : Command) (status : Status) (before after : ShelfAccount) (report : List ℕ) : Type 0 where
  pub read : AllByRecursion (ReadsFile before.holding) (files_of command)
  pub taken : after.calls ≡ count_after before.calls (length (files_of command))
  pub says : Says command status before.holding report

-- The first file, in order, that is too large or not what it has to be was refused, and none behind it was taken.
pub record Refuses (command : Command) (before after : ShelfAccount) (report : List ℕ) : Type 0 where
  pub file : File
  pub number : ℕ
  pub reached : IsReached before.holding (files_of command) file number
  pub taken : after.calls ≡ count_after before.calls number
  pub refused : RefusesFile before.holding after.seen file report

-- All files were read, and what they hold was refused.
pub record RefusesRead (command : Command) (before after : ShelfAccount) (report : List ℕ) : Type 0 where
  pub read : AllByRecursion (ReadsFile before.holding) (files_of command)
  pub taken : after.calls ≡ count_after before.calls (length (files_of command))
  pub refused : RefusesContents command before.holding report

-- a file was refused, or what all of them hold
abbrev pub RefusesCommand : Command → ShelfAccount → ShelfAccount → List ℕ → Type 0
RefusesCommand command before after report = Refuses command before after report ⊎ RefusesRead command before after report

-- The take of a file failed, after those before it were read, and it is the last call that failed.
pub record FailsAtFile (command : Command) (before after : ShelfAccount) : Type 0 where
  pub file : File
  pub number : ℕ
  pub reached : IsReached before.holding (files_of command) file number
  pub taken : after.calls ≡ count_after before.calls number
  pub failed : CallFailed (Take file.name) before after

-- The arguments are no command, the report is the usage, and nothing was taken.
pub record TellsUsage (arguments : List (List ℕ)) (before after : ShelfAccount) (report : List ℕ) : Type 0 where
  pub usage_error : IsUsageError arguments
  pub untouched : after ≡ before
  pub report_is : report ≡ usage_text

-- what a report tells of a command where it is given with this status
abbrev pub TellsOf : Command → Status → ShelfAccount → ShelfAccount → List ℕ → Type 0
TellsOf command status.Refused before after report = RefusesCommand command before after report
TellsOf command status.Usage before after report = ⊥
TellsOf command status.ShelfFault before after report = ⊥
TellsOf command status.SinkFault before after report = ⊥
TellsOf command status.NoMemory before after report = ⊥
TellsOf command status before after report = Finishes command status before after report

-- what a report tells of the arguments where it is given with this status
abbrev pub Tells : List (List ℕ) → Status → ShelfAccount → ShelfAccount → List ℕ → Type 0
Tells arguments status.Usage before after report = TellsUsage arguments before after report
Tells arguments status before after report = OfCommand arguments (λ command. TellsOf command status before after report)

-- a report of which this is true was given by one give, and nothing else
abbrev pub Given : (List ℕ → Type 0) → SinkAccount → SinkAccount → Type 0
Given IsTrueOf before after =
    (report : List ℕ) × IsTrueOf report × Appended before.written after.written report × (after.calls ≡ count_after before.calls 1)

-- a prefix of a report that tells what is so was given by one give, and nothing else
abbrev pub GivenPrefix : List (List ℕ) → ShelfAccount → ShelfAccount → SinkAccount → SinkAccount → Type 0
GivenPrefix arguments before after sink_before sink_after =
    (status : Status) × (report : List ℕ) × Tells arguments status before after report
    × AppendedPrefix sink_before.written sink_after.written report × (sink_after.calls ≡ count_after sink_before.calls 1)

-- no give, or one by which nothing was written, where a report tells what is so
abbrev pub GivenNothing : List (List ℕ) → ShelfAccount → ShelfAccount → SinkAccount → SinkAccount → Type 0
GivenNothing arguments before after sink_before sink_after =
    (sink_after ≡ sink_before)
    ⊎ ((status : Status) × (report : List ℕ) × Tells arguments status before after report
    × (sink_after.written ≡ sink_before.written) × (sink_after.calls ≡ count_after sink_before.calls 1))

-- some calls, no more than there are files
abbrev pub TakesSome : List File → ShelfAccount → ShelfAccount → Type 0
TakesSome files before after = (k : ℕ) × (k ≤ length files) × (after.calls ≡ count_after before.calls k)

-- no call, or no more calls than there are files
abbrev pub TakesAtMost : List File → ShelfAccount → ShelfAccount → Type 0
TakesAtMost files before after = (after ≡ before) ⊎ TakesSome files before after
