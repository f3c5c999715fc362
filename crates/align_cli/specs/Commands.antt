-- What each command names and tells: each has a file of definitions, and a row in each definition here.
use Rattle.std.specs.Prelude.{ℕ, List, Option}
use Rattle.align_base.specs.Shelf.{Holding}
use Rattle.align_base.specs.declared.status.Status.{Status}
use Rattle.command_line.specs.Command.{Command, DecidePlain, Run, Show}
use Rattle.align_cli.specs.Decide as decide
use Rattle.align_cli.specs.Files.{File}
use Rattle.align_cli.specs.Run as run
use Rattle.align_cli.specs.Show as show

-- the files of a command, in the order in which they are taken
abbrev pub files_of : Command → List File
files_of (DecidePlain left right) = decide.files left right
files_of (Run arguments) = run.files arguments
files_of (Show function) = show.files function

-- what the report says of the files where the command ends with this status
abbrev pub Says : Command → Status → Option Holding → List ℕ → Type 0
Says (DecidePlain left right) s told report = decide.Says s left right told report
Says (Run arguments) s told report = run.Says s arguments told report
Says (Show function) s told report = show.Says s function told report

-- the statuses of a command that was carried out
abbrev pub finals : Command → List Status
finals (DecidePlain left right) = decide.finals
finals (Run arguments) = run.finals
finals (Show function) = show.finals

-- the report refuses what the files hold, once all were read
abbrev pub RefusesContents : Command → Option Holding → List ℕ → Type 0
RefusesContents (DecidePlain left right) told report = decide.RefusesContents left right told report
RefusesContents (Run arguments) told report = ⊥
RefusesContents (Show function) told report = ⊥

-- the files are such that the command can be carried out
abbrev pub Accepts : Command → Option Holding → Type 0
Accepts (DecidePlain left right) told = decide.Accepts left right told
Accepts (Run arguments) told = run.TellsRunFiles told arguments
Accepts (Show function) told = show.TellsFunctionFile told function

-- the files are good, and the command cannot be carried out with what they hold
abbrev pub Rejects : Command → Option Holding → Type 0
Rejects (DecidePlain left right) told = decide.Rejects left right told
Rejects (Run arguments) told = ⊥
Rejects (Show function) told = ⊥

-- the files are such that the command has to end with this status
abbrev pub Owes : Command → Status → Option Holding → Type 0
Owes (DecidePlain left right) s told = decide.Owes s left right told
Owes (Run arguments) s told = run.Owes s arguments told
Owes (Show function) s told = show.Owes s function told
