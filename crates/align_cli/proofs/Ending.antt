-- The status that files and arguments call for, of every command: from what a report tells.
use Rattle.std.proofs.Common.{◌≡◌, ◌⊎◌, inl, inr, ℕ, List, [], ◌∷◌, ◌++◌, Option, refl, subst}
use Rattle.std.specs.List.{AllByRecursion}
use Rattle.align_base.specs.Shelf.{Holding, ShelfAccount}
use Rattle.align_base.specs.declared.status.Status.{Status}
use Rattle.align_base.specs.declared.status.Status.TheVariants as status
use Rattle.align_cli.specs.Answers.{Finishes, RefusesCommand, Tells, TellsOf}
use Rattle.command_line.specs.Command.{Command, IsCommand, OfCommand}
use Rattle.align_cli.specs.Commands.{Accepts, Owes, Rejects, files_of, finals}
use Rattle.align_cli.specs.Files.{File, HasBadFile, IsGoodFile, ReadsFile}
use Rattle.align_cli.specs.Statuses.{IsOneOf, interruptions}
use Rattle.align_cli.proofs.Owing.{accepts-differs, accepts-good, bad-differs, good-differs, owes-accepts, owes-differs, rejects-differs, says-final}
use Rattle.command_line.proofs.Commands.{command-once}

-- what holds of all files holds of one in the middle
one-of : (P : File → Type 0) (before after : List File) (file : File) → AllByRecursion P (before ++ file ∷ after) → P file
one-of P [] after file all = all.0
one-of P (x ∷ before) after file all = one-of P before after file all.1

one-of-files : (P : File → Type 0) (files before after : List File) (file : File) → files ≡ before ++ file ∷ after → AllByRecursion P files → P file
one-of-files P files before after file whole all = one-of P before after file (let Q : List File → Type 0 = AllByRecursion P in subst Q whole all)

-- a command whose files were read has no bad file
read-good : (told : Option Holding) (files : List File) → AllByRecursion (ReadsFile told) files → HasBadFile told files → ⊥
read-good told files read has = bad-differs told has.file has.bad (one-of-files (ReadsFile told) files has.before has.after has.file has.whole read)

-- a command that was refused has no files that it accepts
refused-differs : (command : Command) (before after : ShelfAccount) (report : List ℕ) → RefusesCommand command before after report → Accepts command before.holding → ⊥
refused-differs command before after report (inl r) accepts =
    good-differs before.holding after.seen r.file report
    (one-of-files (IsGoodFile before.holding) (files_of command) r.reached.before r.reached.after r.file r.reached.whole (accepts-good command before.holding accepts)) r.refused
refused-differs command before after report (inr r) accepts = accepts-differs command before.holding report accepts r.refused

-- a command that was carried out has neither a bad file nor contents that it rejects
finished-differs : (command : Command) (s : Status) (before after : ShelfAccount) (report : List ℕ) → Finishes command s before after report
    → HasBadFile before.holding (files_of command) ⊎ Rejects command before.holding → ⊥
finished-differs command s before after report h (inl bad) = read-good before.holding (files_of command) h.read bad
finished-differs command s before after report h (inr rejects) = rejects-differs command s before.holding report rejects h.says

module _ (arguments : List (List ℕ)) (before after : ShelfAccount) (report : List ℕ) where
  module _ (command : Command) (is : IsCommand arguments command) where
    -- what is told of the command that the arguments are is told of this one
    of-this : (Claim : Command → Type 0) → OfCommand arguments Claim → Claim command
    of-this Claim h = subst Claim (command-once arguments h.0 command h.1 is) h.2

    refuses-status : (s : Status) → TellsOf command s before after report → HasBadFile before.holding (files_of command) ⊎ Rejects command before.holding
        → IsOneOf (status.Refused ∷ interruptions) s
    refuses-status status.Good h bad = absurd (finished-differs command status.Good before after report h bad)
    refuses-status status.Negative h bad = absurd (finished-differs command status.Negative before after report h bad)
    refuses-status status.Unknown h bad = absurd (finished-differs command status.Unknown before after report h bad)
    refuses-status status.Refused h bad = inl refl
    refuses-status _ h bad = absurd h

    finishes-status : (s : Status) → TellsOf command s before after report → Accepts command before.holding → IsOneOf (finals command ++ interruptions) s
    finishes-status status.Good h accepts = says-final command status.Good before.holding report h.says
    finishes-status status.Negative h accepts = says-final command status.Negative before.holding report h.says
    finishes-status status.Unknown h accepts = says-final command status.Unknown before.holding report h.says
    finishes-status status.Refused h accepts = absurd (refused-differs command before after report h accepts)
    finishes-status _ h accepts = absurd h

    answers-status : (owed s : Status) → TellsOf command s before after report → Owes command owed before.holding → IsOneOf (owed ∷ interruptions) s
    answers-status owed status.Good h owes = inl (owes-differs command owed status.Good before.holding report owes h.says)
    answers-status owed status.Negative h owes = inl (owes-differs command owed status.Negative before.holding report owes h.says)
    answers-status owed status.Unknown h owes = inl (owes-differs command owed status.Unknown before.holding report owes h.says)
    answers-status owed status.Refused h owes = absurd (refused-differs command before after report h (owes-accepts command owed before.holding owes))
    answers-status owed _ h owes = absurd h

    -- a command with a bad file, or with contents that it rejects
    pub tells-refusal : (s : Status) → Tells arguments s before after report → HasBadFile before.holding (files_of command) ⊎ Rejects command before.holding
        → IsOneOf (status.Refused ∷ interruptions) s
    tells-refusal status.Usage h bad = absurd (h.usage_error command is)
    tells-refusal s h bad = refuses-status s (of-this (λ c. TellsOf c s before after report) h) bad

    -- a command that accepts its files
    pub tells-finish : (s : Status) → Tells arguments s before after report → Accepts command before.holding → IsOneOf (finals command ++ interruptions) s
    tells-finish status.Usage h accepts = absurd (h.usage_error command is)
    tells-finish s h accepts = finishes-status s (of-this (λ c. TellsOf c s before after report) h) accepts

    -- a command whose files call for a status
    pub tells-answer : (owed s : Status) → Tells arguments s before after report → Owes command owed before.holding → IsOneOf (owed ∷ interruptions) s
    tells-answer owed status.Usage h owes = absurd (h.usage_error command is)
    tells-answer owed s h owes = answers-status owed s (of-this (λ c. TellsOf c s before after report) h) owes
