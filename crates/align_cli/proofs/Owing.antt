-- A file is not both good and bad, and a text is one function at most: so files that are equivalent are not reported
-- different, and files that differ are not reported equivalent.
use Rattle.std.proofs.Common.{◌≡◌, ◌⊎◌, inl, inr, ⊎_elim, ℕ, List, [], ◌∷◌, ◌++◌, length, Option, Some, refl, ap, subst, arith}
use Rattle.std.specs.List.{AllByRecursion}
use Rattle.align_base.specs.Shelf.{Holding, Holds, HoldsMore}
use Rattle.insn_ops.specs.declared.side.Side.TheVariants.{Left, Right}
use Rattle.align_base.specs.declared.status.Status.{Status}
use Rattle.align_base.specs.declared.status.Status.TheVariants as status
use Rattle.insn_table.specs.declared.insn.Insn.{Insn}
use Rattle.insn_table.specs.declared.insn.Function.{Function}
use Rattle.plain_functions.specs.Plain.{IsPlain}
use Rattle.att_reader.specs.FunctionText.{IsFunctionText}
use Rattle.admission.specs.declared.admission.Admission.{Admission}
use Rattle.admission_text.specs.Entries.{IsAdmissionText}
use Rattle.tests_text.specs.TestFiles.{IsTestsText}
use Rattle.tests_text.specs.declared.test.Tests.{Tests}
use Rattle.admission_text.proofs.WholeTexts.{text-differs as admission-differs, text-once as admission-once}
use Rattle.att_reader.proofs.TextLaws as laws
use Rattle.tests_text.proofs.TestFaults.{text-differs as tests-differ, text-once as tests-once}
use Rattle.command_line.specs.Command.{Command, DecidePlain, FunctionArguments, RunArguments, Show}
use Rattle.command_line.specs.Command.{Run as ToRun}
use Rattle.align_cli.specs.Commands.{Accepts, Owes, RefusesContents, Rejects, Says, files_of, finals}
use Rattle.align_cli.specs.Decide.{AreFunctions, OfPlain, RefusesEither, TellsFunctions}
use Rattle.align_cli.specs.Files.{AdmissionText, Content, File, FunctionText, HoldsAdmission, HoldsFunction, HoldsTests, IsBadFile, IsGoodFile, IsText, ReadsFile, RefusesFile, RefusesText, TestsText, function_file, limit_of}
use Rattle.align_cli.specs.Run.{TellsRunFiles}
use Rattle.align_cli.specs.Statuses.{IsOneOf, interruptions}
use Rattle.plain_functions.specs.Verdict.{ReturnApart, ReturnTheSame}
use Rattle.plain_functions.proofs.Verdicts.{differently-same, equivalent-apart}
use Rattle.align_report.specs.PlainReport.{ReportsDifferent, ReportsEquivalent, side_name}
use Rattle.align_report.specs.Refusals.{lone_file}
use Rattle.plain_functions.proofs.PlainEnds.{plain-unplain}

-- a text is not both what it has to be and refused
text-differs : (content : Content) (text report : List ℕ) → IsText content text → RefusesText content text report → ⊥
text-differs (FunctionText called name) text report is refused = laws.text-differs text name is.0 refused.0 is.1 refused.1
text-differs AdmissionText text report is refused = admission-differs text is.0 refused.0 is.1 refused.1
text-differs TestsText text report is refused = tests-differ text is.0 refused.0 is.1 refused.1

-- what a shelf that tells holds
held_is : (told : Option Holding) (held : Holding) (file text : List ℕ) → told ≡ Some held → Holds told file text → held file ≡ Some text
held_is told held file text e h = let P : Option Holding → Type 0 = λ t. Holds t file text in subst P e h

same_text : (told : Option Holding) (held : Holding) (file text other : List ℕ) → told ≡ Some held → held file ≡ Some text → Holds told file other → other ≡ text
same_text told held file text other e is h = let k = held_is told held file other e h in cc

-- a bad file was not read
pub bad-differs : (told : Option Holding) (file : File) → IsBadFile told file → ReadsFile told file → ⊥
bad-differs told file bad reads =
    let e = same_text told bad.held file.name bad.text reads.text bad.tells bad.is_held reads.held in
    ⊎_elim {C = ⊥}
    (λ large. absurd (omega (arith, ap length e, reads.small)))
    (λ refused. text-differs file.content bad.text refused.0 (let P : List ℕ → Type 0 = λ t. IsText file.content t in subst P e reads.so) refused.1)
    bad.bad

-- a good file was not refused
pub good-differs : (told : Option Holding) (seen : ℕ) (file : File) (report : List ℕ) → IsGoodFile told file → RefusesFile told seen file report → ⊥
good-differs told seen file report good (inl large) =
    let P : Option Holding → Type 0 = λ t. HoldsMore t file.name (limit_of file.content) in
    let more = subst P good.tells large.more in
    let e : more.0 ≡ good.text = (let k = more.1 in let l = good.is_held in cc) in absurd (omega (arith, ap length e, more.2, good.small))
good-differs told seen file report good (inr line) =
    let e = same_text told good.held file.name good.text line.text good.tells good.is_held line.held in
    text-differs file.content good.text report good.is_text (let P : List ℕ → Type 0 = λ t. RefusesText file.content t report in subst P e line.so)

-- a file that is held is one function at most
pub same_held : (told : Option Holding) (held : Holding) (arguments : FunctionArguments) (f g : Function) → told ≡ Some held
    → HoldsFunction told arguments f → HoldsFunction told arguments g → f ≡ g
same_held told held arguments f g tells h k =
    let e = same_text told held arguments.file k.text h.text tells (held_is told held arguments.file k.text tells k.held) h.held in
    laws.text-once k.text arguments.name f g (let P : List ℕ → Type 0 = λ t. IsFunctionText t arguments.name f in subst P e h.so) k.so

-- one admission
pub same_admission : (told : Option Holding) (held : Holding) (name : List ℕ) (a b : Admission) → told ≡ Some held
    → HoldsAdmission told name a → HoldsAdmission told name b → a ≡ b
same_admission told held name a b tells h k =
    let e = same_text told held name k.text h.text tells (held_is told held name k.text tells k.held) h.held in
    admission-once k.text a b (let P : List ℕ → Type 0 = λ t. IsAdmissionText t a in subst P e h.so) k.so

-- and one list of tests
pub same_tests : (told : Option Holding) (held : Holding) (name : List ℕ) (a b : Tests) → told ≡ Some held
    → HoldsTests told name a → HoldsTests told name b → a ≡ b
same_tests told held name a b tells h k =
    let e = same_text told held name k.text h.text tells (held_is told held name k.text tells k.held) h.held in
    tests-once k.text a b (let P : List ℕ → Type 0 = λ t. IsTestsText t a in subst P e h.so) k.so

-- two claims on the files are on the same functions
pub same_functions : (C D : List Insn → List Insn → Type 0) (told : Option Holding) (held : Holding) (left right : FunctionArguments) → told ≡ Some held
    → AreFunctions C told left right → (d : AreFunctions D told left right) → C d.f.insns d.g.insns
same_functions C D told held left right tells a b =
    let l = same_held told held left a.f b.f tells a.left_holds b.left_holds in
    let r = same_held told held right a.g b.g tells a.right_holds b.right_holds in
    let P : Function → Type 0 = λ f. C f.insns a.g.insns in
    let Q : Function → Type 0 = λ g. C b.f.insns g.insns in
    subst Q r (subst P l a.claim)

-- functions that are reported different do not return the same
shown_differs : (left right : List Insn) (report : List ℕ) → ReportsDifferent left right report → ReturnTheSame left right → ⊥
shown_differs left right report d same = differently-same d.regs left right d.left_value d.right_value d.different same

-- functions that are reported equivalent do not return apart
equivalent_same : (left right : List Insn) (report : List ℕ) → ReportsEquivalent left right report → ReturnApart left right → ⊥
equivalent_same left right report e apart = equivalent-apart e.bound left right e.equivalent apart

-- a file that holds a function is good
function_good : (told : Option Holding) (held : Holding) (called : List ℕ) (arguments : FunctionArguments) (f : Function) → told ≡ Some held
    → HoldsFunction told arguments f → IsGoodFile told (function_file called arguments)
function_good told held called arguments f tells h = record {
  held = held;
  text = h.text;
  tells = tells;
  is_held = held_is told held arguments.file h.text tells h.held;
  small = h.small;
  is_text = (f, h.so);
}

-- files that hold functions are good
pub functions_good : (C : List Insn → List Insn → Type 0) (told : Option Holding) (left right : FunctionArguments) → TellsFunctions C told left right
    → AllByRecursion (IsGoodFile told) (function_file (side_name Left) left ∷ function_file (side_name Right) right ∷ [])
functions_good C told left right owes = (
  function_good told owes.0 (side_name Left) left owes.2.f owes.1 owes.2.left_holds,
  (function_good told owes.0 (side_name Right) right owes.2.g owes.1 owes.2.right_holds, tt),
)

-- files that hold a function, an admission and tests are good
run_files_good : (told : Option Holding) (run : RunArguments) → TellsRunFiles told run → AllByRecursion (IsGoodFile told) (files_of (ToRun run))
run_files_good told run tells =
    let held = tells.0 in
    let k = tells.2.admission_holds in
    let l = tells.2.tests_holds in (
      function_good told held lone_file run.function tells.2.f tells.1 tells.2.function_holds,
      (
        record { held = held; text = k.text; tells = tells.1; is_held = held_is told held run.admission k.text tells.1 k.held; small = k.small; is_text = (tells.2.a, k.so) },
        (
          record { held = held; text = l.text; tells = tells.1; is_held = held_is told held run.tests l.text tells.1 l.held; small = l.small; is_text = (tells.2.tests, l.so) },
          tt,
        ),
      ),
    )

-- both functions of a claim on plain functions are plain
plain_both : (C : List Insn → List Insn → Type 0) (f g : List Insn) → OfPlain C f g → IsPlain f × IsPlain g
plain_both C f g h = (h.0, h.1)

not_plain : (f g : List Insn) → (IsPlain f → ⊥) ⊎ (IsPlain g → ⊥) → IsPlain f × IsPlain g → ⊥
not_plain f g (inl left) both = left both.0
not_plain f g (inr right) both = right both.1

plain_functions : (C : List Insn → List Insn → Type 0) (told : Option Holding) (left right : FunctionArguments) → TellsFunctions (OfPlain C) told left right
    → TellsFunctions (λ f g. IsPlain f × IsPlain g) told left right
plain_functions C told left right owes =
    let a = owes.2 in
    (owes.0, owes.1, record { f = a.f; g = a.g; left_holds = a.left_holds; right_holds = a.right_holds; claim = (a.claim.0, a.claim.1) })

-- plain functions were not refused
plain_differ : (f g : List Insn) (report : List ℕ) → IsPlain f × IsPlain g → RefusesEither report f g → ⊥
plain_differ f g report plain (inl left) = plain-unplain f left.0 plain.0 left.1
plain_differ f g report plain (inr right) = plain-unplain g right.1.0 plain.1 right.1.1

-- files that call for a status are not reported with another one
pub owes-differs : (command : Command) (s t : Status) (told : Option Holding) (report : List ℕ) → Owes command s told → Says command t told report → t ≡ s
owes-differs (DecidePlain left right) status.Good status.Good told report owes says = refl
owes-differs (DecidePlain left right) status.Good status.Negative told report owes says =
    absurd (shown_differs owes.2.f.insns owes.2.g.insns report
    (same_functions (OfPlain (λ f g. ReportsDifferent f g report)) (OfPlain ReturnTheSame) told owes.0 left right owes.1 says owes.2).2 owes.2.claim.2)
owes-differs (DecidePlain left right) status.Negative status.Negative told report owes says = refl
owes-differs (DecidePlain left right) status.Negative status.Good told report owes says =
    absurd (equivalent_same owes.2.f.insns owes.2.g.insns report
    (same_functions (OfPlain (λ f g. ReportsEquivalent f g report)) (OfPlain ReturnApart) told owes.0 left right owes.1 says owes.2).2 owes.2.claim.2)
owes-differs (DecidePlain left right) status.Good _ told report owes says = absurd says
owes-differs (DecidePlain left right) status.Negative _ told report owes says = absurd says
owes-differs (DecidePlain left right) _ t told report owes says = absurd owes
owes-differs (ToRun run) status.Good status.Good told report owes says = refl
owes-differs (ToRun run) status.Good _ told report owes says = absurd says
owes-differs (ToRun run) _ t told report owes says = absurd owes
owes-differs (Show function) status.Good status.Good told report owes says = refl
owes-differs (Show function) status.Good _ told report owes says = absurd says
owes-differs (Show function) _ t told report owes says = absurd owes

-- files that call for a status are accepted
pub owes-accepts : (command : Command) (s : Status) (told : Option Holding) → Owes command s told → Accepts command told
owes-accepts (DecidePlain left right) status.Good told owes = plain_functions ReturnTheSame told left right owes
owes-accepts (DecidePlain left right) status.Negative told owes = plain_functions ReturnApart told left right owes
owes-accepts (DecidePlain left right) _ told owes = absurd owes
owes-accepts (ToRun run) status.Good told owes = owes
owes-accepts (ToRun run) _ told owes = absurd owes
owes-accepts (Show function) status.Good told owes = owes
owes-accepts (Show function) _ told owes = absurd owes

-- files that are accepted are good
pub accepts-good : (command : Command) (told : Option Holding) → Accepts command told → AllByRecursion (IsGoodFile told) (files_of command)
accepts-good (DecidePlain left right) told accepts = functions_good (λ f g. IsPlain f × IsPlain g) told left right accepts
accepts-good (ToRun run) told accepts = run_files_good told run accepts
accepts-good (Show function) told accepts = (function_good told accepts.0 lone_file function accepts.2.f accepts.1 accepts.2.holds, tt)

-- contents that are accepted were not refused
pub accepts-differs : (command : Command) (told : Option Holding) (report : List ℕ) → Accepts command told → RefusesContents command told report → ⊥
accepts-differs (DecidePlain left right) told report accepts refuses =
    plain_differ accepts.2.f.insns accepts.2.g.insns report accepts.2.claim
    (same_functions (RefusesEither report) (λ f g. IsPlain f × IsPlain g) told accepts.0 left right accepts.1 refuses accepts.2)
accepts-differs (ToRun run) told report accepts refuses = absurd refuses
accepts-differs (Show function) told report accepts refuses = absurd refuses

-- contents that are rejected are in no report of a command that was carried out
pub rejects-differs : (command : Command) (s : Status) (told : Option Holding) (report : List ℕ) → Rejects command told → Says command s told report → ⊥
rejects-differs (DecidePlain left right) status.Good told report rejects says =
    not_plain rejects.2.f.insns rejects.2.g.insns rejects.2.claim
    (plain_both (λ f g. ReportsEquivalent f g report) rejects.2.f.insns rejects.2.g.insns
    (same_functions (OfPlain (λ f g. ReportsEquivalent f g report)) (λ f g. (IsPlain f → ⊥) ⊎ (IsPlain g → ⊥)) told rejects.0 left right rejects.1 says rejects.2))
rejects-differs (DecidePlain left right) status.Negative told report rejects says =
    not_plain rejects.2.f.insns rejects.2.g.insns rejects.2.claim
    (plain_both (λ f g. ReportsDifferent f g report) rejects.2.f.insns rejects.2.g.insns
    (same_functions (OfPlain (λ f g. ReportsDifferent f g report)) (λ f g. (IsPlain f → ⊥) ⊎ (IsPlain g → ⊥)) told rejects.0 left right rejects.1 says rejects.2))
rejects-differs (DecidePlain left right) _ told report rejects says = absurd says
rejects-differs (ToRun run) s told report rejects says = absurd rejects
rejects-differs (Show function) s told report rejects says = absurd rejects

-- a report of a command that was carried out has one of its statuses
pub says-final : (command : Command) (s : Status) (told : Option Holding) (report : List ℕ) → Says command s told report → IsOneOf (finals command ++ interruptions) s
says-final (DecidePlain left right) status.Good told report says = inl refl
says-final (DecidePlain left right) status.Negative told report says = inr (inl refl)
says-final (DecidePlain left right) _ told report says = absurd says
says-final (ToRun run) status.Good told report says = inl refl
says-final (ToRun run) _ told report says = absurd says
says-final (Show function) status.Good told report says = inl refl
says-final (Show function) _ told report says = absurd says
