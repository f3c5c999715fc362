-- The files that commands name, by their kinds, and what each has to be.
use Rattle.std.specs.Prelude.{◌≡◌, ◌⊎◌, ℕ, ◌+◌, ◌<◌, ◌≤◌, List, ◌∷◌, ◌++◌, length, codes, Option, Some}
use Rattle.std.specs.List.{AllByRecursion}
use Rattle.align_base.specs.Shelf.{Holding, Holds, HoldsMore}
use Rattle.insn_table.specs.declared.insn.Function.{Function}
use Rattle.admission.specs.declared.admission.Admission.{Admission}
use Rattle.admission_text.specs.Entries.{IsAdmissionText}
use Rattle.admission_text.specs.Refusals as admissions
use Rattle.admission.specs.declared.refusal.AdmitRefusal.{AdmitRefusal}
use Rattle.tests_text.specs.TestFiles as tests
use Rattle.tests_text.specs.TestFiles.{IsTestsText}
use Rattle.tests_text.specs.declared.refusal.TestRefusal.{TestRefusal}
use Rattle.tests_text.specs.declared.test.Tests.{Tests}
use Rattle.text_lines.specs.declared.refusal.ReadRefusal.{ReadRefusal}
use Rattle.att_reader.specs.FunctionText.{IsFunctionText, IsFunctionRefusal}
use Rattle.command_line.specs.Command.{FunctionArguments}
use Rattle.align_report.specs.Refusals.{admission_refusal, large_refusal, line_refusal, tests_refusal}

-- The kinds of file. Each has a row in the four definitions below: its limit, what its text has to be, what report refuses
-- one that isn't, and what reports call it.
pub data Content : Type 0 where
  FunctionText : List ℕ → List ℕ → Content  -- called so in reports, and has the function of this name
  AdmissionText : Content
  TestsText : Content

-- the argument that names a file, and its kind
pub record File : Type 0 where
  pub name : List ℕ
  pub content : Content

-- the file of a function, by what reports call it
abbrev pub function_file : List ℕ → FunctionArguments → File
function_file called arguments = record { name = arguments.file; content = FunctionText called arguments.name }

-- the file of an admission
abbrev pub admission_file : List ℕ → File
admission_file name = record { name = name; content = AdmissionText }

-- the file of tests
abbrev pub tests_file : List ℕ → File
tests_file name = record { name = name; content = TestsText }

-- the most bytes of a text that is read: 16 MiB
abbrev pub text_limit : ℕ
text_limit = 16777216

-- the most bytes of a file
abbrev pub limit_of : Content → ℕ
limit_of (FunctionText called name) = text_limit
limit_of AdmissionText = text_limit
limit_of TestsText = text_limit

-- the text is what it has to be
abbrev pub IsText : Content → List ℕ → Type 0
IsText (FunctionText called name) text = (f : Function) × IsFunctionText text name f
IsText AdmissionText text = (a : Admission) × IsAdmissionText text a
IsText TestsText text = (tests : Tests) × IsTestsText text tests

-- the text isn't what it has to be, and this report refuses it
abbrev pub RefusesText : Content → List ℕ → List ℕ → Type 0
RefusesText (FunctionText called name) text report =
    (e : ReadRefusal) × IsFunctionRefusal text name e × (report ≡ line_refusal called e.line e.kind)
RefusesText AdmissionText text report = (e : AdmitRefusal) × admissions.IsAdmissionRefusal text e × (report ≡ admission_refusal e)
RefusesText TestsText text report = (e : TestRefusal) × tests.IsTestsRefusal text e × (report ≡ tests_refusal e)

-- what reports call a file
abbrev pub file_word : Content → List ℕ
file_word (FunctionText called name) = called
file_word AdmissionText = codes "admit"
file_word TestsText = codes "tests"

-- the report that refuses a file of more bytes than the limit, of which so many were read
abbrev pub large_report : Content → ℕ → List ℕ
large_report content seen = large_refusal (file_word content) seen

-- the file of this name holds a text within the limit of which this is so
pub record HoldsText (IsSo : List ℕ → Type 0) (limit : ℕ) (told : Option Holding) (name : List ℕ) : Type 0 where
  pub text : List ℕ
  pub held : Holds told name text
  pub small : length text ≤ limit
  pub so : IsSo text

-- the file holds a text that is this function
abbrev pub HoldsFunction : Option Holding → FunctionArguments → Function → Type 0
HoldsFunction told arguments f = HoldsText (λ text. IsFunctionText text arguments.name f) text_limit told arguments.file

-- the file holds a text that is this admission
abbrev pub HoldsAdmission : Option Holding → List ℕ → Admission → Type 0
HoldsAdmission told name a = HoldsText (λ text. IsAdmissionText text a) text_limit told name

-- the file holds a text that is these tests
abbrev pub HoldsTests : Option Holding → List ℕ → Tests → Type 0
HoldsTests told name tests = HoldsText (λ text. IsTestsText text tests) text_limit told name

-- the file holds a text within its limit that is what it has to be
abbrev pub ReadsFile : Option Holding → File → Type 0
ReadsFile told file = HoldsText (IsText file.content) (limit_of file.content) told file.name

-- the file holds a text within its limit, and this report refuses it
abbrev pub RefusesHeld : Option Holding → File → List ℕ → Type 0
RefusesHeld told file report = HoldsText (λ text. RefusesText file.content text report) (limit_of file.content) told file.name

-- the file has more bytes than the limit, as a take that read so many bytes saw, and this report refuses it
pub record RefusesLarge (told : Option Holding) (seen : ℕ) (file : File) (report : List ℕ) : Type 0 where
  pub more : HoldsMore told file.name (limit_of file.content)
  pub seen_more : limit_of file.content < seen
  pub report_is : report ≡ large_report file.content (limit_of file.content + 1)

-- this report refuses the file
abbrev pub RefusesFile : Option Holding → ℕ → File → List ℕ → Type 0
RefusesFile told seen file report = RefusesLarge told seen file report ⊎ RefusesHeld told file report

-- the file is one of these, those before it were read, and its take is the one of this number
pub record IsReached (told : Option Holding) (files : List File) (file : File) (number : ℕ) : Type 0 where
  pub before : List File
  pub after : List File
  pub whole : files ≡ before ++ file ∷ after
  pub read : AllByRecursion (ReadsFile told) before
  pub counted : number ≡ length before + 1

-- where the shelf tells, the file is within the limit and its text is what it has to be
pub record IsGoodFile (told : Option Holding) (file : File) : Type 0 where
  pub held : Holding
  pub text : List ℕ
  pub tells : told ≡ Some held
  pub is_held : held file.name ≡ Some text
  pub small : length text ≤ limit_of file.content
  pub is_text : IsText file.content text

-- where the shelf tells, the file has more bytes than the limit, or its text isn't what it has to be
pub record IsBadFile (told : Option Holding) (file : File) : Type 0 where
  pub held : Holding
  pub text : List ℕ
  pub tells : told ≡ Some held
  pub is_held : held file.name ≡ Some text
  pub bad : (limit_of file.content < length text) ⊎ ((report : List ℕ) × RefusesText file.content text report)

-- one of the files is bad
pub record HasBadFile (told : Option Holding) (files : List File) : Type 0 where
  pub before : List File
  pub file : File
  pub after : List File
  pub whole : files ≡ before ++ file ∷ after
  pub bad : IsBadFile told file
