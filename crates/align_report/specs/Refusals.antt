-- The refusals of files and of what they hold.
use Rattle.std.specs.Prelude.{ℕ, List, ◌++◌, codes, decimal}
use Rattle.admission.specs.declared.refusal.AdmitRefusal.{AdmitRefusal}
use Rattle.admission.specs.declared.refusal.AdmitRefusal.TheVariants as admits
use Rattle.tests_text.specs.declared.refusal.TestRefusal.{TestRefusal}
use Rattle.tests_text.specs.declared.refusal.TestRefusal.TheVariants as tests
use Rattle.text_lines.specs.declared.refusal.ReadKind.{ReadKind}
use Rattle.text_lines.specs.declared.refusal.ReadKind.TheVariants as kind

-- what refusals call a fault of a text
abbrev pub kind_name : ReadKind → List ℕ
kind_name kind.Memory = codes "memory"
kind_name kind.NotUtf8 = codes "not-utf8"
kind_name kind.LineLong = codes "line-long"
kind_name kind.NoFunction = codes "no-function"
kind_name kind.TwiceLabel = codes "twice-label"
kind_name kind.DataInBody = codes "data-in-body"
kind_name kind.UnknownInstruction = codes "unknown-instruction"
kind_name kind.PoolRefused = codes "pool-refused"
kind_name kind.BadOperand = codes "bad-operand"
kind_name kind.BadNumber = codes "bad-number"
kind_name kind.UnknownLabel = codes "unknown-label"
kind_name kind.TooManyInsns = codes "too-many-insns"
kind_name kind.FallsOff = codes "falls-off"

-- what reports call the file of a command that takes one function
abbrev pub lone_file : List ℕ
lone_file = codes "left"

-- a refusal at a line, by what the file and the fault are called
unfoldable pub named_refusal : List ℕ → ℕ → List ℕ → List ℕ
named_refusal file line name = codes "refused " ++ file ++ codes " line " ++ decimal line ++ codes " " ++ name ++ codes "\n"

-- the refusal of a function that is not plain, by what its file is called, at a line
abbrev pub unplain_refusal : List ℕ → ℕ → List ℕ
unplain_refusal file line = named_refusal file line (codes "not-plain")

-- the refusal of a function's text, by what its file is called, at a line
abbrev pub line_refusal : List ℕ → ℕ → ReadKind → List ℕ
line_refusal file line kind = named_refusal file line (kind_name kind)

-- the refusal of an admission
abbrev pub admission_refusal : AdmitRefusal → List ℕ
admission_refusal (admits.BadLine line) = named_refusal (codes "admit") line (codes "bad-line")
admission_refusal (admits.TooMany line) = named_refusal (codes "admit") line (codes "too-many")
admission_refusal admits.NoLive = named_refusal (codes "admit") 0 (codes "no-live")
admission_refusal admits.Memory = named_refusal (codes "admit") 0 (codes "memory")

-- the refusal of all tests, by what the fault is called
unfoldable pub tests_named : List ℕ → List ℕ
tests_named name = codes "refused tests " ++ name ++ codes "\n"

-- the refusal of a test, by its number and what the fault is called; 0 is the outer object
unfoldable pub test_named : ℕ → List ℕ → List ℕ
test_named k name = codes "refused tests test " ++ decimal k ++ codes " " ++ name ++ codes "\n"

-- the refusal of tests
abbrev pub tests_refusal : TestRefusal → List ℕ
tests_refusal tests.NotJson = tests_named (codes "not-json")
tests_refusal (tests.BadShape k) = test_named k (codes "bad-shape")
tests_refusal tests.TooMany = tests_named (codes "too-many")
tests_refusal (tests.TooManyBytes k) = test_named k (codes "too-many-bytes")
tests_refusal tests.Memory = tests_named (codes "memory")

-- the refusal of a file of which so many bytes were read, by what the file is called
unfoldable pub large_refusal : List ℕ → ℕ → List ℕ
large_refusal file seen = codes "refused " ++ file ++ codes " large " ++ decimal seen ++ codes "\n"
