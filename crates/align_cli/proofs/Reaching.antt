-- The files of a command, one after another: what each take says of the command.
use Rattle.std.proofs.Common.{◌≡◌, ◌⊎◌, inl, inr, ℕ, ◌+◌, ◌≤◌, List, [], ◌∷◌, ◌++◌, append_assoc, length, Option, string_bytes, Result, Ok, Err, IfErr, IfOk, IsErrAnd, refl, sym, ◌∙◌, ap, subst, arith}
use Rattle.std.specs.List.{AllByRecursion}
use Rattle.std.proofs.lemmas.List.{length-append}
use Rattle.outcomes.proofs.Answering.{unless-found}
use Rattle.align_base.specs.Causes.{Rose, count_after}
use Rattle.align_base.specs.Shelf.{Holding, Holds, NoneFailed, ShelfAccount}
use Rattle.insn_ops.specs.declared.side.Side.TheVariants.{Left, Right}
use Rattle.align_base.specs.declared.status.Status.{Status}
use Rattle.align_base.specs.declared.status.Status.TheVariants as status
use Rattle.insn_table.specs.Closed.{IsClosed}
use Rattle.insn_table.specs.declared.insn.Function.{Function}
use Rattle.insn_table.specs.declared.insn.Insn.{Insn}
use Rattle.text_lines.specs.declared.refusal.ReadKind.TheVariants as kinds
use Rattle.text_lines.specs.declared.refusal.ReadRefusal.{ReadRefusal}
use Rattle.text_lines.specs.Kinds.{out_of_memory}
use Rattle.admission.specs.declared.admission.Admission.{Admission}
use Rattle.admission_text.specs.Refusals as admissions
use Rattle.admission.specs.declared.refusal.AdmitRefusal.{AdmitRefusal}
use Rattle.admission.specs.declared.refusal.AdmitRefusal.TheVariants as admits
use Rattle.align_report.specs.RunReport.{IsRunReport}
use Rattle.tests_text.specs.TestFiles as tests
use Rattle.tests_text.specs.declared.refusal.TestRefusal.{TestRefusal}
use Rattle.tests_text.specs.declared.refusal.TestRefusal.TheVariants as test
use Rattle.tests_text.specs.declared.test.Tests.{Tests}
use Rattle.att_reader.specs.FunctionText.{IsFunctionText, IsFunctionRefusal}
use Rattle.att_reader.proofs.ClosedTexts.{function-few}
use Rattle.align_cli.specs.Answers.{TellsOf}
use Rattle.command_line.specs.Command.{Command, DecidePlain, FunctionArguments, Run, RunArguments}
use Rattle.align_cli.specs.Decide.{AreFunctions, OfPlain, RefusesEither}
use Rattle.align_cli.specs.Files.{AdmissionText, File, FunctionText, HoldsAdmission, HoldsFunction, HoldsTests, HoldsText, IsReached, ReadsFile, RefusesFile, RefusesText, TestsText, admission_file, file_word, function_file, limit_of, tests_file, text_limit}
use Rattle.align_cli.specs.Commands.{files_of}
use Rattle.align_cli.specs.Inside.{Compares, IsReadAdmission, IsReadFunction, IsReadTests, StopsCommand, StopsFile, StopsTake, StopsWith}
use Rattle.align_report.specs.PlainReport.{ReportsDifferent, ReportsEquivalent, side_name}
use Rattle.align_report.specs.Refusals.{admission_refusal, line_refusal, lone_file, tests_refusal}
use Rattle.align_cli.specs.declared.answer.Stop.{Stop}
use Rattle.align_cli.specs.declared.answer.Stop.TheVariants as stop

-- what holds of an error holds of the result that is it
pub err-is : {T E : Type 0} (P : E → Type 0) (r : Result T E) (e : E) → IsErrAnd r (λ x. x ≡ e) → P e → IfErr r P
err-is P (Ok x) e is h = tt
err-is P (Err x) e is h = subst P (sym is) h

-- what follows for a value, and for an error, follows for a result
pub ok-map : {T E : Type 0} (P Q : T → Type 0) (r : Result T E) → ((x : T) → P x → Q x) → IfOk r P → IfOk r Q
ok-map P Q (Ok x) f h = f x h
ok-map P Q (Err e) f h = tt

pub err-map : {T E : Type 0} (P Q : E → Type 0) (r : Result T E) → ((e : E) → P e → Q e) → IfErr r P → IfErr r Q
err-map P Q (Ok x) f h = tt
err-map P Q (Err e) f h = f e h

-- what holds of a status and a report holds of an answer that has them
pub answer-as : (P : Status → List ℕ → Type 0) (s t : Status) (report bytes : List ℕ) → t ≡ s → bytes ≡ report → P s report → P t bytes
answer-as P s t report bytes same whole h = subst (λ (x : Status). P x bytes) (sym same) (subst (P s) (sym whole) h)

-- ---- one file

-- what stops a take stops its file
pub take-stops : (file : File) (before after : ShelfAccount) (s : Stop) → StopsTake file.name (file_word file.content) (limit_of file.content) before after s
    → StopsFile file before after s
take-stops file before after (stop.Refused report) h = (h.0, inl (record { more = h.1; seen_more = h.2; report_is = h.3 }))
take-stops file before after stop.Shelf h = h
take-stops file before after stop.Memory h = h

-- what is so of a text that was taken is held
pub text-held : (IsSo : List ℕ → Type 0) (limit : ℕ) (told : Option Holding) (name text slice : List ℕ) → Holds told name text → length text ≤ limit
    → slice ≡ text → IsSo slice → HoldsText IsSo limit told name
text-held IsSo limit told name text slice held small is so = record { text = text; held = held; small = small; so = subst IsSo is so }

-- a text that is refused stops its file
pub text-stops : (file : File) (before after : ShelfAccount) (text slice report : List ℕ) → NoneFailed before after → Holds before.holding file.name text
    → length text ≤ limit_of file.content → slice ≡ text → RefusesText file.content slice report
    → NoneFailed before after × RefusesFile before.holding after.seen file report
text-stops file before after text slice report stays held small is refused =
    (stays, inr (text-held (λ t. RefusesText file.content t report) (limit_of file.content) before.holding file.name text slice held small is refused))

-- ---- what each kind of text refuses

-- another kind is another error
other-kind : (e : ReadRefusal) → (e.kind ≡ kinds.Memory → ⊥) → e ≡ out_of_memory → ⊥
other-kind e other is = other (ap (λ (x : ReadRefusal). x.kind) is)

-- a function's text
pub function-refused : (called name text report : List ℕ) (e : ReadRefusal) → (e ≡ out_of_memory) ⊎ IsFunctionRefusal text name e → (e.kind ≡ kinds.Memory → ⊥)
    → report ≡ line_refusal called e.line e.kind → RefusesText (FunctionText called name) text report
function-refused called name text report e refused other told = (e, unless-found refused (other-kind e other), told)

-- an admission's text
pub admission-refused : (text report : List ℕ) (e : AdmitRefusal) → (e ≡ admits.Memory) ⊎ admissions.IsAdmissionRefusal text e → (e ≡ admits.Memory → ⊥)
    → report ≡ admission_refusal e → RefusesText AdmissionText text report
admission-refused text report e refused other told = (e, unless-found refused other, told)

-- the text of tests
pub tests-refused : (text report : List ℕ) (e : TestRefusal) → (e ≡ test.Memory) ⊎ tests.IsTestsRefusal text e → (e ≡ test.Memory → ⊥)
    → report ≡ tests_refusal e → RefusesText TestsText text report
tests-refused text report e refused other told = (e, unless-found refused other, told)

-- a function that was read has few instructions
pub function-held : (told : Option Holding) (arguments : FunctionArguments) (text slice : List ℕ) (f : Function) → Holds told arguments.file text
    → length text ≤ text_limit → slice ≡ text → IsFunctionText slice arguments.name f → IsClosed f.insns → IsReadFunction told arguments f
function-held told arguments text slice f held small is read closed =
    let h = text-held (λ t. IsFunctionText t arguments.name f) text_limit told arguments.file text slice held small is read in
    (h, closed, function-few arguments.name h.so.items f.insns h.so.function)

-- two counts are one
pub counted_twice : (a b c : ℕ) → b ≡ count_after a 1 → c ≡ count_after b 1 → c ≡ count_after a 2
counted_twice a b c h k = k ∙ ap (λ n. count_after n 1) h ∙ omega arith

-- ---- a command's files, one after another

-- these files of the command were read, and no other was taken
pub record HaveRead (command : Command) (before now : ShelfAccount) (read rest : List File) : Type 0 where
  pub whole : files_of command ≡ read ++ rest
  pub each : AllByRecursion (ReadsFile before.holding) read
  pub same : now.holding ≡ before.holding
  pub taken : now.calls ≡ count_after before.calls (length read)
  pub stays : NoneFailed before now

one-more : (a b c n : ℕ) → b ≡ count_after a n → c ≡ count_after b 1 → c ≡ count_after a (n + 1)
one-more a b c n h k = k ∙ ap (λ m. count_after m 1) h ∙ omega arith

all-and : (P : File → Type 0) (files : List File) (file : File) → AllByRecursion P files → P file → AllByRecursion P (files ++ file ∷ [])
all-and P [] file all is = (is, tt)
all-and P (x ∷ files) file all is = (all.0, all-and P files file all.1 is)

-- the first file
module _ (command : Command) (before after : ShelfAccount) (file : File) (rest : List File) (whole : files_of command ≡ file ∷ rest)
    (taken : after.calls ≡ count_after before.calls 1) where
  first-reached : IsReached before.holding (files_of command) file 1
  first-reached = record { before = []; after = rest; whole = whole; read = tt; counted = refl }

  pub first-stops : (s : Stop) → StopsFile file before after s → StopsCommand command before after s
  first-stops (stop.Refused report) h = (h.0, inl (record { file = file; number = 1; reached = first-reached; taken = taken; refused = h.1 }))
  first-stops stop.Shelf h = record { file = file; number = 1; reached = first-reached; taken = taken; failed = h }
  first-stops stop.Memory h = h

  pub first-read : after.holding ≡ before.holding → NoneFailed before after → ReadsFile before.holding file → HaveRead command before after (file ∷ []) rest
  first-read same stays reads = record { whole = whole; each = (reads, tt); same = same; taken = taken; stays = stays }

-- a further file
module _ (command : Command) (before middle after : ShelfAccount) (read : List File) (file : File) (rest : List File)
    (so_far : HaveRead command before middle read (file ∷ rest)) (once : after.calls ≡ count_after middle.calls 1) where
  next-taken : after.calls ≡ count_after before.calls (length read + 1)
  next-taken = one-more before.calls middle.calls after.calls (length read) so_far.taken once

  next-reached : IsReached before.holding (files_of command) file (length read + 1)
  next-reached = record { before = read; after = rest; whole = so_far.whole; read = so_far.each; counted = refl }

  pub next-stops : (s : Stop) → StopsFile file middle after s → StopsCommand command before after s
  next-stops (stop.Refused report) h = (
    (h.0.0 ∙ so_far.stays.0, h.0.1 ∙ so_far.stays.1),
    inl (record {
      file = file;
      number = length read + 1;
      reached = next-reached;
      taken = next-taken;
      refused = let P : Option Holding → Type 0 = λ t. RefusesFile t after.seen file (string_bytes report) in subst P so_far.same h.1;
    }),
  )
  next-stops stop.Shelf h = record {
    file = file;
    number = length read + 1;
    reached = next-reached;
    taken = next-taken;
    failed = ((let P : ℕ → Type 0 = λ n. Rose n after.faults in subst P so_far.stays.0 h.0), h.1);
  }
  next-stops stop.Memory h = (h.0 ∙ so_far.stays.0, h.1 ∙ so_far.stays.1)

  pub next-read : after.holding ≡ middle.holding → NoneFailed middle after → ReadsFile middle.holding file → HaveRead command before after (read ++ file ∷ []) rest
  next-read same stays reads = record {
    whole = so_far.whole ∙ sym (append_assoc read (file ∷ []) rest);
    each = all-and (ReadsFile before.holding) read file so_far.each (let P : Option Holding → Type 0 = λ t. ReadsFile t file in subst P so_far.same reads);
    same = same ∙ so_far.same;
    taken = next-taken ∙ ap (count_after before.calls) (sym (length-append read (file ∷ [])));
    stays = (stays.0 ∙ so_far.stays.0, stays.1 ∙ so_far.stays.1);
  }

-- ---- the files of a decision

-- a file that holds a function was read
function-reads : (told : Option Holding) (called : List ℕ) (arguments : FunctionArguments) (f : Function) → HoldsFunction told arguments f
    → ReadsFile told (function_file called arguments)
function-reads told called arguments f h = record { text = h.text; held = h.held; small = h.small; so = (f, h.so) }

-- the left function was read
pub decide-first : (left right : FunctionArguments) (before first : ShelfAccount) (f : Function) → IsReadFunction before.holding left f
    → first.holding ≡ before.holding → first.calls ≡ count_after before.calls 1 → NoneFailed before first
    → HaveRead (DecidePlain left right) before first (function_file (side_name Left) left ∷ []) (function_file (side_name Right) right ∷ [])
decide-first left right before first f is same taken stays =
    first-read (DecidePlain left right) before first (function_file (side_name Left) left) (function_file (side_name Right) right ∷ []) refl taken same stays
    (function-reads before.holding (side_name Left) left f is.0)

module _ (left right : FunctionArguments) (before middle after : ShelfAccount)
    (so_far : HaveRead (DecidePlain left right) before middle (function_file (side_name Left) left ∷ []) (function_file (side_name Right) right ∷ []))
    (f g : Function) (left_holds : HoldsFunction before.holding left f) (right_holds : HoldsFunction middle.holding right g)
    (same : after.holding ≡ middle.holding) (once : after.calls ≡ count_after middle.calls 1) (stays : NoneFailed middle after) where
  -- and the right one
  both-read : HaveRead (DecidePlain left right) before after (function_file (side_name Left) left ∷ function_file (side_name Right) right ∷ []) []
  both-read =
      next-read (DecidePlain left right) before middle after (function_file (side_name Left) left ∷ []) (function_file (side_name Right) right) [] so_far once same stays
      (function-reads middle.holding (side_name Right) right g right_holds)

  -- this is so of the functions that the files hold
  pub are-functions : (Claim : List Insn → List Insn → Type 0) → Claim f.insns g.insns → AreFunctions Claim before.holding left right
  are-functions Claim claim = record {
    f = f;
    g = g;
    left_holds = left_holds;
    right_holds = let P : Option Holding → Type 0 = λ t. HoldsFunction t right g in subst P so_far.same right_holds;
    claim = claim;
  }

  -- the report tells of them
  pub decide-finishes : (s : Status) (report : List ℕ) → Compares s f.insns g.insns report → TellsOf (DecidePlain left right) s before after report
  decide-finishes status.Good report says = record {
    read = both-read.each;
    taken = both-read.taken;
    says = are-functions (OfPlain (λ f g. ReportsEquivalent f g report)) says;
  }
  decide-finishes status.Negative report says = record {
    read = both-read.each;
    taken = both-read.taken;
    says = are-functions (OfPlain (λ f g. ReportsDifferent f g report)) says;
  }
  decide-finishes _ report says = absurd says

  -- or one of them was refused
  pub decide-stops : (s : Stop) → StopsWith (λ report. RefusesEither report f.insns g.insns) s → StopsCommand (DecidePlain left right) before after s
  decide-stops (stop.Refused report) h =
      (both-read.stays, inr (record { read = both-read.each; taken = both-read.taken; refused = are-functions (RefusesEither (string_bytes report)) h }))
  decide-stops stop.Shelf h = absurd h
  decide-stops stop.Memory h = both-read.stays

-- ---- the files of a run

-- the function was read
pub run-first : (run : RunArguments) (before first : ShelfAccount) (f : Function) → IsReadFunction before.holding run.function f
    → first.holding ≡ before.holding → first.calls ≡ count_after before.calls 1 → NoneFailed before first
    → HaveRead (Run run) before first (function_file lone_file run.function ∷ []) (admission_file run.admission ∷ tests_file run.tests ∷ [])
run-first run before first f is same taken stays =
    first-read (Run run) before first (function_file lone_file run.function) (admission_file run.admission ∷ tests_file run.tests ∷ []) refl taken same stays
    (function-reads before.holding lone_file run.function f is.0)

-- and the admission
pub run-second : (run : RunArguments) (before first second : ShelfAccount)
    → HaveRead (Run run) before first (function_file lone_file run.function ∷ []) (admission_file run.admission ∷ tests_file run.tests ∷ [])
    → (a : Admission) → IsReadAdmission first.holding run.admission a → second.holding ≡ first.holding → second.calls ≡ count_after first.calls 1
    → NoneFailed first second
    → HaveRead (Run run) before second (function_file lone_file run.function ∷ admission_file run.admission ∷ []) (tests_file run.tests ∷ [])
run-second run before first second so_far a is same taken stays =
    next-read (Run run) before first second (function_file lone_file run.function ∷ []) (admission_file run.admission) (tests_file run.tests ∷ []) so_far taken same stays
    (record { text = is.0.text; held = is.0.held; small = is.0.small; so = (a, is.0.so) })

-- and the tests, and the report tells of them
pub run-finishes : (run : RunArguments) (before first second third : ShelfAccount) (f : Function) → IsReadFunction before.holding run.function f
    → first.holding ≡ before.holding → (a : Admission) → IsReadAdmission first.holding run.admission a
    → HaveRead (Run run) before second (function_file lone_file run.function ∷ admission_file run.admission ∷ []) (tests_file run.tests ∷ [])
    → (ts : Tests) → IsReadTests second.holding run.tests ts → third.holding ≡ second.holding → third.calls ≡ count_after second.calls 1
    → NoneFailed second third → (report : List ℕ) → IsRunReport f a ts run.steps report → TellsOf (Run run) status.Good before third report
run-finishes run before first second third f is_f same a is_a so_far ts is_t same_too taken stays report tells =
    let all = next-read (Run run) before second third (function_file lone_file run.function ∷ admission_file run.admission ∷ []) (tests_file run.tests) [] so_far taken same_too stays
    (record { text = is_t.text; held = is_t.held; small = is_t.small; so = (ts, is_t.so) }) in
    record {
      read = all.each;
      taken = all.taken;
      says = record {
        f = f;
        a = a;
        tests = ts;
        function_holds = is_f.0;
        admission_holds = let P : Option Holding → Type 0 = λ t. HoldsAdmission t run.admission a in subst P same is_a.0;
        tests_holds = let P : Option Holding → Type 0 = λ t. HoldsTests t run.tests ts in subst P so_far.same is_t;
        claim = tells;
      };
    }

-- three counts are one
pub counted_thrice : (a b c d : ℕ) → b ≡ count_after a 1 → c ≡ count_after b 1 → d ≡ count_after c 1 → d ≡ count_after a 3
counted_thrice a b c d h k l = one-more a c d 2 (counted_twice a b c h k) l
