-- What `clap` makes of the words of a command: it takes them, and its matches have the values.
use Rattle.std.proofs.Common.{◌≡◌, ◌∙◌, ◌&&◌, ◌++◌, ◌<◌, ◌^◌, ap, sym, subst, refl, arith, codes, decimal, false, true, Bool, map, Some, List, [], ◌∷◌, ℕ}
use Rattle.std.specs.Fmt.{digits}
use Rattle.std.specs.Str.Parse.{IsNumeral, digits_value, without_leading_plus}
use Rattle.std.proofs.lemmas.Fmt.{decimal_is_IsNumeral}
use Rattle.std.proofs.lemmas.Str.Parse.{without_leading_plus_none, digit_from_value}
use Rattle.clap.specs.Words.{Accepts, App, Text, found_of, first_of, is_simple, matches_of, one_of, rows_of, takes}
use Rattle.clap.specs.ValueTests.{accepts}
use Rattle.clap.specs.declared.builder.value_parser.ValueParser.TheVariants as vp
use Rattle.clap.specs.declared.parser.matches.ArgMatches.{ArgMatches}
use Rattle.clap.proofs.OnLiterals.{clap_on_literals}
use Rattle.clap.proofs.ValueTestLemmas.{Accepts-accepts}
use Rattle.clap.proofs.WalkLemmas.{first_value-rows, one_text-rows}
use Rattle.command_line.specs.Command.{Command, DecidePlain, GiveSteps, IsNumberWithin, Run, Show}
use Rattle.command_line.specs.Parts.{Valued}
use Rattle.command_line.specs.Parser.{AreWords, GivesValue, GivesCommand, decide_parser, joined_option, run_parser, show_parser}
use Rattle.command_line.specs.declared.command.CommandForm.TheVariants as form

-- ---- the words of each form, with their plain arguments

abbrev decide_words : Text → Text → Text → Text → List Text
decide_words a b c d = codes "decide" ∷ codes "--" ∷ a ∷ b ∷ c ∷ d ∷ []

abbrev run_words : List Valued → Text → Text → Text → Text → List Text
run_words options a b c d = codes "run" ∷ (map joined_option options ++ codes "--" ∷ a ∷ b ∷ c ∷ d ∷ [])

abbrev steps_words : Text → Text → Text → Text → Text → List Text
steps_words v a b c d = codes "run" ∷ (codes "--steps" ++ codes "=" ++ v) ∷ codes "--" ∷ a ∷ b ∷ c ∷ d ∷ []

abbrev show_words : Text → Text → List Text
show_words a b = codes "show" ∷ codes "--" ∷ a ∷ b ∷ []

-- the parser is one whose matches are known
pub decide-simple : is_simple decide_parser ≡ true
unfolding clap_on_literals
decide-simple = refl

pub run-simple : is_simple run_parser ≡ true
unfolding clap_on_literals
run-simple = refl

pub show-simple : is_simple show_parser ≡ true
unfolding clap_on_literals
show-simple = refl

decide-taken : (a b c d : Text) → takes decide_parser (decide_words a b c d) ≡ true
unfolding clap_on_literals
decide-taken a b c d = refl

decide-left : (a b c d : Text) → first_of (codes "left") (matches_of decide_parser (decide_words a b c d)) ≡ Some a
unfolding clap_on_literals
decide-left a b c d = refl

decide-left_function : (a b c d : Text) → first_of (codes "left_function") (matches_of decide_parser (decide_words a b c d)) ≡ Some b
unfolding clap_on_literals
decide-left_function a b c d = refl

decide-right : (a b c d : Text) → first_of (codes "right") (matches_of decide_parser (decide_words a b c d)) ≡ Some c
unfolding clap_on_literals
decide-right a b c d = refl

decide-right_function : (a b c d : Text) → first_of (codes "right_function") (matches_of decide_parser (decide_words a b c d)) ≡ Some d
unfolding clap_on_literals
decide-right_function a b c d = refl

show-taken : (a b : Text) → takes show_parser (show_words a b) ≡ true
unfolding clap_on_literals
show-taken a b = refl

show-file : (a b : Text) → first_of (codes "file") (matches_of show_parser (show_words a b)) ≡ Some a
unfolding clap_on_literals
show-file a b = refl

show-function : (a b : Text) → first_of (codes "function") (matches_of show_parser (show_words a b)) ≡ Some b
unfolding clap_on_literals
show-function a b = refl

no_plus : (ds : List ℕ) → IsNumeral 10 ds → without_leading_plus ds ≡ ds
no_plus [] h = refl
no_plus (d ∷ ds) h = without_leading_plus_none (d ∷ ds) (λ e. let k = digit_from_value d h.1.0 in absurd (omega arith))

-- a number within the range is taken as a value
accepted : (v : Text) (n : ℕ) → IsNumberWithin 1 65536 v n → accepts false (vp.Unsigned 1 65536) v ≡ true
accepted v n h =
    let few = h.few in
    let numeral = decimal_is_IsNumeral n (omega arith) in
    let same = no_plus (decimal n) numeral.0 in
    let least = h.least in
    let most = h.most in
    let value : digits_value 10 (without_leading_plus (decimal n)) ≡ n = ap (digits_value 10) same ∙ numeral.1 in
    let passed : Accepts false (vp.Unsigned 1 65536) (decimal n) =
    (subst (IsNumeral 10) (sym same) numeral.0, omega arith, omega arith, omega arith) in
    rw h.digits (Accepts-accepts false (vp.Unsigned 1 65536) (decimal n) passed)

given-taken : (v a b c d : Text) → accepts false (vp.Unsigned 1 65536) v ≡ true → takes run_parser (steps_words v a b c d) ≡ true
unfolding clap_on_literals
given-taken v a b c d h = ap (λ (t : Bool). ((((t && true) && true) && true) && true)) h

given-steps : (v a b c d : Text) → one_of (codes "steps") (matches_of run_parser (steps_words v a b c d)) ≡ Some v
unfolding clap_on_literals
given-steps v a b c d = refl

given-file : (v a b c d : Text) → first_of (codes "file") (matches_of run_parser (steps_words v a b c d)) ≡ Some a
unfolding clap_on_literals
given-file v a b c d = refl

given-function : (v a b c d : Text) → first_of (codes "function") (matches_of run_parser (steps_words v a b c d)) ≡ Some b
unfolding clap_on_literals
given-function v a b c d = refl

given-admission : (v a b c d : Text) → first_of (codes "admission") (matches_of run_parser (steps_words v a b c d)) ≡ Some c
unfolding clap_on_literals
given-admission v a b c d = refl

given-tests : (v a b c d : Text) → first_of (codes "tests") (matches_of run_parser (steps_words v a b c d)) ≡ Some d
unfolding clap_on_literals
given-tests v a b c d = refl

run-taken : (options : List Valued) (n : ℕ) (a b c d : Text) → GiveSteps options n → takes run_parser (run_words options a b c d) ≡ true
unfolding clap_on_literals
run-taken [] n a b c d g = refl
run-taken (o ∷ []) n a b c d g = rw g.0 (given-taken o.value a b c d (accepted o.value n g.1))
run-taken (o ∷ p ∷ rest) n a b c d g = absurd g

run-file : (options : List Valued) (n : ℕ) (a b c d : Text) → GiveSteps options n → first_of (codes "file") (matches_of run_parser (run_words options a b c d)) ≡ Some a
unfolding clap_on_literals
run-file [] n a b c d g = refl
run-file (o ∷ []) n a b c d g = rw g.0 (given-file o.value a b c d)
run-file (o ∷ p ∷ rest) n a b c d g = absurd g

run-function : (options : List Valued) (n : ℕ) (a b c d : Text) → GiveSteps options n → first_of (codes "function") (matches_of run_parser (run_words options a b c d)) ≡ Some b
unfolding clap_on_literals
run-function [] n a b c d g = refl
run-function (o ∷ []) n a b c d g = rw g.0 (given-function o.value a b c d)
run-function (o ∷ p ∷ rest) n a b c d g = absurd g

run-admission : (options : List Valued) (n : ℕ) (a b c d : Text) → GiveSteps options n → first_of (codes "admission") (matches_of run_parser (run_words options a b c d)) ≡ Some c
unfolding clap_on_literals
run-admission [] n a b c d g = refl
run-admission (o ∷ []) n a b c d g = rw g.0 (given-admission o.value a b c d)
run-admission (o ∷ p ∷ rest) n a b c d g = absurd g

run-tests : (options : List Valued) (n : ℕ) (a b c d : Text) → GiveSteps options n → first_of (codes "tests") (matches_of run_parser (run_words options a b c d)) ≡ Some d
unfolding clap_on_literals
run-tests [] n a b c d g = refl
run-tests (o ∷ []) n a b c d g = rw g.0 (given-tests o.value a b c d)
run-tests (o ∷ p ∷ rest) n a b c d g = absurd g

default-decimal : decimal 20000 ≡ codes "20000"
unfolding digits
default-decimal = refl

default-steps : (a b c d : Text) → one_of (codes "steps") (matches_of run_parser (run_words [] a b c d)) ≡ Some (codes "20000")
unfolding clap_on_literals
default-steps a b c d = refl

run-steps : (options : List Valued) (n : ℕ) (a b c d : Text) → GiveSteps options n → one_of (codes "steps") (matches_of run_parser (run_words options a b c d)) ≡ Some (decimal n)
unfolding clap_on_literals
run-steps [] n a b c d g = default-steps a b c d ∙ ap (λ (t : Text). Some t) (sym default-decimal ∙ ap decimal (sym g))
run-steps (o ∷ []) n a b c d g = rw g.0 (given-steps o.value a b c d ∙ ap (λ (t : Text). Some t) g.1.digits)
run-steps (o ∷ p ∷ rest) n a b c d g = absurd g

-- ---- from the words of a command

-- the words of a command are taken, so a parse fails for want of memory alone
pub decide-passes : (words : List Text) (c : Command) → AreWords form.DecidePlain words c → takes decide_parser words ≡ true
decide-passes words (DecidePlain left right) h =
    rw (h.whole, h.values.0, h.values.1) (decide-taken left.file left.name right.file right.name)
decide-passes words _ h = absurd h.values

pub run-passes : (words : List Text) (c : Command) → AreWords form.Run words c → takes run_parser words ≡ true
run-passes words (Run run) h =
    rw (h.whole, h.values.0) (run-taken h.line.options run.steps run.function.file run.function.name run.admission run.tests h.values.1)
run-passes words _ h = absurd h.values

pub show-passes : (words : List Text) (c : Command) → AreWords form.Show words c → takes show_parser words ≡ true
show-passes words (Show function) h = rw (h.whole, h.values.0, h.values.1) (show-taken function.file function.name)
show-passes words _ h = absurd h.values

first-known : (m : ArgMatches) (app : App) (words : List Text) (id text : Text) → rows_of (found_of m) ≡ matches_of app words
    → first_of id (matches_of app words) ≡ Some text → GivesValue m id text
first-known m app words id text rows h = first_value-rows (found_of m) id ∙ ap (first_of id) rows ∙ h

-- the matches have the values of the command
pub decide-gives : (m : ArgMatches) (words : List Text) (c : Command) → AreWords form.DecidePlain words c → rows_of (found_of m) ≡ matches_of decide_parser words
    → GivesCommand m c
decide-gives m words (DecidePlain left right) h rows =
    let is : words ≡ decide_words left.file left.name right.file right.name = rw (h.whole, h.values.0, h.values.1) refl in
    let known : rows_of (found_of m) ≡ matches_of decide_parser (decide_words left.file left.name right.file right.name) = rows ∙ ap (matches_of decide_parser) is in (
      first-known m decide_parser (decide_words left.file left.name right.file right.name) (codes "left") left.file known (decide-left left.file left.name right.file right.name),
      first-known m decide_parser (decide_words left.file left.name right.file right.name) (codes "left_function") left.name known (decide-left_function left.file left.name right.file right.name),
      first-known m decide_parser (decide_words left.file left.name right.file right.name) (codes "right") right.file known (decide-right left.file left.name right.file right.name),
      first-known m decide_parser (decide_words left.file left.name right.file right.name) (codes "right_function") right.name known (decide-right_function left.file left.name right.file right.name),
    )
decide-gives m words _ h rows = absurd h.values

steps-small : (options : List Valued) (n : ℕ) → GiveSteps options n → n < 2 ^ 64
steps-small [] n g = omega arith
steps-small (o ∷ []) n g = let few = g.1.few in omega arith
steps-small (o ∷ p ∷ rest) n g = absurd g

pub run-gives : (m : ArgMatches) (words : List Text) (c : Command) → AreWords form.Run words c → rows_of (found_of m) ≡ matches_of run_parser words → GivesCommand m c
run-gives m words (Run run) h rows =
    let o = h.line.options in
    let g = h.values.1 in
    let a = run.function.file in
    let b = run.function.name in
    let is : words ≡ run_words o a b run.admission run.tests = rw (h.whole, h.values.0) refl in
    let known : rows_of (found_of m) ≡ matches_of run_parser (run_words o a b run.admission run.tests) = rows ∙ ap (matches_of run_parser) is in (
      first-known m run_parser (run_words o a b run.admission run.tests) (codes "file") a known (run-file o run.steps a b run.admission run.tests g),
      first-known m run_parser (run_words o a b run.admission run.tests) (codes "function") b known (run-function o run.steps a b run.admission run.tests g),
      first-known m run_parser (run_words o a b run.admission run.tests) (codes "admission") run.admission known (run-admission o run.steps a b run.admission run.tests g),
      first-known m run_parser (run_words o a b run.admission run.tests) (codes "tests") run.tests known (run-tests o run.steps a b run.admission run.tests g),
      one_text-rows (found_of m) (codes "steps") ∙ ap (one_of (codes "steps")) known ∙ run-steps o run.steps a b run.admission run.tests g,
      steps-small o run.steps g,
    )
run-gives m words _ h rows = absurd h.values

pub show-gives : (m : ArgMatches) (words : List Text) (c : Command) → AreWords form.Show words c → rows_of (found_of m) ≡ matches_of show_parser words → GivesCommand m c
show-gives m words (Show function) h rows =
    let is : words ≡ show_words function.file function.name = rw (h.whole, h.values.0, h.values.1) refl in
    let known : rows_of (found_of m) ≡ matches_of show_parser (show_words function.file function.name) = rows ∙ ap (matches_of show_parser) is in (
      first-known m show_parser (show_words function.file function.name) (codes "file") function.file known (show-file function.file function.name),
      first-known m show_parser (show_words function.file function.name) (codes "function") function.name known (show-function function.file function.name),
    )
show-gives m words _ h rows = absurd h.values
