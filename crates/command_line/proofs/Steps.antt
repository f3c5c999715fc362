-- The options that are a number of steps, and lines that are those of a command.
use Rattle.std.proofs.Common.{◌≡◌, ◌↔◌, ◌<◌, ◌≤◌, ℕ, Bool, List, [], ◌∷◌, length, get_or, map, Option, Some, None, false, true, codes, is_some, refl, sym, ap, subst, arith, ◌∙◌, IfNone, IfOk, IfSome, IsTrue, slice_get, Result, Global, String, string_bytes}
use Rattle.std.proofs.lemmas.List.{length-map}
use Rattle.std.proofs.lemmas.Result.{IfOk-weaker}
use Rattle.command_line.specs.Command as plain
use Rattle.command_line.specs.Command.{DecidePlain, FunctionArguments, GiveSteps, IsNumberWithin, Run, Show, plain_of}
use Rattle.command_line.specs.Parser.{AreOf, AreWords, name_of, parser_words}
use Rattle.command_line.specs.Reading.{Line}
use Rattle.command_line.specs.View.{command_view, line_view, option_view}
use Rattle.command_line.specs.declared.command.Command.{Command}
use Rattle.command_line.specs.declared.command.CommandForm.{CommandForm}
use Rattle.command_line.specs.declared.command.CommandForm.TheVariants as form
use Rattle.command_line.specs.declared.line.Line as seen
use Rattle.command_line.specs.declared.line.Valued.{Valued}

-- an option is `--steps` with this number
abbrev pub IsSteps : Valued → ℕ → Type 0
IsSteps x n = (x.flag.now ≡ codes "--steps") × IsNumberWithin 1 65536 x.value.now n

-- no option
pub steps-none : (xs : List Valued) → slice_get xs 0 ≡ None → IsTrue true ↔ ((n : ℕ) × GiveSteps (map option_view xs) n)
steps-none [] none = ((λ t. (20000, refl)), (λ n. refl))
steps-none (x ∷ xs) none = cc

-- more than one
pub steps-many : (xs : List Valued) → 1 < length xs → IsTrue false ↔ ((n : ℕ) × GiveSteps (map option_view xs) n)
steps-many [] many = absurd (omega arith)
steps-many (x ∷ []) many = absurd (omega arith)
steps-many (x ∷ y ∷ xs) many = ((λ t. cc), (λ n. absurd n.1))

-- one
pub steps-one : (xs : List Valued) (x : Valued) (b : Bool) → length xs ≤ 1 → Some x ≡ slice_get xs 0 → IsTrue b ↔ ((n : ℕ) × IsSteps x n)
    → IsTrue b ↔ ((n : ℕ) × GiveSteps (map option_view xs) n)
steps-one [] x b one is h = cc
steps-one (y ∷ []) x b one is h =
    let same : x ≡ y = cc in
    subst (λ (z : Valued). IsTrue b ↔ ((n : ℕ) × GiveSteps (map option_view (z ∷ [])) n)) same h
steps-one (y ∷ z ∷ xs) x b one is h = absurd (omega arith)

-- whether an option is `--steps` with a number
pub number-steps : (x : Valued) (o : Option ℕ) → x.flag.now ≡ codes "--steps" → IfSome o (IsNumberWithin 1 65536 x.value.now)
    → IfNone o ((n : ℕ) → IsNumberWithin 1 65536 x.value.now n → ⊥) → IsTrue (is_some o) ↔ ((n : ℕ) × IsSteps x n)
number-steps x None flag some none = ((λ t. cc), (λ n. absurd (none n.0 n.1.1)))
number-steps x (Some n) flag some none = ((λ t. (n, (flag, some))), (λ m. refl))

four : (ws : List (List ℕ)) → length ws ≡ 4 → ws ≡ get_or ws 0 [] ∷ get_or ws 1 [] ∷ get_or ws 2 [] ∷ get_or ws 3 [] ∷ []
four [] h = absurd (omega arith)
four (a ∷ []) h = absurd (omega arith)
four (a ∷ b ∷ []) h = absurd (omega arith)
four (a ∷ b ∷ c ∷ []) h = absurd (omega arith)
four (a ∷ b ∷ c ∷ d ∷ []) h = refl
four (a ∷ b ∷ c ∷ d ∷ e ∷ ws) h = absurd (omega arith)

none : {A : Type 0} (xs : List A) → length xs ≡ 0 → xs ≡ []
none [] h = refl
none (x ∷ xs) h = absurd (omega arith)

abbrev function_at : List (List ℕ) → ℕ → ℕ → FunctionArguments
function_at ws i j = record { file = get_or ws i []; name = get_or ws j [] }

-- a line of four plain arguments and no option is one to decide
pub decide-form : (l : seen.Line) → length l.plain.items ≡ 4 → length l.options.items ≡ 0 → (c : plain.Command) × AreOf form.DecidePlain (line_view l) c
decide-form l many few =
    let ws = (line_view l).plain in
    let count : length ws ≡ 4 = length-map l.plain.items (λ text. text.now) ∙ many in
    (DecidePlain (function_at ws 0 1) (function_at ws 2 3), (ap (map option_view) (none l.options.items few), four ws count))

-- a line of four plain arguments and a number of steps is one to run
pub run-form : (l : seen.Line) → length l.plain.items ≡ 4 → (n : ℕ) × GiveSteps (line_view l).options n → (c : plain.Command) × AreOf form.Run (line_view l) c
run-form l many steps =
    let ws = (line_view l).plain in
    let count : length ws ≡ 4 = length-map l.plain.items (λ text. text.now) ∙ many in
    (Run (record { function = function_at ws 0 1; admission = get_or ws 2 []; tests = get_or ws 3 []; steps = steps.0 }), (four ws count, steps.1))

two : (ws : List (List ℕ)) → length ws ≡ 2 → ws ≡ get_or ws 0 [] ∷ get_or ws 1 [] ∷ []
two [] h = absurd (omega arith)
two (a ∷ []) h = absurd (omega arith)
two (a ∷ b ∷ []) h = refl
two (a ∷ b ∷ c ∷ ws) h = absurd (omega arith)

-- a line of two plain arguments and no option is one to show
pub show-form : (l : seen.Line) → length l.plain.items ≡ 2 → length l.options.items ≡ 0 → (c : plain.Command) × AreOf form.Show (line_view l) c
show-form l many few =
    let ws = (line_view l).plain in
    let count : length ws ≡ 2 = length-map l.plain.items (λ text. text.now) ∙ many in
    (Show (function_at ws 0 1), (ap (map option_view) (none l.options.items few), two ws count))

-- the words that were made are those of the command
pub made-words : (f g : CommandForm) (l : Line) (slice items : List (String Global)) (c : plain.Command) → f ≡ g → AreOf f l c → slice ≡ items
    → map string_bytes items ≡ parser_words (name_of g) l → AreWords g (map string_bytes slice) c
made-words f g l slice items c is values same made =
    record { line = l; whole = ap (map string_bytes) same ∙ made; values = subst (λ (x : CommandForm). AreOf x l c) is values }

-- what was read from the words is the command
pub read-values : {E : Type 0} (f g : CommandForm) (l : Line) (words : List (List ℕ)) (r : Result Command E) (c : plain.Command) → AreOf f l c → AreWords g words c
    → IfOk r (λ found. (d : plain.Command) → AreWords g words d → command_view found ≡ d) → IfOk r (λ found. AreOf f l (command_view found))
read-values f g l words r c values are h = IfOk-weaker r _ _ (λ found is. subst (λ (d : plain.Command). AreOf f l d) (sym (is c are)) values) h
