-- From lines to commands: the command that the code reads is the one that the arguments are.
use Rattle.std.proofs.Common.{◌≡◌, ℕ, ◌<◌, ◌^◌, List, [], ◌∷◌, length, get_or, Some, None, refl, sym, ◌∙◌, ap, ap₂, subst, arith, decimal, ◌==◌, if◌then◌else◌}
use Rattle.std.specs.List.{AllByRecursion}
use Rattle.std.specs.Str.Parse.{digits_value}
use Rattle.std.proofs.lemmas.Fmt.{decimal_is_IsNumeral}
use Rattle.command_line.specs.Command.{Command, DecidePlain, GiveSteps, IsArgument, IsCommand, IsUsageError, Run, Show, plain_of}
use Rattle.command_line.specs.Parts.{AreRead, Valued}
use Rattle.command_line.specs.Parser.{AreOf, IsOfForm, name_of}
use Rattle.command_line.specs.Reading.{Line, Usual, line_in}
use Rattle.command_line.specs.declared.command.CommandForm.{CommandForm}
use Rattle.command_line.specs.declared.command.CommandForm.TheVariants as form
use Rattle.command_line.proofs.Lines.{line-known, line-only}

-- the arguments are a name and a line, which are those of this command
pub record HasLine (arguments : List (List ℕ)) (command : Command) : Type 0 where
  pub form : CommandForm
  pub behind : List (List ℕ)
  pub line : Line
  pub whole : arguments ≡ name_of form ∷ behind
  pub each : AllByRecursion IsArgument behind
  pub read : line_in Usual behind ≡ Some line
  pub values : AreOf form line command

-- a command's name and line
pub line-of-command : (arguments : List (List ℕ)) (command : Command) → IsCommand arguments command → HasLine arguments command
line-of-command arguments (DecidePlain left right) h =
    record { form = form.DecidePlain; behind = h.behind; line = record { options = []; plain = plain_of (DecidePlain left right) }; whole = h.command; each = h.each; read = line-only h.behind [] (plain_of (DecidePlain left right)) h.read; values = (refl, refl) }
line-of-command arguments (Run run) h =
    record { form = form.Run; behind = h.1.behind; line = record { options = h.0; plain = plain_of (Run run) }; whole = h.1.command; each = h.1.each; read = line-only h.1.behind h.0 (plain_of (Run run)) h.1.read; values = (refl, h.2) }
line-of-command arguments (Show function) h =
    record { form = form.Show; behind = h.behind; line = record { options = []; plain = plain_of (Show function) }; whole = h.command; each = h.each; read = line-only h.behind [] (plain_of (Show function)) h.read; values = (refl, refl) }

-- what was read is a command
pub command-known : (arguments : List (List ℕ)) (command : Command) → HasLine arguments command → IsCommand arguments command
command-known arguments command h = go h.form command refl h.values
  where
    read : (options : List Valued) (plain : List (List ℕ)) → h.line.options ≡ options → h.line.plain ≡ plain → AreRead h.behind options plain
    read options plain o p = subst (λ (x : List Valued). AreRead h.behind x plain) o (subst (λ (x : List (List ℕ)). AreRead h.behind h.line.options x) p (line-known h.behind h.line h.read))

    go : (f : CommandForm) (c : Command) → h.form ≡ f → AreOf f h.line c → IsCommand arguments c
    go form.DecidePlain (DecidePlain left right) is values =
        record { behind = h.behind; command = h.whole ∙ ap (λ f. name_of f ∷ h.behind) is; each = h.each; read = read [] (plain_of (DecidePlain left right)) values.0 values.1 }
    go form.Run (Run run) is values = (
      h.line.options,
      record { behind = h.behind; command = h.whole ∙ ap (λ f. name_of f ∷ h.behind) is; each = h.each; read = read h.line.options (plain_of (Run run)) refl values.0 },
      values.1,
    )
    go form.Show (Show function) is values =
        record { behind = h.behind; command = h.whole ∙ ap (λ f. name_of f ∷ h.behind) is; each = h.each; read = read [] (plain_of (Show function)) values.0 values.1 }
    go _ _ is values = absurd values

same-behind : {A : Type 0} (a b : A) (xs ys : List A) → a ∷ xs ≡ b ∷ ys → (a ≡ b) × (xs ≡ ys)
same-behind a b xs ys h = (cc, cc)

-- arguments without a name are no command
pub usage-empty : (arguments : List (List ℕ)) → length arguments < 1 → IsUsageError arguments
usage-empty arguments none command is =
    let h = line-of-command arguments command is in
    let e = ap length h.whole in
    absurd (omega arith)

-- arguments that are not read are no command
pub usage-unread : (arguments behind : List (List ℕ)) (name : List ℕ) → arguments ≡ name ∷ behind
    → (AllByRecursion IsArgument behind → line_in Usual behind ≡ None) → IsUsageError arguments
usage-unread arguments behind name whole none command is =
    let h = line-of-command arguments command is in
    let same = same-behind name (name_of h.form) behind h.behind (sym whole ∙ h.whole) in
    let e = none (subst (λ (b : List (List ℕ)). AllByRecursion IsArgument b) (sym same.1) h.each) in
    let f = ap (line_in Usual) same.1 in
    let g = h.read in cc

-- what is read and has no form is no command
pub usage-formless : (arguments behind : List (List ℕ)) (name : List ℕ) (line : Line) → arguments ≡ name ∷ behind → line_in Usual behind ≡ Some line
    → ((f : CommandForm) → IsOfForm name line f → ⊥) → IsUsageError arguments
usage-formless arguments behind name line whole read none command is =
    let h = line-of-command arguments command is in
    let same = same-behind name (name_of h.form) behind h.behind (sym whole ∙ h.whole) in
    let f = ap (line_in Usual) same.1 in
    let g = h.read in
    let one : h.line ≡ line = cc in
    none h.form (same.0, (command, subst (λ (l : Line). AreOf h.form l command) one h.values))

decimal-once : (n m : ℕ) → n < 2 ^ 64 → m < 2 ^ 64 → decimal n ≡ decimal m → n ≡ m
decimal-once n m small too h = sym (decimal_is_IsNumeral n small).1 ∙ ap (digits_value 10) h ∙ (decimal_is_IsNumeral m too).1

steps-once : (options : List Valued) (n m : ℕ) → GiveSteps options n → GiveSteps options m → n ≡ m
steps-once [] n m g h = g ∙ sym h
steps-once (o ∷ []) n m g h =
    let few = g.1.few in
    let few_too = h.1.few in
    decimal-once n m (omega arith) (omega arith) (sym g.1.digits ∙ h.1.digits)
steps-once (o ∷ p ∷ rest) n m g h = absurd g

-- plain arguments as those of a command
abbrev decide_from : List (List ℕ) → Command
decide_from ws = DecidePlain (record { file = get_or ws 0 []; name = get_or ws 1 [] }) (record { file = get_or ws 2 []; name = get_or ws 3 [] })

abbrev run_from : ℕ → List (List ℕ) → Command
run_from n ws = Run (record { function = record { file = get_or ws 0 []; name = get_or ws 1 [] }; admission = get_or ws 2 []; tests = get_or ws 3 []; steps = n })

abbrev show_from : List (List ℕ) → Command
show_from ws = Show (record { file = get_or ws 0 []; name = get_or ws 1 [] })

values-once : (f : CommandForm) (line : Line) (a b : Command) → AreOf f line a → AreOf f line b → a ≡ b
values-once form.DecidePlain line (DecidePlain l r) (DecidePlain m s) g h = ap decide_from (sym g.1 ∙ h.1)
values-once form.Run line (Run r) (Run s) g h = ap₂ run_from (steps-once line.options r.steps s.steps g.1 h.1) (sym g.0 ∙ h.0)
values-once form.Show line (Show l) (Show m) g h = ap show_from (sym g.1 ∙ h.1)
values-once form.DecidePlain line (DecidePlain l r) _ g h = absurd h
values-once form.Run line (Run r) _ g h = absurd h
values-once form.Show line (Show l) _ g h = absurd h
values-once _ line _ b g h = absurd g

-- the form whose name begins with a letter
abbrev form_at : ℕ → CommandForm
form_at letter = if letter == 100 then form.DecidePlain else if letter == 114 then form.Run else form.Show

abbrev first_letter : List ℕ → ℕ
first_letter name = get_or name 0 0

form-back : (f : CommandForm) → form_at (first_letter (name_of f)) ≡ f
form-back form.DecidePlain = refl
form-back form.Run = refl
form-back form.Show = refl

same-form : (f g : CommandForm) → name_of f ≡ name_of g → f ≡ g
same-form f g h = sym (form-back f) ∙ ap (λ (name : List ℕ). form_at (first_letter name)) h ∙ form-back g

-- the arguments are one command at most
pub command-once : (arguments : List (List ℕ)) (a b : Command) → IsCommand arguments a → IsCommand arguments b → a ≡ b
command-once arguments a b is too =
    let g = line-of-command arguments a is in
    let h = line-of-command arguments b too in
    let same = same-behind (name_of g.form) (name_of h.form) g.behind h.behind (sym g.whole ∙ h.whole) in
    let forms = same-form g.form h.form same.0 in
    let e = ap (line_in Usual) same.1 in
    let r = g.read in
    let s = h.read in
    let lines : g.line ≡ h.line = cc in
    values-once h.form h.line a b
    (subst (λ (f : CommandForm). AreOf f h.line a) forms (subst (λ (l : Line). AreOf g.form l a) lines g.values)) h.values
