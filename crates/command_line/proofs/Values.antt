-- The values that matches give are those of the command.
use Rattle.std.proofs.Common.{◌≡◌, ℕ, List, ◌<◌, ◌^◌, Some, sym, ◌∙◌, ap₂, decimal, codes}
use Rattle.clap.specs.Words.{found_of, one_text}
use Rattle.clap.specs.declared.parser.matches.ArgMatches.{ArgMatches}
use Rattle.command_line.specs.Command.{Command, DecidePlain, FunctionArguments, Run, RunArguments, Show}
use Rattle.command_line.specs.Parser.{AreWords, GivesValue, GivesCommand}
use Rattle.command_line.specs.declared.command.CommandForm.TheVariants as form

-- a name gives one text
same-text : (m : ArgMatches) (id a b : List ℕ) → GivesValue m id a → GivesValue m id b → a ≡ b
same-text m id a b g h = let e : Some a ≡ Some b = sym g ∙ h in cc

-- a command to decide whose words are parsed has values
pub decide-has : (m : ArgMatches) (words : List (List ℕ)) (c : Command) → AreWords form.DecidePlain words c → GivesCommand m c
    → ((a : List ℕ) × GivesValue m (codes "left") a) × ((a : List ℕ) × GivesValue m (codes "left_function") a)
    × ((a : List ℕ) × GivesValue m (codes "right") a) × ((a : List ℕ) × GivesValue m (codes "right_function") a)
decide-has m words (DecidePlain l r) are g = ((l.file, g.0), (l.name, g.1), (r.file, g.2), (r.name, g.3))
decide-has m words _ are g = absurd are.values

-- and these are its values
pub decide-is : (m : ArgMatches) (words : List (List ℕ)) (c : Command) (a b d e : List ℕ) → AreWords form.DecidePlain words c → GivesCommand m c
    → GivesValue m (codes "left") a → GivesValue m (codes "left_function") b → GivesValue m (codes "right") d → GivesValue m (codes "right_function") e
    → DecidePlain (record { file = a; name = b }) (record { file = d; name = e }) ≡ c
decide-is m words (DecidePlain l r) a b d e are g ga gb gd ge =
    let p = same-text m (codes "left") a l.file ga g.0 in
    let q = same-text m (codes "left_function") b l.name gb g.1 in
    let s = same-text m (codes "right") d r.file gd g.2 in
    let t = same-text m (codes "right_function") e r.name ge g.3 in
    ap₂ (λ (x y : FunctionArguments). DecidePlain x y)
    (ap₂ (λ (x y : List ℕ). record { file = x; name = y }) p q)
    (ap₂ (λ (x y : List ℕ). record { file = x; name = y }) s t)
decide-is m words _ a b d e are g ga gb gd ge = absurd are.values

-- a command to run whose words are parsed has values
pub run-has : (m : ArgMatches) (words : List (List ℕ)) (c : Command) → AreWords form.Run words c → GivesCommand m c
    → ((a : List ℕ) × GivesValue m (codes "file") a) × ((a : List ℕ) × GivesValue m (codes "function") a)
    × ((a : List ℕ) × GivesValue m (codes "admission") a) × ((a : List ℕ) × GivesValue m (codes "tests") a)
    × ((n : ℕ) × (one_text (found_of m) (codes "steps") ≡ Some (decimal n)) × (n < 2 ^ 64))
run-has m words (Run r) are g = ((r.function.file, g.0), (r.function.name, g.1), (r.admission, g.2), (r.tests, g.3), (r.steps, g.4, g.5))
run-has m words _ are g = absurd are.values

-- and these are its values
pub run-is : (m : ArgMatches) (words : List (List ℕ)) (c : Command) (a b d e : List ℕ) (k : ℕ) → AreWords form.Run words c → GivesCommand m c
    → GivesValue m (codes "file") a → GivesValue m (codes "function") b → GivesValue m (codes "admission") d → GivesValue m (codes "tests") e
    → ((n : ℕ) → one_text (found_of m) (codes "steps") ≡ Some (decimal n) → n < 2 ^ 64 → k ≡ n)
    → Run (record { function = record { file = a; name = b }; admission = d; tests = e; steps = k }) ≡ c
run-is m words (Run r) a b d e k are g ga gb gd ge gk =
    let p = same-text m (codes "file") a r.function.file ga g.0 in
    let q = same-text m (codes "function") b r.function.name gb g.1 in
    let s = same-text m (codes "admission") d r.admission gd g.2 in
    let t = same-text m (codes "tests") e r.tests ge g.3 in
    let u = gk r.steps g.4 g.5 in
    ap₂ (λ (x : FunctionArguments) (y : RunArguments). Run (record y { function = x }))
    (ap₂ (λ (x y : List ℕ). record { file = x; name = y }) p q)
    (ap₂ (λ (x : ℕ) (y : RunArguments). record y { steps = x }) u
    (ap₂ (λ (x y : List ℕ). record { function = r.function; admission = x; tests = y; steps = r.steps }) s t))
run-is m words _ a b d e k are g ga gb gd ge gk = absurd are.values

-- a command to show whose words are parsed has values
pub show-has : (m : ArgMatches) (words : List (List ℕ)) (c : Command) → AreWords form.Show words c → GivesCommand m c
    → ((a : List ℕ) × GivesValue m (codes "file") a) × ((a : List ℕ) × GivesValue m (codes "function") a)
show-has m words (Show f) are g = ((f.file, g.0), (f.name, g.1))
show-has m words _ are g = absurd are.values

-- and these are its values
pub show-is : (m : ArgMatches) (words : List (List ℕ)) (c : Command) (a b : List ℕ) → AreWords form.Show words c → GivesCommand m c
    → GivesValue m (codes "file") a → GivesValue m (codes "function") b → Show (record { file = a; name = b }) ≡ c
show-is m words (Show f) a b are g ga gb =
    let p = same-text m (codes "file") a f.file ga g.0 in
    let q = same-text m (codes "function") b f.name gb g.1 in
    ap₂ (λ (x y : List ℕ). Show (record { file = x; name = y })) p q
show-is m words _ a b are g ga gb = absurd are.values
