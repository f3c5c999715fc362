-- Words that are pushed one after another, and what a number's text reads as.
use Rattle.std.proofs.Common.{◌≡◌, ◌∙◌, ◌<◌, ◌^◌, ℕ, List, [], ◌∷◌, ◌++◌, append-nil, append_assoc, length, take, drop, get_or, ◌-◌, map, decimal, Bor, codes, Global, Option, Some, None, String, refl, string_bytes, sym, ap, arith}
use Rattle.std.specs.Prelude.{Err, Ok, Result}
use Rattle.std.proofs.lemmas.List.{map_push}
use Rattle.std.specs.Str.Parse.{ParsesUnsigned}
use Rattle.std.proofs.lemmas.Fmt.{parse-decimal}
use Rattle.clap.specs.Matches.{ReadsOne}
use Rattle.command_line.specs.Parser.{joined_option, parser_words}
use Rattle.command_line.specs.View.{line_view, option_view}
use Rattle.command_line.specs.declared.line.Line.{Line}
use Rattle.command_line.specs.declared.line.Valued.{Valued}
use Rattle.command_line.proofs.Loops.{cut_first, none-left}

first-of : {A : Type 0} (xs : List A) (d : A) → 0 < length xs → xs ≡ get_or xs 0 d ∷ take (length xs - 1) (drop 1 xs)
first-of [] d some = absurd (omega arith)
first-of (y ∷ ys) d some = cut_first (y ∷ ys) y some refl

-- one more word was pushed
pub push-first : {A : Type 0} (f : A → List ℕ) (start so_far pushed : List (List ℕ)) (all xs : List A) (d : A) → 0 < length xs
    → so_far ++ map f xs ≡ start ++ map f all → pushed ≡ so_far ++ f (get_or xs 0 d) ∷ []
    → pushed ++ map f (take (length xs - 1) (drop 1 xs)) ≡ start ++ map f all
push-first f start so_far pushed all xs d some so pushes =
    let rest = take (length xs - 1) (drop 1 xs) in
    ap (λ p. p ++ map f rest) pushes ∙ append_assoc so_far (f (get_or xs 0 d) ∷ []) (map f rest) ∙ ap (λ l. so_far ++ map f l) (sym (first-of xs d some)) ∙ so

-- all were pushed
pub push-last : {A : Type 0} (f : A → List ℕ) (start so_far : List (List ℕ)) (all xs : List A) → length xs < 1
    → so_far ++ map f xs ≡ start ++ map f all → so_far ≡ start ++ map f all
push-last f start so_far all xs none so = sym (append-nil so_far) ∙ ap (λ l. so_far ++ map f l) (sym (none-left xs none)) ∙ so

same-number : {E : Type 0} (n v : ℕ) (r : Result ℕ E) → r ≡ Ok v → ParsesUnsigned 64 10 (decimal n) r → n < 2 ^ 64 → v ≡ n
same-number n v r is read small = let e : r ≡ Ok n = parse-decimal 64 n (decimal n) r small small refl read in cc

no-error : {E : Type 0} (n : ℕ) (x : E) (r : Result ℕ E) → r ≡ Err x → ParsesUnsigned 64 10 (decimal n) r → n < 2 ^ 64 → ⊥
no-error n x r is read small = let e : r ≡ Ok n = parse-decimal 64 n (decimal n) r small small refl read in cc

-- the number of a text that is read is the number whose text it is
pub read-number : {E : Type 0} (G : List ℕ → Result ℕ E → Type 0) (n : ℕ) (r : Option ℕ) → ReadsOne G (decimal n) r
    → ((u : List ℕ) (x : Result ℕ E) → G u x → ParsesUnsigned 64 10 u x) → n < 2 ^ 64 → r ≡ Some n
read-number {E} G n (Some v) read only small = ap (λ (x : ℕ). Some x) (same-number {E = E} n v (Ok v) refl (only (decimal n) (Ok v) read) small)
read-number {E} G n None read only small = absurd (no-error {E = E} n read.0 (Err read.0) refl (only (decimal n) (Err read.0) read.1) small)

-- a text was pushed
pub pushed-text : (old new : List (String Global)) (s : String Global) (text : List ℕ) → new ≡ old ++ s ∷ [] → string_bytes s ≡ text
    → map string_bytes new ≡ map string_bytes old ++ text ∷ []
pushed-text old new s text h is = ap (map string_bytes) h ∙ map_push string_bytes old s ∙ ap (λ t. map string_bytes old ++ t ∷ []) is

pub map-twice : {A B C : Type 0} (f : B → C) (g : A → B) (xs : List A) → map (λ x. f (g x)) xs ≡ map f (map g xs)
map-twice f g [] = refl
map-twice f g (x ∷ xs) = ap (λ ys. f (g x) ∷ ys) (map-twice f g xs)

-- the words that the parser is given, from what each step pushed
pub all-pushed : (name : List ℕ) (line : Line) (a b c d : List (List ℕ)) (options : List Valued) (plain : List (Bor (List ℕ))) → a ≡ [] ++ name ∷ []
    → options ≡ line.options.items → b ≡ a ++ map (λ option. joined_option (option_view option)) options → c ≡ b ++ codes "--" ∷ []
    → plain ≡ line.plain.items → d ≡ c ++ map (λ text. text.now) plain → d ≡ parser_words name (line_view line)
all-pushed name line a b c d options plain first is second third too fourth =
    let start : b ≡ name ∷ map joined_option (line_view line).options =
    second ∙ ap (λ x. x ++ map (λ option. joined_option (option_view option)) options) first
    ∙ ap (λ o. name ∷ map (λ option. joined_option (option_view option)) o) is
    ∙ ap (λ x. name ∷ x) (map-twice joined_option option_view line.options.items) in
    fourth ∙ ap (λ x. x ++ map (λ text. text.now) plain) (third ∙ ap (λ x. x ++ codes "--" ∷ []) start)
    ∙ ap (λ p. ((name ∷ map joined_option (line_view line).options) ++ codes "--" ∷ []) ++ map (λ text. text.now) p) too
    ∙ append_assoc (name ∷ map joined_option (line_view line).options) (codes "--" ∷ []) (line_view line).plain
