-- The loop over the arguments.
use Rattle.std.proofs.Common.{◌≡◌, ◌≢◌, ◌↔◌, ℕ, ◌-◌, ◌<◌, List, [], ◌∷◌, length, take, drop, get_or, Some, None, refl, sym, ◌∙◌, ap, subst, option_map, arith}
use Rattle.std.specs.List.{AllByRecursion}
use Rattle.std.proofs.lemmas.Grind.{common_steps}
use Rattle.command_line.specs.Command.{IsArgument}
use Rattle.command_line.specs.Reading.{Item, Line, Mode, Usual, ValueOf, joined, line_in, pushed, turn}
use Rattle.command_line.specs.View.{mode_view}
use Rattle.command_line.specs.declared.line.Mode as seen
use Rattle.command_line.specs.declared.line.Mode.TheVariants as mode
use Rattle.command_line.proofs.Lines.{line-done, line-open, line-refused, line-turn}

-- a list by its first item
pub cut_first : {A : Type 0} (xs : List A) (x : A) → 0 < length xs → x ≡ get_or xs 0 x → xs ≡ x ∷ take (length xs - 1) (drop 1 xs)
cut_first [] x some is = absurd (omega arith)
cut_first (y ∷ ys) x some is = grind (arith, common_steps)

-- a list of no items
pub none-left : {A : Type 0} (xs : List A) → length xs < 1 → xs ≡ []
none-left [] none = refl
none-left (x ∷ xs) none = absurd (omega arith)

-- what is so before a turn: all are arguments exactly where the rest are, and the line of all is what was read and then the
-- line of the rest
abbrev pub IsSoFar : List (List ℕ) → Line → Mode → List (List ℕ) → Type 0
IsSoFar arguments line mode rest =
    (AllByRecursion IsArgument arguments ↔ AllByRecursion IsArgument rest)
    × (line_in Usual arguments ≡ option_map (joined line) (line_in mode rest))

module _ (arguments rest : List (List ℕ)) (line : Line) (mode : Mode) (so_far : IsSoFar arguments line mode rest) where
  module _ (w : List ℕ) (some : 0 < length rest) (is : w ≡ get_or rest 0 w) where
    -- after a turn
    pub loop-turn : (item : Item) (next : Mode) (pushed_line : Line) → IsArgument w → turn mode w ≡ Some (item, next) → pushed_line ≡ pushed line item
        → IsSoFar arguments pushed_line next (take (length rest - 1) (drop 1 rest))
    loop-turn item next pushed_line argument turned pushes =
        let ws = take (length rest - 1) (drop 1 rest) in
        let cut : rest ≡ w ∷ ws = cut_first rest w some is in
        let all : AllByRecursion IsArgument arguments ↔ AllByRecursion IsArgument (w ∷ ws) =
        subst (λ (r : List (List ℕ)). AllByRecursion IsArgument arguments ↔ AllByRecursion IsArgument r) cut so_far.0 in (
          ((λ each. (all.0 each).1), (λ each. all.1 (argument, each))),
          so_far.1 ∙ ap (λ (r : List (List ℕ)). option_map (joined line) (line_in mode r)) cut ∙ line-turn line mode next item w ws turned
              ∙ ap (λ (l : Line). option_map (joined l) (line_in next ws)) (sym pushes),
        )

    -- an argument that is refused
    pub loop-refused : turn mode w ≡ None → line_in Usual arguments ≡ None
    loop-refused refused =
        let ws = take (length rest - 1) (drop 1 rest) in
        so_far.1 ∙ ap (λ (r : List (List ℕ)). option_map (joined line) (line_in mode r)) (cut_first rest w some is) ∙ line-refused line mode w ws refused

  at-end : length rest < 1 → line_in Usual arguments ≡ option_map (joined line) (line_in mode [])
  at-end none = so_far.1 ∙ ap (λ (r : List (List ℕ)). option_map (joined line) (line_in mode r)) (none-left rest none)

  -- the end, where a value is missing
  pub loop-open : (flag : List ℕ) → length rest < 1 → mode ≡ ValueOf flag → line_in Usual arguments ≡ None
  loop-open flag none is = at-end none ∙ ap (λ (m : Mode). option_map (joined line) (line_in m [])) is ∙ line-open line flag

  -- the end, where none is
  pub loop-done : length rest < 1 → ((flag : List ℕ) → mode ≢ ValueOf flag) → AllByRecursion IsArgument arguments × (line_in Usual arguments ≡ Some line)
  loop-done none other =
      (so_far.0.1 (subst (AllByRecursion IsArgument) (sym (none-left rest none)) tt), at-end none ∙ line-done line mode other)

-- no name of an option is open
pub other-mode : (m : seen.Mode) → ((x : _) → m ≡ mode.ValueOf x → ⊥) → (flag : List ℕ) → mode_view m ≢ ValueOf flag
other-mode mode.Usual other flag h = cc
other-mode (mode.ValueOf x) other flag h = absurd (other x refl)
other-mode mode.AllPlain other flag h = cc
