-- Lines that are counted one after another: none is wrong so far, and all that follow agree, exactly where all agree.
use Rattle.std.proofs.Common.{◌≡◌, ℕ, ◌+◌, ◌<◌, List, [], ◌∷◌, length, map, refl, subst, get_or, drop, add-one}
use Rattle.std.specs.Prelude.{◌↔◌, All, IsSomeAnd}
use Rattle.std.specs.List.{AllByRecursion}
use Rattle.std.proofs.lemmas.List.Elements.{All-from_recursion, recursion_from_All}
use Rattle.std.proofs.Math.Seq.{drop-cons}
use Rattle.processor_cases.specs.Agreement.{Agrees, LineAgrees}
use Rattle.processor_cases.specs.Table.{case_of}

pub record CountsTo (wrong : ℕ) (rest all : List (List ℕ)) : Type 0 where
  pub to : (wrong ≡ 0) × AllByRecursion LineAgrees rest → AllByRecursion LineAgrees all
  pub from : AllByRecursion LineAgrees all → (wrong ≡ 0) × AllByRecursion LineAgrees rest

pub none_counted : (all : List (List ℕ)) → CountsTo 0 all all
none_counted all = record { to = λ h. h.1; from = λ h. (refl, h) }

one_counted : (wrong next : ℕ) (line : List ℕ) (rest all : List (List ℕ)) → ((next ≡ 0) ↔ ((wrong ≡ 0) × IsSomeAnd (case_of line) Agrees))
    → CountsTo wrong (line ∷ rest) all → CountsTo next rest all
one_counted wrong next line rest all step h = record {
  to = λ q. let before : (wrong ≡ 0) × IsSomeAnd (case_of line) Agrees = step.0 q.0 in h.to (before.0, (before.1, q.1));
  from = λ a. let before : (wrong ≡ 0) × AllByRecursion LineAgrees (line ∷ rest) = h.from a in (step.1 (before.0, before.1.0), before.1.1);
}

pub line_counted : {X : Type 0} (word : X → List ℕ) (xs : List X) (i : ℕ) (d : X) (wrong next : ℕ) (all : List (List ℕ)) → i < length xs
    → ((next ≡ 0) ↔ ((wrong ≡ 0) × IsSomeAnd (case_of (word (get_or xs i d))) Agrees))
    → CountsTo wrong (map word (drop i xs)) all → CountsTo next (map word (drop (i + 1) xs)) all
line_counted word xs i d wrong next all l step h =
    let parts : drop i xs ≡ get_or xs i d ∷ drop (i + 1) xs = rw add-one (drop-cons xs i d l) in
    one_counted wrong next (word (get_or xs i d)) (map word (drop (i + 1) xs)) all step (subst (λ l. CountsTo wrong (map word l) all) parts h)

pub all_counted : (wrong : ℕ) (all : List (List ℕ)) → CountsTo wrong [] all → (wrong ≡ 0) ↔ All LineAgrees all
all_counted wrong all h = (λ none. All-from_recursion LineAgrees all (h.to (none, tt)), λ a. (h.from (recursion_from_All LineAgrees all a)).0)
