-- Lists of numbers that are read one by one.
use Rattle.std.proofs.Common.{◌≡◌, ℕ, ◌+◌, ◌<◌, List, [], ◌∷◌, ◌++◌, Option, Some, None, length, map, refl, sym, ◌∙◌, ap, get_or, drop, suc, take}
use Rattle.std.specs.Option.{option_map}
use Rattle.std.proofs.lemmas.List.{map-append, take-append-drop, take_more}
use Rattle.std.proofs.lemmas.Simd.{map-map}
use Rattle.std.proofs.Math.Seq.{drop-cons}
use Rattle.text_parts.specs.Cuts.{parts}
use Rattle.processor_cases.specs.Numbers.{all_values, numbers_of, word_number}

put_first : (o p : Option (List ℕ)) (m n : ℕ) (ys : List ℕ) → ((zs : List ℕ) → o ≡ Some zs → p ≡ Some (zs ++ n ∷ []))
    → option_map (λ ns. m ∷ ns) o ≡ Some ys → option_map (λ ns. m ∷ ns) p ≡ Some (ys ++ n ∷ [])
put_first None p m n ys more h = cc
put_first (Some zs) p m n ys more h =
    let same : m ∷ zs ≡ ys = cc in
    ap (option_map (λ ns. m ∷ ns)) (more zs refl) ∙ ap (λ l. Some (l ++ n ∷ [])) same

-- a value more, and a place where there is none
pub all_values-push : (xs : List (Option ℕ)) (ys : List ℕ) (n : ℕ) → all_values xs ≡ Some ys → all_values (xs ++ Some n ∷ []) ≡ Some (ys ++ n ∷ [])
all_values-push [] [] n h = refl
all_values-push [] (y ∷ ys) n h = cc
all_values-push (None ∷ xs) ys n h = cc
all_values-push (Some m ∷ xs) ys n h =
    put_first (all_values xs) (all_values (xs ++ Some n ∷ [])) m n ys (λ zs e. all_values-push xs zs n e) h

pub all_values-none : (xs ys : List (Option ℕ)) → all_values (xs ++ None ∷ ys) ≡ None
all_values-none [] ys = refl
all_values-none (None ∷ xs) ys = refl
all_values-none (Some n ∷ xs) ys = ap (option_map (λ ns. n ∷ ns)) (all_values-none xs ys)

pub values_more : {X : Type 0} (f : X → Option ℕ) (xs : List X) (i : ℕ) (d : X) (ys : List ℕ) (n : ℕ) → i < length xs → f (get_or xs i d) ≡ Some n
    → all_values (map f (take i xs)) ≡ Some ys → all_values (map f (take (i + 1) xs)) ≡ Some (ys ++ n ∷ [])
values_more f xs i d ys n h v before = rw (take_more xs i d h, map-append, v) (all_values-push (map f (take i xs)) ys n before)

pub values_none : {X : Type 0} (f : X → Option ℕ) (xs : List X) (i : ℕ) (d : X) → i < length xs → f (get_or xs i d) ≡ None → all_values (map f xs) ≡ None
values_none f xs i d h v =
    let parts : take i xs ++ (get_or xs i d ∷ drop (suc i) xs) ≡ xs = rw (← drop-cons xs i d h) (take-append-drop i xs) in
    ap (λ l. all_values (map f l)) (sym parts) ∙ rw (map-append, v) (all_values-none (map f (take i xs)) (map f (drop (suc i) xs)))

-- the numbers of words that are read one by one
pub numbers_of-words : {X : Type 0} (word : X → List ℕ) (xs : List X) (line : List ℕ) → map word xs ≡ parts 32 line → all_values (map (λ x. word_number (word x)) xs) ≡ numbers_of line
numbers_of-words word xs line h = ap all_values (sym (map-map word_number word xs) ∙ ap (map word_number) h)
