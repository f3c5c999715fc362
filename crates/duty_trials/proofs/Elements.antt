-- Lists that are gone through from the front.
use Rattle.std.proofs.Common.{◌≡◌, ℕ, ◌+◌, ◌<◌, Bool, List, [], ◌∷◌, ◌++◌, length, get_or, take, drop, refl, sym, ◌∙◌, ap, subst, arith, append_assoc, if◌then◌else◌}
use Rattle.std.specs.Prelude.{map}
use Rattle.std.specs.List.{AllByRecursion, filter, range_with_len}
use Rattle.std.proofs.lemmas.List.{at_drop_more, map-id, take_more}
use Rattle.std.proofs.lemmas.List.Elements.{filter-append}
use Rattle.std.proofs.lemmas.List.FromFn.{map-range_with_len_more}
use Rattle.duty_claims.specs.Needs.{each_two}

all_append : {X : Type 0} (P : X → Type 0) (xs ys : List X) → AllByRecursion P xs → AllByRecursion P ys → AllByRecursion P (xs ++ ys)
all_append P [] ys h k = k
all_append P (x ∷ xs) ys h k = (h.0, all_append P xs ys h.1 k)

-- one more element
pub all_more : {X : Type 0} (P : X → Type 0) (xs : List X) (i : ℕ) (d : X) → i < length xs → AllByRecursion P (take i xs) → P (get_or xs i d)
    → AllByRecursion P (take (i + 1) xs)
all_more P xs i d b h p = subst (AllByRecursion P) (sym (take_more xs i d b)) (all_append P (take i xs) (get_or xs i d ∷ []) h (p, tt))

-- one more number that is tested
pub numbers_more : (test : ℕ → Bool) (i : ℕ) → filter test (range_with_len 0 (i + 1))
    ≡ filter test (range_with_len 0 i) ++ (if test i then i ∷ [] else [])
numbers_more test i = ap (filter test) range_more ∙ filter-append test (range_with_len 0 i) (i ∷ [])
  where
    range_more : range_with_len 0 (i + 1) ≡ range_with_len 0 i ++ i ∷ []
    range_more =
        sym (map-id (range_with_len 0 (i + 1))) ∙ map-range_with_len_more (λ x. x) 0 i i (omega arith)
        ∙ ap (λ (z : List ℕ). z ++ i ∷ []) (map-id (range_with_len 0 i))

-- a number with each behind it
pub two_more : (xs : List (ℕ × ℕ)) (ys : List (ℕ × ℕ)) (numbers : List ℕ) (i : ℕ) (d : ℕ) (whole : List (ℕ × ℕ)) → i < length numbers
    → ys ≡ xs ++ map (λ n. (get_or numbers i d, n)) (drop (i + 1) numbers) → xs ++ each_two (drop i numbers) ≡ whole
    → ys ++ each_two (drop (i + 1) numbers) ≡ whole
two_more xs ys numbers i d whole b e inv =
    ap (λ (z : List (ℕ × ℕ)). z ++ each_two (drop (i + 1) numbers)) e
    ∙ append_assoc xs (map (λ n. (get_or numbers i d, n)) (drop (i + 1) numbers)) (each_two (drop (i + 1) numbers))
    ∙ ap (λ (z : List (ℕ × ℕ)). xs ++ z) (sym (at_drop_more each_two numbers i d b)) ∙ inv
