-- Clauses that are put behind others.
use Rattle.std.proofs.Common.{◌≡◌, ℕ, ◌+◌, ◌<◌, List, [], ◌∷◌, ◌++◌, length, get_or, take, sym, ◌∙◌, ap}
use Rattle.std.specs.Prelude.{map}
use Rattle.std.specs.List.{flat_map}
use Rattle.std.proofs.lemmas.List.{append-nil, map_more, take_more}
use Rattle.std.proofs.lemmas.List.Concat.{flat_map-append}
use Rattle.clauses.specs.declared.clause.Lit.{Lit}
use Rattle.clause_gates.specs.NormalForms.{normal_clauses}
use Rattle.clause_gates.proofs.Forms.{pushed_parts}

-- those of one more element
pub pushed_of : {X : Type 0} (f : X → List (List Lit)) (a b c : List (List Lit)) (xs : List X) (i : ℕ) (d : X) → i < length xs
    → b ≡ a ++ normal_clauses (flat_map f (take i xs)) → c ≡ b ++ normal_clauses (f (get_or xs i d))
    → c ≡ a ++ normal_clauses (flat_map f (take (i + 1) xs))
pushed_of f a b c xs i d h p q =
    pushed_parts a b c (flat_map f (take i xs)) (f (get_or xs i d)) p q
    ∙ ap (λ (z : List (List Lit)). a ++ normal_clauses z)
    (sym (ap (flat_map f) (take_more xs i d h) ∙ flat_map-append f (take i xs) (get_or xs i d ∷ [])
    ∙ ap (λ (z : List (List Lit)). flat_map f (take i xs) ++ z) (append-nil (f (get_or xs i d)))))

-- the clause of one more element
pub pushed_one : {X : Type 0} (f : X → List Lit) (a b c : List (List Lit)) (xs : List X) (i : ℕ) (d : X) → i < length xs
    → b ≡ a ++ normal_clauses (map f (take i xs)) → c ≡ b ++ normal_clauses (f (get_or xs i d) ∷ [])
    → c ≡ a ++ normal_clauses (map f (take (i + 1) xs))
pushed_one f a b c xs i d h p q =
    pushed_parts a b c (map f (take i xs)) (f (get_or xs i d) ∷ []) p q
    ∙ ap (λ (z : List (List Lit)). a ++ normal_clauses z) (sym (map_more f xs i d h))

-- five parts behind nothing
pub pushed_five : (l a b c d e v w x y z : List (List Lit)) → l ≡ [] → a ≡ l ++ normal_clauses v → b ≡ a ++ normal_clauses w
    → c ≡ b ++ normal_clauses x → d ≡ c ++ normal_clauses y → e ≡ d ++ normal_clauses z
    → e ≡ normal_clauses (v ++ (w ++ (x ++ (y ++ z))))
pushed_five l a b c d e v w x y z n p q r s t =
    pushed_parts l a e v (w ++ (x ++ (y ++ z))) p (pushed_parts a b e w (x ++ (y ++ z)) q (pushed_parts b c e x (y ++ z) r (pushed_parts c d e y z s t)))
    ∙ ap (λ (k : List (List Lit)). k ++ normal_clauses (v ++ (w ++ (x ++ (y ++ z))))) n
