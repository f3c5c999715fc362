-- Names of a table are read rightly.
use Rattle.std.proofs.Common.{◌≡◌, ◌⊎◌, inl, inr, ℕ, suc, Bool, true, false, not, cond, eqb, ltb, List, [], ◌∷◌, ◌++◌, length, Ok, Err, refl, sym, ap, ◌∙◌, subst, arith}
use Rattle.std.specs.List.{list_all}
use Rattle.std.proofs.lemmas.Bool.{and_parts, eqb-false, lt-ltb, le-ltb, not-true, cases_eq, true≢false}
use Rattle.std.proofs.lemmas.List.{length-append}
use Rattle.text_codes.specs.Codes.{IsRead, Reads}
use Rattle.text_codes.specs.Names.{begins_either, are_apart, AreNames, IsAmong}
use Rattle.text_codes.specs.Readers.{Reading, made_at, word_at, further, names_at}
use Rattle.text_codes.proofs.Combined.{Anything, made_reads, word_reads, refit, refit_at}
use Rattle.text_codes.proofs.Further.{either_at, further_further}

-- nothing is read from before the text
further_left : {V : Type 0} (text left good : List ℕ) → text ≡ good ++ left → further {V = V} (Err text) (Err left) ≡ Err left
further_left {V = V} text left [] e = elim (ltb (length left) (length text)) as (λ t. cond {A = Reading V} t (Err left) (Err text) ≡ Err left)
    [ true ↦ refl | false ↦ ap (λ (t : List ℕ). Err t) e ]
further_left text left (x ∷ good) e =
    let l = ap (λ (t : List ℕ). length t) e in
    let less : ltb (length left) (length text) ≡ true = lt-ltb (length left) (length text) (omega (arith, l, length-append good left)) in
    rw less refl

whole_text : {V : Type 0} (f : V → List ℕ) (F : V → Type 0) (text : List ℕ) (q : Reading V) → IsRead f F text q → further (Err text) q ≡ q
whole_text f F text (Ok p) read = refl
whole_text f F text (Err left) read = further_left text left read.good read.parts

-- the name alone
one_reads : (n : ℕ) (name : List ℕ) → Reads (λ (m : ℕ). name) (λ m. m ≡ n) (made_at (λ (u : Unit {0}). n) (word_at name))
one_reads n name =
    made_reads (λ (m : ℕ). name) (λ m. m ≡ n) (λ (u : Unit {0}). name) Anything (λ (u : Unit {0}). n) (word_at name)
    (record { text = λ u h. refl; fits = λ u h. refl; from = λ v h. (tt, (tt, sym h)) }) (word_reads name)

-- what the names say is nothing from before the text
pub no_further : (n : ℕ) (names : List (List ℕ)) (text : List ℕ) → further (Err text) (names_at n names text) ≡ names_at n names text
unfolding names_at
no_further n [] text = elim (ltb (length text) (length text)) as (λ t. cond {A = Reading ℕ} t (Err text) (Err text) ≡ Err text) [ true ↦ refl | false ↦ refl ]
no_further n (name ∷ names) text =
    let first : further (Err text) (made_at (λ (u : Unit {0}). n) (word_at name) text) ≡ made_at (λ (u : Unit {0}). n) (word_at name) text =
    whole_text (λ (m : ℕ). name) (λ m. m ≡ n) text _ ((one_reads n name).right text) in
    sym (further_further (Err text) (made_at (λ (u : Unit {0}). n) (word_at name) text) (names_at (suc n) names text))
    ∙ ap (λ (q : Reading ℕ). further q (names_at (suc n) names text)) first

-- names that are apart begin no one text
apart : (xs ys x y : List ℕ) → begins_either xs ys ≡ false → xs ++ x ≡ ys ++ y → ⊥
apart [] ys x y h e = true≢false h
apart (a ∷ xs) [] x y h e = true≢false h
apart (a ∷ xs) (b ∷ ys) x y h e = each (λ u v. apart xs ys x y u v) (eqb a b) refl
  where
    heads : (b c : ℕ) (x y : List ℕ) → b ∷ x ≡ c ∷ y → b ≡ c
    heads b c x y e = cc

    tails : (b c : ℕ) (x y : List ℕ) → b ∷ x ≡ c ∷ y → x ≡ y
    tails b c x y e = cc

    known : (t : Bool) → eqb a b ≡ t → cond t (begins_either xs ys) false ≡ false
    known t is = ap (λ (u : Bool). cond u (begins_either xs ys) false) (sym is) ∙ h

    each : (begins_either xs ys ≡ false → xs ++ x ≡ ys ++ y → ⊥) → (t : Bool) → eqb a b ≡ t → ⊥
    each again true is = again (known true is) (tails a b (xs ++ x) (ys ++ y) e)
    each again false is = eqb-false a b is (heads a b (xs ++ x) (ys ++ y) e)

-- the name of a number against one before it
pub apart_from : (f : ℕ → List ℕ) (name : List ℕ) (n : ℕ) (names : List (List ℕ)) → AreNames f n names
    → list_all (λ other. not (begins_either name other)) names ≡ true
    → (m : ℕ) → IsAmong n (length names) m → (x y : List ℕ) → name ++ x ≡ f m ++ y → ⊥
apart_from f name n [] are h m among x y e = omega (arith, among.0, among.1)
apart_from f name n (other ∷ names) are h m among x y e =
    let p = and_parts (not (begins_either name other)) (list_all (λ other. not (begins_either name other)) names) h in
    elim (cases_eq m n) [
      | inl same ↦ apart name other x y (not-true (begins_either name other) p.0)
          (e ∙ (ap (λ (k : ℕ). f k ++ y) same ∙ ap (λ (t : List ℕ). t ++ y) are.0))
      | inr not_same ↦ apart_from f name (suc n) names are.1 p.1 m (later not_same) x y e
    ]
  where
    later : (m ≡ n → ⊥) → IsAmong (suc n) (length names) m
    later h = (omega (arith, h, among.0), omega (arith, among.1))

-- nothing is read from behind the text
further_right : {V : Type 0} (f : V → List ℕ) (F : V → Type 0) (text : List ℕ) (q : Reading V) → IsRead f F text q → further q (Err text) ≡ q
further_right f F text (Ok p) read = refl
further_right f F text (Err left) read =
    let l = ap (λ (t : List ℕ). length t) read.parts in
    let no : ltb (length text) (length left) ≡ false = le-ltb (length text) (length left) (omega (arith, l, length-append read.good left)) in
    rw no refl

-- the name of this number alone
own_reads : (f : ℕ → List ℕ) (n : ℕ) (name : List ℕ) → f n ≡ name → Reads f (λ m. m ≡ n) (made_at (λ (u : Unit {0}). n) (word_at name))
own_reads f n name is = refit f (λ (m : ℕ). name) (λ m. m ≡ n) (λ m. m ≡ n) _ (λ v h. ap f h ∙ is) (λ v h. h) (λ v h. h) (one_reads n name)

-- one of the names of a table, the first of which has this number
pub names_right : (f : ℕ → List ℕ) (n : ℕ) (name : List ℕ) (names : List (List ℕ)) → AreNames f n (name ∷ names) → are_apart (name ∷ names) ≡ true
    → (text : List ℕ) → IsRead f (IsAmong n (length (name ∷ names))) text (names_at n (name ∷ names) text)
unfolding names_at
names_right f n name [] are h text =
    let own = (own_reads f n name are.0).right text in
    subst (IsRead f (IsAmong n 1) text) (sym (further_right f (λ m. m ≡ n) text _ own))
    (refit_at f (IsAmong n 1) (λ m. m ≡ n) (λ v u. omega (arith, u.0, u.1)) (λ v u. (omega arith, omega arith)) text _ own)
names_right f n name (other ∷ names) are h text =
    let p = and_parts (list_all (λ other. not (begins_either name other)) (other ∷ names)) (are_apart (other ∷ names)) h in
    refit_at f (IsAmong n (suc (suc (length names)))) (λ m. (m ≡ n) ⊎ IsAmong (suc n) (suc (length names)) m)
    there (λ v u. elim u [ inl a ↦ (omega arith, omega arith) | inr b ↦ (omega (arith, b.0, b.1), omega (arith, b.0, b.1)) ]) text _
    (either_at f (λ m. m ≡ n) (IsAmong (suc n) (suc (length names)))
    (λ v w x y hv hw e. apart_from f name (suc n) (other ∷ names) are.1 p.0 w hw x y
    (ap (λ (t : List ℕ). t ++ x) (sym are.0) ∙ (ap (λ (m : ℕ). f m ++ x) (sym hv) ∙ e)))
    text _ _ ((own_reads f n name are.0).right text) (names_right f (suc n) other names are.1 p.1 text))
  where
    there : (v : ℕ) → IsAmong n (suc (suc (length names))) v → (v ≡ n) ⊎ IsAmong (suc n) (suc (length names)) v
    there v u = elim (cases_eq v n) [ inl a ↦ inl a | inr b ↦ inr (omega (arith, b, u.0), omega (arith, u.1)) ]

pub names_read : (f : ℕ → List ℕ) (n : ℕ) (name : List ℕ) (names : List (List ℕ)) → AreNames f n (name ∷ names) → are_apart (name ∷ names) ≡ true
    → Reads f (IsAmong n (length (name ∷ names))) (names_at n (name ∷ names))
names_read f n name names are h = record { right = names_right f n name names are h }
