-- Of several readers, none of whose texts begins another's, the answer that gets further is the right one.
use Rattle.std.proofs.Common.{◌≡◌, ◌⊎◌, inl, inr, ℕ, ◌≤◌, Bool, true, false, cond, ltb, List, [], ◌∷◌, ◌++◌, length, Ok, Err, refl, sym, ap, ◌∙◌, subst, append_assoc, arith}
use Rattle.std.proofs.lemmas.Bool.{ltb-true, ltb-false, lt-ltb, le-ltb}
use Rattle.std.proofs.lemmas.List.{append-nil, length-append}
use Rattle.text_codes.specs.Codes.{IsWrong, IsRead}
use Rattle.text_codes.specs.Readers.{Reading, further}
use Rattle.text_codes.proofs.Chains.{stops_apart}

-- of two cuts of a text the one with less left has the front of the other
fronts : (xs left ys rest : List ℕ) → xs ++ left ≡ ys ++ rest → length rest ≤ length left
    → (r : List ℕ) × ((ys ≡ xs ++ r) × (left ≡ r ++ rest))
fronts [] left ys rest e h = (ys, (refl, e))
fronts (x ∷ xs) left [] rest e h =
    absurd (let l : length (x ∷ (xs ++ left)) ≡ length rest = ap (λ (t : List ℕ). length t) e in omega (arith, l, length-append xs left))
fronts (x ∷ xs) left (y ∷ ys) rest e h =
    let again = fronts xs left ys rest (tails x y (xs ++ left) (ys ++ rest) e) h in
    (again.0, (ap (λ (d : ℕ). d ∷ ys) (sym (heads x y (xs ++ left) (ys ++ rest) e)) ∙ ap (λ (l : List ℕ). x ∷ l) again.1.0, again.1.1))
  where
    heads : (b c : ℕ) (x y : List ℕ) → b ∷ x ≡ c ∷ y → b ≡ c
    heads b c x y e = cc

    tails : (b c : ℕ) (x y : List ℕ) → b ∷ x ≡ c ∷ y → x ≡ y
    tails b c x y e = cc

-- what is wrong is wrong further on
wrong_on : {V : Type 0} (f : V → List ℕ) (F : V → Type 0) (good left good2 rest : List ℕ) → good ++ left ≡ good2 ++ rest
    → length rest ≤ length left → IsWrong f F good left → IsWrong f F good2 rest
wrong_on f F good left good2 rest e h wrong =
    let r = fronts good left good2 rest e h in along r.0 left good2 rest r.1.0 r.1.1 wrong
  where
    along : (r left good2 rest : List ℕ) → good2 ≡ good ++ r → left ≡ r ++ rest → IsWrong f F good left → IsWrong f F good2 rest
    along [] left good2 rest is behind wrong =
        subst (λ (t : List ℕ). IsWrong f F t rest) (sym (is ∙ append-nil good)) (subst (λ (t : List ℕ). IsWrong f F good t) behind wrong)
    along (c ∷ r) left good2 rest is behind wrong =
        let known : IsWrong f F good (c ∷ (r ++ rest)) = subst (λ (t : List ℕ). IsWrong f F good t) behind wrong in
        last good2 rest is known
      where
        last : (good2 rest : List ℕ) → good2 ≡ good ++ c ∷ r → IsWrong f F good (c ∷ (r ++ rest)) → IsWrong f F good2 rest
        last good2 [] is known = λ w y hw u. known w r y hw (sym is ∙ u)
        last good2 (d ∷ rest) is known = λ w x y hw u.
            known w (r ++ d ∷ x) y hw (sym (append_assoc good (c ∷ r) (d ∷ x)) ∙ (ap (λ (t : List ℕ). t ++ d ∷ x) (sym is) ∙ u))

pub either_at : {V : Type 0} (f : V → List ℕ) (F G : V → Type 0)
    → ((v w : V) (x y : List ℕ) → F v → G w → f v ++ x ≡ f w ++ y → ⊥)
    → (text : List ℕ) (p q : Reading V) → IsRead f F text p → IsRead f G text q
    → IsRead f (λ v. F v ⊎ G v) text (further p q)
either_at f F G apart text (Ok p) q rp rq = record {
  fits = inl rp.fits;
  parts = rp.parts;
  only = λ w y h e. elim h [ inl a ↦ rp.only w y a e | inr b ↦ absurd (apart p.0 w p.1 y rp.fits b (sym rp.parts ∙ e)) ];
}
either_at f F G apart text (Err left) (Ok q) rp rq = record {
  fits = inr rq.fits;
  parts = rq.parts;
  only = λ w y h e. elim h [ inl a ↦ absurd (stops_apart f F text left rp w y a e) | inr b ↦ rq.only w y b e ];
}
either_at {V = V} f F G apart text (Err left) (Err rest) rp rq =
    elim (ltb (length rest) (length left)) as (λ t. ltb (length rest) (length left) ≡ t → IsRead f (λ v. F v ⊎ G v) text (cond t (Err rest) (Err left))) [
      | true ↦ λ e. record {
        good = rq.good;
        parts = rq.parts;
        value = rq.value;
        fits = inr rq.fits;
        next = rq.next;
        more = rq.more;
        begins = rq.begins;
        wrong = both rq.good rest (wrong_on f F rp.good left rq.good rest (sym rp.parts ∙ rq.parts) (omega (arith, ltb-true (length rest) (length left) e)) rp.wrong) rq.wrong;
      }
      | false ↦ λ e. record {
        good = rp.good;
        parts = rp.parts;
        value = rp.value;
        fits = inl rp.fits;
        next = rp.next;
        more = rp.more;
        begins = rp.begins;
        wrong = both rp.good left rp.wrong (wrong_on f G rq.good rest rp.good left (sym rq.parts ∙ rp.parts) (ltb-false (length rest) (length left) e) rq.wrong);
      }
    ] refl
  where
    both : (good left : List ℕ) → IsWrong f F good left → IsWrong f G good left → IsWrong f (λ v. F v ⊎ G v) good left
    both good [] a b = λ w y h e. elim h [ inl p ↦ a w y p e | inr q ↦ b w y q e ]
    both good (c ∷ left) a b = λ w x y h e. elim h [ inl p ↦ a w x y p e | inr q ↦ b w x y q e ]

-- the first of those that got furthest
pub further_further : {V : Type 0} (a b c : Reading V) → further (further a b) c ≡ further a (further b c)
further_further (Ok a) b c = refl
further_further (Err l) (Ok b) c = refl
further_further (Err l) (Err m) (Ok c) = elim (ltb (length m) (length l)) as (λ t. further (cond t (Err m) (Err l)) (Ok c) ≡ Ok c) [ true ↦ refl | false ↦ refl ]
further_further {V = V} (Err l) (Err m) (Err n) = three (ltb (length m) (length l)) (ltb (length n) (length m)) refl refl
  where
    three : (s t : Bool) → ltb (length m) (length l) ≡ s → ltb (length n) (length m) ≡ t
        → further {V = V} (cond s (Err m) (Err l)) (Err n) ≡ further {V = V} (Err l) (cond t (Err n) (Err m))
    three true true e u =
        let h : ltb (length n) (length l) ≡ true = lt-ltb (length n) (length l) (omega (arith, ltb-true (length m) (length l) e, ltb-true (length n) (length m) u)) in rw (h, u) refl
    three true false e u = rw (e, u) refl
    three false true e u = refl
    three false false e u =
        let h : ltb (length n) (length l) ≡ false = le-ltb (length n) (length l) (omega (arith, ltb-false (length m) (length l) e, ltb-false (length n) (length m) u)) in rw (h, e) refl
