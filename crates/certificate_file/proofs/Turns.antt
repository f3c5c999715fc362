-- Lists that are read up to an end, in turns.
use Rattle.std.proofs.Common.{◌≡◌, ℕ, suc, zero, ◌<◌, Bool, true, false, List, [], ◌∷◌, ◌++◌, length, cond, eqb, Ok, Err, refl, ap, ◌∙◌, subst, arith}
use Rattle.std.proofs.lemmas.Bool.{ne_eqb, eq-eqb}
use Rattle.std.proofs.lemmas.List.{length-append}
use Rattle.outcomes.specs.Firsts.{◌>>=◌}
use Rattle.clauses.specs.declared.clause.Lit.{Lit}
use Rattle.text_codes.specs.Codes.{IsRead, Reads}
use Rattle.text_codes.specs.Readers.{Reading, linked_at, until_at}
use Rattle.certificate_file.specs.StepReading.{lit_at, pair_of_at}
use Rattle.certificate_file.proofs.Fronts.{with_front, front_fails, front_more, front_all}
use Rattle.certificate_file.proofs.StepTexts.{IsNumbered, lit_reads, lit_filled, pair_item_reads, pair_filled}

-- what stands behind a value is shorter than the text
shorter : {V : Type 0} (f : V → List ℕ) (F : V → Type 0) (r : List ℕ → Reading V) → Reads f F r → ((v : V) → F v → 0 < length (f v))
    → (text rest : List ℕ) (v : V) → r text ≡ Ok (v, rest) → length rest < length text
shorter f F r rd filled text rest v e =
    let found = subst (IsRead f F text) e (rd.right text) in
    let l = ap (λ (t : List ℕ). length t) found.parts in
    omega (arith, l, length-append (f v) rest, filled v found.fits)

pub lit_shorter : (text rest : List ℕ) (l : Lit) → lit_at text ≡ Ok (l, rest) → length rest < length text
lit_shorter = shorter _ IsNumbered lit_at lit_reads lit_filled

pub pair_shorter : (text rest : List ℕ) (p : (ℕ × ℕ) × ℕ) → pair_of_at text ≡ Ok (p, rest) → length rest < length text
pair_shorter = shorter _ _ pair_of_at pair_item_reads pair_filled

bind_same : {A B : Type 0} (q : Reading A) (k l : A × List ℕ → Reading B) → ((x : A × List ℕ) → q ≡ Ok x → k x ≡ l x) → (q >>= k) ≡ (q >>= l)
bind_same (Ok x) k l h = h x refl
bind_same (Err left) k l h = refl

-- up to a value that ends them
module _ {U : Type 0} (is_end : U → Bool) (r : List ℕ → Reading U)
    (short : (text rest : List ℕ) (v : U) → r text ≡ Ok (v, rest) → length rest < length text) where
  same_until : (m n : ℕ) (text : List ℕ) → length text < m → length text < n → until_at is_end r m text ≡ until_at is_end r n text
  unfolding until_at
  same_until zero n text low high = absurd (omega arith)
  same_until (suc m) zero text low high = absurd (omega arith)
  same_until (suc m) (suc n) text low high =
      bind_same (r text) _ _ (λ x e.
      let l = short text x.1 x.0 e in
      ap (λ (p : Reading (List U)). cond {A = Reading (List U)} (is_end x.0) (Ok ([], x.1)) (p >>= λ (y : List U × List ℕ). let z : List U × List ℕ = (x.0 ∷ y.0, y.1) in Ok z))
      (same_until m n x.1 (omega arith) (omega arith)))

  abbrev one_step : ℕ → U × List ℕ → Reading (List U)
  one_step n x = cond (is_end x.0) (Ok ([], x.1)) (until_at is_end r n x.1 >>= λ (y : List U × List ℕ). let z : List U × List ℕ = (x.0 ∷ y.0, y.1) in Ok z)

  pub until_more : (vs : List U) (rest after : List ℕ) (v : U) → r rest ≡ Ok (v, after) → is_end v ≡ false
      → with_front vs (until_at is_end r (suc (length rest)) rest) ≡ with_front (vs ++ v ∷ []) (until_at is_end r (suc (length after)) after)
  unfolding until_at
  until_more vs rest after v e stays =
      let l = short rest after v e in
      ap (λ (q : Reading U). with_front vs (q >>= one_step (length rest))) e
      ∙ (ap (λ (t : Bool). with_front vs (cond {A = Reading (List U)} t (Ok ([], after)) (until_at is_end r (length rest) after >>= λ (y : List U × List ℕ). let z : List U × List ℕ = (v ∷ y.0, y.1) in Ok z))) stays
      ∙ (front_more vs v (until_at is_end r (length rest) after)
      ∙ ap (λ (q : Reading (List U)). with_front (vs ++ v ∷ []) q) (same_until (length rest) (suc (length after)) after l (omega arith))))

  pub until_ends : (vs : List U) (rest after : List ℕ) (v : U) → r rest ≡ Ok (v, after) → is_end v ≡ true
      → with_front vs (until_at is_end r (suc (length rest)) rest) ≡ Ok (vs, after)
  unfolding until_at
  until_ends vs rest after v e last =
      ap (λ (q : Reading U). with_front vs (q >>= one_step (length rest))) e
      ∙ (ap (λ (t : Bool). with_front vs (cond {A = Reading (List U)} t (Ok ([], after)) (until_at is_end r (length rest) after >>= λ (y : List U × List ℕ). let z : List U × List ℕ = (v ∷ y.0, y.1) in Ok z))) last
      ∙ front_all vs after)

  pub until_fails : (vs : List U) (rest left : List ℕ) → r rest ≡ Err left
      → with_front vs (until_at is_end r (suc (length rest)) rest) ≡ Err left
  unfolding until_at
  until_fails vs rest left e = ap (λ (q : Reading U). with_front vs (q >>= one_step (length rest))) e ∙ front_fails vs left

-- up to the end of a line
module _ {V : Type 0} (r : List ℕ → Reading (V × ℕ))
    (short : (text rest : List ℕ) (v : V × ℕ) → r text ≡ Ok (v, rest) → length rest < length text) where
  abbrev link : ℕ → (V × ℕ) × List ℕ → Reading (List V)
  link n x = linked_at r n x.0.1 x.1 >>= λ (y : List V × List ℕ). let z : List V × List ℕ = (x.0.0 ∷ y.0, y.1) in Ok z

  same_linked : (m n e : ℕ) (text : List ℕ) → length text < m → length text < n → linked_at r m e text ≡ linked_at r n e text
  unfolding linked_at
  same_linked zero n e text low high = absurd (omega arith)
  same_linked (suc m) zero e text low high = absurd (omega arith)
  same_linked (suc m) (suc n) e text low high =
      ap (λ (q : Reading (List V)). cond {A = Reading (List V)} (eqb e 10) (Ok ([], text)) q)
      (bind_same (r text) (link m) (link n) (λ x is.
      let l = short text x.1 x.0 is in
      ap (λ (p : Reading (List V)). p >>= λ (y : List V × List ℕ). let z : List V × List ℕ = (x.0.0 ∷ y.0, y.1) in Ok z)
      (same_linked m n x.0.1 x.1 (omega arith) (omega arith))))

  pub linked_more : (vs : List V) (e : ℕ) (rest after : List ℕ) (v : V) (next : ℕ) → (e ≡ 10 → ⊥) → r rest ≡ Ok ((v, next), after)
      → with_front vs (linked_at r (suc (length rest)) e rest) ≡ with_front (vs ++ v ∷ []) (linked_at r (suc (length after)) next after)
  unfolding linked_at
  linked_more vs e rest after v next more is =
      let l = short rest after (v, next) is in
      ap (λ (t : Bool). with_front vs (cond {A = Reading (List V)} t (Ok ([], rest)) (r rest >>= link (length rest)))) (ne_eqb e 10 more)
      ∙ (ap (λ (q : Reading (V × ℕ)). with_front vs (q >>= link (length rest))) is
      ∙ (front_more vs v (linked_at r (length rest) next after)
      ∙ ap (λ (q : Reading (List V)). with_front (vs ++ v ∷ []) q) (same_linked (length rest) (suc (length after)) next after l (omega arith))))

  pub linked_done : (vs : List V) (e : ℕ) (rest : List ℕ) → e ≡ 10
      → with_front vs (linked_at r (suc (length rest)) e rest) ≡ Ok (vs, rest)
  unfolding linked_at
  linked_done vs e rest ten =
      ap (λ (t : Bool). with_front vs (cond {A = Reading (List V)} t (Ok ([], rest)) (r rest >>= link (length rest)))) (eq-eqb e 10 ten)
      ∙ front_all vs rest

  pub linked_fails : (vs : List V) (e : ℕ) (rest left : List ℕ) → (e ≡ 10 → ⊥) → r rest ≡ Err left
      → with_front vs (linked_at r (suc (length rest)) e rest) ≡ Err left
  unfolding linked_at
  linked_fails vs e rest left more is =
      ap (λ (t : Bool). with_front vs (cond {A = Reading (List V)} t (Ok ([], rest)) (r rest >>= link (length rest)))) (ne_eqb e 10 more)
      ∙ (ap (λ (q : Reading (V × ℕ)). with_front vs (q >>= link (length rest))) is ∙ front_fails vs left)
