-- Lists up to the end of a line, or up to a value that ends them.
use Rattle.std.proofs.Common.{◌≡◌, ◌⊎◌, inl, inr, ℕ, suc, zero, ◌<◌, Bool, true, false, cond, eqb, List, [], ◌∷◌, ◌++◌, length, Ok, refl, sym, ap, ◌∙◌, subst, arith}
use Rattle.std.specs.List.{AllByRecursion}
use Rattle.std.proofs.lemmas.Bool.{eqb-true, eqb-false, both_ways}
use Rattle.std.proofs.lemmas.List.{append-nil, length-append}
use Rattle.outcomes.specs.Firsts.{◌>>=◌}
use Rattle.text_codes.specs.Codes.{IsRead, Reads}
use Rattle.text_codes.specs.Lists.{end_before, line_of, until}
use Rattle.text_codes.specs.Readers.{Reading, linked_at, until_at}
use Rattle.text_codes.proofs.Chains.{free, With, chain_at, alike_at, made_pair}

-- the value alone, and nothing behind it
pub alone : {V : Type 0} (f : V → List ℕ) (F : V → Type 0) (v : V) → F v → f v ≡ [] → ((w : V) → F w → w ≡ v)
    → (text : List ℕ) → IsRead f F text (Ok (v, text))
alone f F v h none one text = record {
  fits = h;
  parts = ap (λ (t : List ℕ). t ++ text) (sym none);
  only = λ w y hw e. (one w hw, sym (e ∙ (ap (λ (u : _). f u ++ y) (one w hw) ∙ ap (λ (t : List ℕ). t ++ y) none)));
}

-- up to the end of a line

module _ {V : Type 0} (f : ℕ → V → List ℕ) (F : V → Type 0) (r : List ℕ → Reading (V × ℕ)) where
  -- a value and the byte that ends it
  abbrev pub item_text : V × ℕ → List ℕ
  item_text v = f v.1 v.0

  abbrev pub IsItem : V × ℕ → Type 0
  IsItem v = F v.0 × ((v.1 ≡ 32) ⊎ (v.1 ≡ 10))

  -- values up to the end of a line behind this byte
  abbrev pub AreLinked : ℕ → List V → Type 0
  AreLinked e vs = AllByRecursion F vs × (e ≡ end_before vs)

  abbrev IsMore : (V × ℕ) × List V → Type 0
  IsMore p = IsItem p.0 × AreLinked p.0.1 p.1

  abbrev joined : (V × ℕ) × List V → List V
  joined p = p.0.0 ∷ p.1

  abbrev more_text : (V × ℕ) × List V → List ℕ
  more_text p = item_text p.0 ++ line_of f p.1

  -- what is behind the byte that ended the value before, where turns are left for each byte of it
  pub linked_right : Reads item_text IsItem r → ((a : V × ℕ) → IsItem a → 0 < length (item_text a))
      → (turns : ℕ) (e : ℕ) → (e ≡ 32) ⊎ (e ≡ 10) → (text : List ℕ) → length text < turns
      → IsRead (line_of f) (AreLinked e) text (linked_at r turns e text)
  unfolding linked_at line_of
  linked_right rd filled zero e kind text short = absurd (omega arith)
  linked_right rd filled (suc turns) e kind text short =
      elim (eqb e 10) as (λ t. eqb e 10 ≡ t → IsRead (line_of f) (AreLinked e) text
      (cond t (Ok ([], text)) (r text >>= λ x. (linked_at r turns x.0.1 x.1 >>= λ y. Ok (x.0.0 ∷ y.0, y.1))))) [
        | true ↦ λ is. let ten = eqb-true e 10 is in alone (line_of f) (AreLinked e) [] (tt, ten) refl (none_left ten) text
        | false ↦ λ is.
            subst (IsRead (line_of f) (AreLinked e) text) (made_pair joined (r text) (λ x. linked_at r turns x.0.1 x.1))
            (alike_at (line_of f) (AreLinked e) more_text IsMore joined
            (record { text = λ u h. ap (λ (c : ℕ). f c u.0.0 ++ line_of f u.1) (sym h.1.1); fits = λ u h. ((h.0.0, h.1.0), not_ten is); from = more_left is }) text _
            (chain_at more_text IsMore (λ p. p.0) (λ p. line_of f p.1) item_text IsItem
            (record { text = λ v h. refl; fits = λ v h. h.0; some = a_more }) (free item_text IsItem r rd) text _ (r text) (rd.right text)
            (λ a rest h is2. alike_at (λ (p : (V × ℕ) × List V). line_of f p.1) (With IsMore (λ p. p.0) a) (line_of f) (AreLinked a.1) (λ (vs : List V). (a, vs))
            (record {
              text = λ u gu. refl;
              fits = λ u gu. ((h, gu), refl);
              from = λ v w. (v.1, (subst (λ (c : V × ℕ). AreLinked c.1 v.1) w.1 w.0.1, ap (λ (c : V × ℕ). let p : (V × ℕ) × List V = (c, v.1) in p) (sym w.1)));
            }) rest _
            (linked_right rd filled turns a.1 h.1 rest (shorter a rest h is2)))))
      ] refl
    where
      none_left : e ≡ 10 → (w : List V) → AreLinked e w → w ≡ []
      none_left ten [] h = refl
      none_left ten (v ∷ vs) h = absurd (let k : e ≡ 32 = h.1 in omega arith)

      not_ten : eqb e 10 ≡ false → e ≡ 32
      not_ten is = elim kind [ inl a ↦ a | inr b ↦ absurd (eqb-false e 10 is b) ]

      ending : (us : List V) → (end_before us ≡ 32) ⊎ (end_before us ≡ 10)
      ending [] = inr refl
      ending (u ∷ us) = inl refl

      more_left : (eqb e 10 ≡ false) → (w : List V) → AreLinked e w → (u : (V × ℕ) × List V) × (IsMore u × (joined u ≡ w))
      more_left is [] h = absurd (eqb-false e 10 is h.1)
      more_left is (v ∷ vs) h = (((v, end_before vs), vs), (((h.0.0, ending vs), (h.0.1, refl)), refl))

      a_more : (a : V × ℕ) → IsItem a → (p : (V × ℕ) × List V) × (IsMore p × (p.0 ≡ a))
      a_more a h = elim h.1 [
        | inl space ↦ ((a, a.0 ∷ []), ((h, ((h.0, tt), space)), refl))
        | inr line ↦ ((a, []), ((h, (tt, line)), refl))
      ]

      shorter : (a : V × ℕ) (rest : List ℕ) → IsItem a → text ≡ item_text a ++ rest → length rest < turns
      shorter a rest h is = let l = ap (λ (t : List ℕ). length t) is in omega (arith, l, length-append (item_text a) rest, filled a h)

  -- what is read behind the byte that ended the value before
  pub linked_reads : Reads item_text IsItem r → ((a : V × ℕ) → IsItem a → 0 < length (item_text a))
      → (e : ℕ) → (e ≡ 32) ⊎ (e ≡ 10) → Reads (line_of f) (AreLinked e) (λ text. linked_at r (suc (length text)) e text)
  linked_reads rd filled e kind = record { right = λ text. linked_right rd filled (suc (length text)) e kind text (omega arith) }

-- up to a value that ends them

module _ {U : Type 0} (f : U → List ℕ) (F : U → Type 0) (is_end : U → Bool) (end : U) (r : List ℕ → Reading U) where
  -- values none of which is the end
  abbrev pub NoneEnds : List U → Type 0
  NoneEnds vs = AllByRecursion (λ v. F v × (is_end v ≡ false)) vs

  abbrev head : List U → U
  head [] = end
  head (v ∷ vs) = v

  abbrev tail_text : List U → List ℕ
  tail_text [] = []
  tail_text (v ∷ vs) = until f end vs

  pub until_right : Reads f F r → F end → is_end end ≡ true → ((v : U) → F v → is_end v ≡ true → v ≡ end)
      → ((a : U) → F a → 0 < length (f a)) → (turns : ℕ) (text : List ℕ) → length text < turns
      → IsRead (until f end) NoneEnds text (until_at is_end r turns text)
  unfolding until until_at
  until_right rd there ends only filled zero text short = absurd (omega arith)
  until_right rd there ends only filled (suc turns) text short =
      chain_at (until f end) NoneEnds head tail_text f F
      (record { text = text_is; fits = head_fits; some = λ a h. some_with a h (is_end a) refl })
      (free f F r rd) text _ (r text) (rd.right text)
      (λ a rest h is. behind (λ t l. until_right rd there ends only filled turns t l) a rest h is (is_end a) refl)
    where
      text_is : (vs : List U) → NoneEnds vs → until f end vs ≡ f (head vs) ++ tail_text vs
      text_is [] h = sym (append-nil (f end))
      text_is (v ∷ vs) h = refl

      head_fits : (vs : List U) → NoneEnds vs → F (head vs)
      head_fits [] h = there
      head_fits (v ∷ vs) h = h.0.0

      some_with : (a : U) → F a → (t : Bool) → is_end a ≡ t → (vs : List U) × (NoneEnds vs × (head vs ≡ a))
      some_with a h true e = ([], (tt, sym (only a h e)))
      some_with a h false e = (a ∷ [], (((h, e), tt), refl))

      shorter : (a : U) (rest : List ℕ) → F a → text ≡ f a ++ rest → length rest < turns
      shorter a rest h is = let l = ap (λ (t : List ℕ). length t) is in omega (arith, l, length-append (f a) rest, filled a h)

      ended_is : (a : U) → is_end a ≡ true → (w : List U) → With NoneEnds head a w → w ≡ []
      ended_is a e [] h = refl
      ended_is a e (v ∷ vs) h = absurd (both_ways (is_end v) h.0.0.1 (ap is_end h.1 ∙ e))

      goes_on : (a : U) → is_end a ≡ false → (w : List U) → With NoneEnds head a w → (u : List U) × (NoneEnds u × (a ∷ u ≡ w))
      goes_on a e [] h = absurd (both_ways (is_end end) (ap is_end h.1 ∙ e) ends)
      goes_on a e (v ∷ vs) h = (vs, (h.0.1, ap (λ (u : U). u ∷ vs) (sym h.1)))

      behind : ((t : List ℕ) → length t < turns → IsRead (until f end) NoneEnds t (until_at is_end r turns t))
          → (a : U) (rest : List ℕ) → F a → text ≡ f a ++ rest → (t : Bool) → is_end a ≡ t
          → IsRead tail_text (With NoneEnds head a) rest (cond (is_end a) (Ok ([], rest)) (until_at is_end r turns rest >>= λ y. Ok (a ∷ y.0, y.1)))
      behind again a rest h is true e = subst (λ (t : Bool). IsRead tail_text (With NoneEnds head a) rest (cond t (Ok ([], rest)) (until_at is_end r turns rest >>= λ y. Ok (a ∷ y.0, y.1)))) (sym e)
          (alone tail_text (With NoneEnds head a) [] (tt, sym (only a h e)) refl (ended_is a e) rest)
      behind again a rest h is false e = subst (λ (t : Bool). IsRead tail_text (With NoneEnds head a) rest (cond t (Ok ([], rest)) (until_at is_end r turns rest >>= λ y. Ok (a ∷ y.0, y.1)))) (sym e)
          (alike_at tail_text (With NoneEnds head a) (until f end) NoneEnds (λ (vs : List U). a ∷ vs)
          (record { text = λ u g. refl; fits = λ u g. (((h, e), g), refl); from = goes_on a e }) rest _
          (again rest (shorter a rest h is)))

  pub until_reads : Reads f F r → F end → is_end end ≡ true → ((v : U) → F v → is_end v ≡ true → v ≡ end)
      → ((a : U) → F a → 0 < length (f a)) → Reads (until f end) NoneEnds (λ text. until_at is_end r (suc (length text)) text)
  until_reads rd there ends only filled = record { right = λ text. until_right rd there ends only filled (suc (length text)) text (omega arith) }
