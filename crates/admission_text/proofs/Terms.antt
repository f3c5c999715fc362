-- What the code reads of terms and expressions, against the grammar.
use Rattle.std.proofs.Common.{◌≡◌, ℕ, zero, suc, ◌<◌, ◌≤◌, ◌⊎◌, inl, inr, Bool, true, false, ◌||◌, cond, eqb, leb, not, List, [], ◌∷◌, ◌++◌, length, Option, Some, None, IfSome, refl, sym, ap, ◌∙◌, subst, arith}
use Rattle.std.specs.List.{list_all, AllByRecursion}
use Rattle.std.specs.Option.{option_map, option_or}
use Rattle.std.proofs.lemmas.Bool.{and_parts, and_from, or_cases, or_from, eqb-true, leb-true, ne_eqb, not-true, not_from_false}
use Rattle.std.proofs.lemmas.List.Folds.{list_all-append}
use Rattle.std.proofs.lemmas.Option.{same_Some, slice_get_within}
use Rattle.admission.specs.declared.expr.Term.{Term}
use Rattle.admission.specs.declared.expr.Expr.{Expr}
use Rattle.admission.specs.WellFormed.{IsExpr, IsFirstAdded, IsTerm}
use Rattle.register_names.specs.Names.{register_names}
use Rattle.admission_text.specs.Names.{IsGeneral}
use Rattle.admission_text.specs.Grammar.{AreTermTexts, IsExprText, IsTermText, sign_of}
use Rattle.text_parts.specs.Cuts.{◌>>=◌, after_byte, cut_at}
use Rattle.admission_text.specs.Reading.{cut_sign, expr_of, word_number, onto_term, register_of, term_by, term_of, terms_by, terms_of}
use Rattle.admission_text.proofs.Numbers.{number-high, number-known, number-only}
use Rattle.admission_text.proofs.Registers.{register-known, register-only}
use Rattle.text_parts.proofs.CutTexts.{cut-none, cut-only, lacks}
use Rattle.text_parts.proofs.PlaceLaws.{list_all-at}
use Rattle.text_parts.proofs.WordTexts.{cut-outcome, IsCut}
use Rattle.text_parts.proofs.Options.{bind_some}

-- bytes that a text lacks

abbrev is_sign : ℕ → Bool
is_sign b = eqb b 43 || eqb b 45

abbrev lacks_signs : List ℕ → Bool
lacks_signs text = list_all (λ b. not (is_sign b)) text

high-lacks : (byte : ℕ) (text : List ℕ) → byte < 48 → list_all (λ b. leb 48 b) text ≡ true → lacks byte text ≡ true
high-lacks byte [] low high = refl
high-lacks byte (b ∷ bs) low high =
    let p = and_parts (leb 48 b) (list_all (λ c. leb 48 c) bs) high in
    let above : 48 ≤ b = leb-true 48 b p.0 in
    and_from (not (eqb b byte)) (lacks byte bs) (not_from_false (eqb b byte) (ne_eqb b byte (λ e. omega arith))) (high-lacks byte bs low p.1)

high-signs : (text : List ℕ) → list_all (λ b. leb 48 b) text ≡ true → lacks_signs text ≡ true
high-signs [] high = refl
high-signs (b ∷ bs) high =
    let p = and_parts (leb 48 b) (list_all (λ c. leb 48 c) bs) high in
    let above : 48 ≤ b = leb-true 48 b p.0 in
    and_from (not (is_sign b)) (lacks_signs bs)
    (not_from_false (is_sign b) (or_from (eqb b 43) (eqb b 45) (ne_eqb b 43 (λ e. omega arith)) (ne_eqb b 45 (λ e. omega arith)))) (high-signs bs p.1)

-- terms

either-known : {A : Type 0} (a b : Option A) (y : A) → option_or a b ≡ Some y → (a ≡ Some y) ⊎ (b ≡ Some y)
either-known None b y h = inr h
either-known (Some x) b y h = inl h

mapped : {A B : Type 0} (f : A → B) (o : Option A) (y : B) → option_map f o ≡ Some y → (x : A) × (o ≡ Some x) × (f x ≡ y)
mapped f None y h = absurd (cc)
mapped f (Some x) y h = (x, refl, same_Some (f x) y h)

abbrev register_term : Bool → ℕ → Term
register_term minus n = record { minus = minus; c = 1; reg = Some n }

abbrev number_term : Bool → ℕ → Term
number_term minus c = record { minus = minus; c = c; reg = None }

abbrev product_term : Bool → ℕ → ℕ → Term
product_term minus c n = record { minus = minus; c = c; reg = Some n }

abbrev IsSignedTerm : Bool → List ℕ → Term → Type 0
IsSignedTerm minus text t = IsTermText text t × (t.minus ≡ minus)

term-by : (minus : Bool) (text : List ℕ) (r : Option (List ℕ × List ℕ)) (t : Term) → IsCut 42 text r → term_by minus r text ≡ Some t → IsSignedTerm minus text t
term-by minus text None t cut h =
    elim (either-known (option_map (register_term minus) (register_of text)) (option_map (number_term minus) (word_number text)) t h) [
      | inl e ↦
          let p = mapped (register_term minus) (register_of text) t e in
          subst (IsSignedTerm minus text) p.2 (inr (inl (p.0, register-known text p.0 p.1, refl, refl)), refl)
      | inr e ↦
          let p = mapped (number_term minus) (word_number text) t e in
          subst (IsSignedTerm minus text) p.2 (inl (number-known text p.0 p.1, refl), refl)
    ]
term-by minus text (Some factors) t cut h =
    let c = bind_some (word_number factors.0) (λ c. register_of factors.1 >>= λ n. Some (product_term minus c n)) t h in
    let n = bind_some (register_of factors.1) (λ n. Some (product_term minus c.0 n)) t c.2 in
    let means : product_term minus c.0 n.0 ≡ t = same_Some (product_term minus c.0 n.0) t n.2 in
    subst (IsSignedTerm minus text) means
    (inr (inr (factors.0, factors.1, n.0, number-known factors.0 c.0 c.1, register-known factors.1 n.0 n.1, cut.2, refl)), refl)

term-known : (minus : Bool) (text : List ℕ) (t : Term) → term_of minus text ≡ Some t → IsSignedTerm minus text t
unfolding term_of
term-known minus text t h = term-by minus text (cut_at 42 text) t (cut-outcome 42 text) h

number-first : (text : List ℕ) → list_all (λ b. leb 48 b) text ≡ true → register_of text ≡ None
unfolding register_of after_byte
number-first [] high = refl
number-first (b ∷ bs) high =
    let above : 48 ≤ b = leb-true 48 b (and_parts (leb 48 b) (list_all (λ c. leb 48 c) bs) high).0 in
    let other : eqb b 37 ≡ false = ne_eqb b 37 (λ e. omega arith) in
    rw other refl

register-lacks : (text : List ℕ) (n : ℕ) → IsGeneral text n 64 → (lacks 42 text ≡ true) × (lacks_signs text ≡ true)
register-lacks text n is =
    let star : lacks 42 is.0.name ≡ true = list_all-at (lacks 42) (register_names 64) n is.0.name refl is.0.known in
    let signs : lacks_signs is.0.name ≡ true = list_all-at lacks_signs (register_names 64) n is.0.name refl is.0.known in
    (subst (λ (x : List ℕ). lacks 42 x ≡ true) (sym is.0.spelled) star, subst (λ (x : List ℕ). lacks_signs x ≡ true) (sym is.0.spelled) signs)

term-only : (text : List ℕ) (t : Term) → IsTermText text t → term_of t.minus text ≡ Some t
unfolding term_of
term-only text t (inl p) =
    let high = number-high text t.c p.0 in
    let cut = cut-none 42 text (high-lacks 42 text (omega arith) high) in
    let other = number-first text high in
    let number = number-only text t.c p.0 in
    rw (cut, other, number) (ap (λ (r : Option ℕ). Some (record { minus = t.minus; c = t.c; reg = r })) (sym p.1))
term-only text t (inr (inl p)) =
    let cut = cut-none 42 text (register-lacks text p.0 p.1).0 in
    let register = register-only text p.0 p.1 in
    rw (cut, register)
    (ap (λ (c : ℕ). Some (record { minus = t.minus; c = c; reg = Some p.0 })) (sym p.2) ∙ ap (λ (r : Option ℕ). Some (record { minus = t.minus; c = t.c; reg = r })) (sym p.3))
term-only text t (inr (inr p)) =
    let cut = cut-only 42 p.0 p.1 refl (high-lacks 42 p.0 (omega arith) (number-high p.0 t.c p.3)) in
    let number = number-only p.0 t.c p.3 in
    let register = register-only p.1 p.2 p.4 in
    rw (p.5, cut, number, register) (ap (λ (r : Option ℕ). Some (record { minus = t.minus; c = t.c; reg = r })) (sym p.6))

-- a term has no sign
term-signs : (text : List ℕ) (t : Term) → IsTermText text t → lacks_signs text ≡ true
term-signs text t (inl p) = high-signs text (number-high text t.c p.0)
term-signs text t (inr (inl p)) = (register-lacks text p.0 p.1).1
term-signs text t (inr (inr p)) =
    let number : lacks_signs p.0 ≡ true = high-signs p.0 (number-high p.0 t.c p.3) in
    let register : lacks_signs p.1 ≡ true = (register-lacks p.1 p.2 p.4).1 in
    rw (p.5, list_all-append, number, register) refl

-- cuts at signs

abbrev IsSignCut : List ℕ → Option (List ℕ × Bool × List ℕ) → Type 0
IsSignCut text None = Unit {0}
IsSignCut text (Some cut) = text ≡ cut.0 ++ sign_of cut.1 ∷ cut.2

sign-byte : (b : ℕ) → is_sign b ≡ true → b ≡ sign_of (eqb b 45)
sign-byte b h =
    elim (or_cases (eqb b 43) (eqb b 45) h) [
      | inl plus ↦ let same : b ≡ 43 = eqb-true b 43 plus in rw same refl
      | inr minus ↦ let same : b ≡ 45 = eqb-true b 45 minus in rw same refl
    ]

sign-later : (b : ℕ) (bs : List ℕ) (r : Option (List ℕ × Bool × List ℕ)) → IsSignCut bs r → IsSignCut (b ∷ bs) (onto_term b r)
sign-later b bs None h = tt
sign-later b bs (Some cut) h = ap (λ (x : List ℕ). b ∷ x) h

sign-outcome : (text : List ℕ) → IsSignCut text (cut_sign text)
unfolding cut_sign
sign-outcome [] = tt
sign-outcome (b ∷ bs) =
    elim (is_sign b) as (λ (t : Bool). is_sign b ≡ t → IsSignCut (b ∷ bs) (cond t (Some ([], eqb b 45, bs)) (onto_term b (cut_sign bs)))) [
      | true ↦ λ e. ap (λ (x : ℕ). x ∷ bs) (sign-byte b e)
      | false ↦ λ e. sign-later b bs (cut_sign bs) (sign-outcome bs)
    ] refl

sign-none : (text : List ℕ) → lacks_signs text ≡ true → cut_sign text ≡ None
unfolding cut_sign
sign-none [] h = refl
sign-none (b ∷ bs) h =
    let p = and_parts (not (is_sign b)) (lacks_signs bs) h in
    let other : is_sign b ≡ false = not-true (is_sign b) p.0 in
    rw (other, sign-none bs p.1) refl

sign-here : (minus : Bool) (rest : List ℕ) → cut_sign (sign_of minus ∷ rest) ≡ Some ([], minus, rest)
unfolding cut_sign
sign-here true rest = refl
sign-here false rest = refl

sign-some : (front : List ℕ) (minus : Bool) (rest : List ℕ) → lacks_signs front ≡ true → cut_sign (front ++ sign_of minus ∷ rest) ≡ Some (front, minus, rest)
unfolding cut_sign
sign-some [] minus rest h = sign-here minus rest
sign-some (b ∷ bs) minus rest h =
    let p = and_parts (not (is_sign b)) (lacks_signs bs) h in
    let other : is_sign b ≡ false = not-true (is_sign b) p.0 in
    rw (other, sign-some bs minus rest p.1) refl

-- sums of terms

abbrev HasSign : Bool → List Term → Type 0
HasSign minus [] = Unit {0}
HasSign minus (t ∷ ts) = t.minus ≡ minus

record AreRead (left : ℕ) (minus : Bool) (text : List ℕ) (ts : List Term) : Type 0 where
  texts : AreTermTexts text ts
  sign : HasSign minus ts
  few : length ts ≤ left

joined : (left : ℕ) (minus next : Bool) (text here rest : List ℕ) (t : Term) (us : List Term) → text ≡ here ++ sign_of next ∷ rest → IsSignedTerm minus here t
    → AreRead left next rest us → AreRead (suc left) minus text (t ∷ us)
joined left minus next text here rest t [] is term more = absurd more.texts
joined left minus next text here rest t (u ∷ us) is term more =
    record {
      texts = (here, rest, is ∙ ap (λ (m : Bool). here ++ sign_of m ∷ rest) (sym more.sign), term.0, more.texts);
      sign = term.1;
      few = omega (arith, more.few);
    }

by_cut : (left : ℕ) → ((minus : Bool) (text : List ℕ) (us : List Term) → terms_of left minus text ≡ Some us → AreRead left minus text us)
    → (minus : Bool) (text : List ℕ) (ts : List Term) (r : Option (List ℕ × Bool × List ℕ)) → IsSignCut text r → terms_by r minus text (terms_of left) ≡ Some ts
    → AreRead (suc left) minus text ts
by_cut left more minus text ts None cut g =
    let t = bind_some (term_of minus text) (λ (t : Term). Some (t ∷ [])) ts g in
    let means : t.0 ∷ [] ≡ ts = same_Some (t.0 ∷ []) ts t.2 in
    let term = term-known minus text t.0 t.1 in
    subst (AreRead (suc left) minus text) means (record { texts = term.0; sign = term.1; few = omega arith })
by_cut left more minus text ts (Some found) cut g =
    let t = bind_some (term_of minus found.0) (λ (t : Term). terms_of left found.1 found.2 >>= λ (us : List Term). Some (t ∷ us)) ts g in
    let us = bind_some (terms_of left found.1 found.2) (λ (us : List Term). Some (t.0 ∷ us)) ts t.2 in
    let means : t.0 ∷ us.0 ≡ ts = same_Some (t.0 ∷ us.0) ts us.2 in
    subst (AreRead (suc left) minus text) means
    (joined left minus found.1 text found.0 found.2 t.0 us.0 cut (term-known minus found.0 t.0 t.1) (more found.1 found.2 us.0 us.1))

terms-known : (left : ℕ) (minus : Bool) (text : List ℕ) (ts : List Term) → terms_of left minus text ≡ Some ts → AreRead left minus text ts
unfolding terms_of
terms-known zero minus text ts h = absurd (cc)
terms-known (suc left) minus text ts h = by_cut left (terms-known left) minus text ts (cut_sign text) (sign-outcome text) h

signed-only : (minus : Bool) (text : List ℕ) (t : Term) → IsTermText text t → t.minus ≡ minus → term_of minus text ≡ Some t
signed-only minus text t is sign = subst (λ (m : Bool). term_of m text ≡ Some t) sign (term-only text t is)

terms-only : (ts : List Term) (left : ℕ) (minus : Bool) (text : List ℕ) → AreTermTexts text ts → HasSign minus ts → length ts ≤ left → terms_of left minus text ≡ Some ts
unfolding terms_of
terms-only [] left minus text texts sign few = absurd texts
terms-only (t ∷ ts) zero minus text texts sign few = absurd (omega arith)
terms-only (t ∷ []) (suc left) minus text texts sign few =
    let cut = sign-none text (term-signs text t texts) in
    let term = signed-only minus text t texts sign in
    rw (cut, term) refl
terms-only (t ∷ u ∷ us) (suc left) minus text texts sign few =
    let cut : cut_sign text ≡ Some (texts.0, u.minus, texts.1) = ap cut_sign texts.2 ∙ sign-some texts.0 u.minus texts.1 (term-signs texts.0 t texts.3) in
    let term = signed-only minus texts.0 t texts.3 sign in
    let more = terms-only (u ∷ us) left u.minus texts.1 texts.4 refl (omega arith) in
    rw (cut, term, more) refl

-- expressions

first-added : (ts : List Term) → HasSign false ts → IsFirstAdded ts
first-added [] h = tt
first-added (t ∷ ts) h = h

has-sign : (ts : List Term) → IsFirstAdded ts → HasSign false ts
has-sign [] h = tt
has-sign (t ∷ ts) h = h

abbrev expr_with : List Term → Expr
expr_with ts = record { terms = ts }

pub expr-known : (text : List ℕ) (e : Expr) → expr_of text ≡ Some e → IsExprText text e
unfolding expr_of
expr-known text e h =
    let ts = bind_some (terms_of 8 false text) (λ (ts : List Term). Some (expr_with ts)) e h in
    let means : expr_with ts.0 ≡ e = same_Some (expr_with ts.0) e ts.2 in
    let read = terms-known 8 false text ts.0 ts.1 in
    subst (IsExprText text) means (record { terms = read.texts; first = first-added ts.0 read.sign; few = read.few })

pub expr-only : (text : List ℕ) (e : Expr) → IsExprText text e → expr_of text ≡ Some e
unfolding expr_of
expr-only text e is = let ts = terms-only e.terms 8 false text is.terms (has-sign e.terms is.first) is.few in rw ts refl

-- what is read is an expression

term-sound : (text : List ℕ) (t : Term) → IsTermText text t → IsTerm t
term-sound text t (inl p) = record { number = p.0.small; register = subst (λ (r : Option ℕ). IfSome r (λ n. n < 16)) (sym p.1) tt }
term-sound text t (inr (inl p)) =
    let inside : p.0 < 16 = slice_get_within (register_names 64) p.0 p.1.0.name p.1.0.known in
    record { number = omega (arith, p.2); register = subst (λ (r : Option ℕ). IfSome r (λ n. n < 16)) (sym p.3) inside }
term-sound text t (inr (inr p)) =
    let inside : p.2 < 16 = slice_get_within (register_names 64) p.2 p.4.0.name p.4.0.known in
    record { number = p.3.small; register = subst (λ (r : Option ℕ). IfSome r (λ n. n < 16)) (sym p.6) inside }

terms-sound : (text : List ℕ) (ts : List Term) → AreTermTexts text ts → (0 < length ts) × AllByRecursion IsTerm ts
terms-sound text [] texts = absurd texts
terms-sound text (t ∷ []) texts = (omega arith, (term-sound text t texts, tt))
terms-sound text (t ∷ u ∷ us) texts = (omega arith, (term-sound texts.0 t texts.3, (terms-sound texts.1 (u ∷ us) texts.4).1))

pub expr-sound : (text : List ℕ) (e : Expr) → IsExprText text e → IsExpr e
expr-sound text e is =
    let p = terms-sound text e.terms is.terms in
    record { some = p.0; few = is.few; first = is.first; each = p.1 }
