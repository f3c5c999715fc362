-- Gates are their connectives.
use Rattle.std.proofs.Common.{◌≡◌, ◌≢◌, ◌↔◌, ℕ, zero, suc, ◌+◌, ◌*◌, ◌/◌, ◌%◌, ◌^◌, ◌<◌, ◌≤◌, ◌==◌, ◌&&◌, ◌||◌, Bool, true, false, List, [], ◌∷◌, length, refl, sym, ◌∙◌, ap, subst, arith, inl, inr, if◌then◌else◌, add-one}
use Rattle.std.specs.Prelude.{not, map}
use Rattle.std.specs.List.{filter, list_all, range_with_len}
use Rattle.std.proofs.lemmas.Bool.{cases_Bool, eqb-true, eq-eqb, ne_eqb, eqb-false}
use Rattle.clauses.specs.declared.clause.Lit.{Lit}
use Rattle.clauses.specs.Assignments.{MeetsAll, clause_value, literal_value}
use Rattle.clause_gates.specs.Gates.{choice_gate, has_odd_ones, is_odd, is_one_of, majority, majority_gate, negation, signed, xor_gate}

pub negated_value : (v : ℕ → Bool) (l : Lit) → literal_value v (negation l) ≡ not (literal_value v l)
negated_value v l = turned l.neg (v l.var)
  where
    turned : (n b : Bool) → (if not n then not b else b) ≡ not (if n then not b else b)
    turned true true = refl
    turned true false = refl
    turned false true = refl
    turned false false = refl

false_true : false ≡ true → ⊥
false_true h = cc

-- whether two Bools are the same
abbrev pub is_same : Bool → Bool → Bool
is_same a b = if a then b else not b

same_true : (a b : Bool) → is_same a b ≡ true → a ≡ b
same_true true b h = sym h
same_true false true h = h
same_true false false h = refl

true_same : (a b : Bool) → a ≡ b → is_same a b ≡ true
true_same true b h = sym h
true_same false true h = h
true_same false false h = refl

and_true : (a b : Bool) → (a && b) ≡ true → (a ≡ true) × (b ≡ true)
and_true true b h = (refl, h)
and_true false b h = absurd (false_true h)

-- clauses are met together
pub all_met : (v : ℕ → Bool) (cs : List (List Lit)) → list_all (clause_value v) cs ≡ true → MeetsAll v cs
all_met v [] h = tt
all_met v (c ∷ cs) h =
    let both : (clause_value v c ≡ true) × (list_all (clause_value v) cs ≡ true) = and_true (clause_value v c) (list_all (clause_value v) cs) h in
    (both.0, all_met v cs both.1)

pub met_all : (v : ℕ → Bool) (cs : List (List Lit)) → MeetsAll v cs → list_all (clause_value v) cs ≡ true
met_all v [] m = refl
met_all v (c ∷ cs) m = rw m.0 (met_all v cs m.1)

-- clauses that are met exactly where two Bools are the same
pub says : (v : ℕ → Bool) (cs : List (List Lit)) (a b : Bool) → list_all (clause_value v) cs ≡ is_same a b → MeetsAll v cs ↔ (a ≡ b)
says v cs a b e = (λ m. same_true a b (sym e ∙ met_all v cs m), λ s. all_met v cs (e ∙ true_same a b s))

-- a fact of both Bools
both : (Bool → Bool) → Bool
both f = f true && f false

at_both : (f : Bool → Bool) → both f ≡ true → (b : Bool) → f b ≡ true
unfolding both
at_both f h true = (and_true (f true) (f false) h).0
at_both f h false = (and_true (f true) (f false) h).1

-- two functions of four Bools that agree in all sixteen cases
agree : (f g : Bool → Bool → Bool → Bool → Bool)
    → both (λ a. both (λ b. both (λ c. both (λ d. is_same (f a b c d) (g a b c d))))) ≡ true
    → (a b c d : Bool) → f a b c d ≡ g a b c d
agree f g h a b c d =
    same_true (f a b c d) (g a b c d)
    (at_both (λ d. is_same (f a b c d) (g a b c d))
    (at_both (λ c. both (λ d. is_same (f a b c d) (g a b c d)))
    (at_both (λ b. both (λ c. both (λ d. is_same (f a b c d) (g a b c d))))
    (at_both (λ a. both (λ b. both (λ c. both (λ d. is_same (f a b c d) (g a b c d))))) h a) b) c) d)

-- the clauses of the majority and of the choice, with the negations apart
majority_table : Bool → Bool → Bool → Bool → Bool → Bool → Bool → Bool → Bool
majority_table m a b c nm na nb nc =
    (nm || (a || (b || false))) && ((nm || (a || (c || false))) && ((nm || (b || (c || false)))
    && ((m || (na || (nb || false))) && ((m || (na || (nc || false))) && ((m || (nb || (nc || false))) && true)))))

majority_cases : (m a b c nm na nb nc : Bool) → nm ≡ not m → na ≡ not a → nb ≡ not b → nc ≡ not c
    → majority_table m a b c nm na nb nc ≡ is_same m (majority a b c)
unfolding both majority_table
majority_cases m a b c nm na nb nc em ea eb ec =
    rw (em, ea, eb, ec) (agree (λ m a b c. majority_table m a b c (not m) (not a) (not b) (not c)) (λ m a b c. is_same m (majority a b c)) refl m a b c)

pub majority_says : (v : ℕ → Bool) (m a b c : Lit)
    → MeetsAll v (majority_gate m a b c) ↔ (literal_value v m ≡ majority (literal_value v a) (literal_value v b) (literal_value v c))
unfolding majority_table
majority_says v m a b c =
    says v (majority_gate m a b c) (literal_value v m) (majority (literal_value v a) (literal_value v b) (literal_value v c))
    (majority_cases (literal_value v m) (literal_value v a) (literal_value v b) (literal_value v c)
    (literal_value v (negation m)) (literal_value v (negation a)) (literal_value v (negation b)) (literal_value v (negation c))
    (negated_value v m) (negated_value v a) (negated_value v b) (negated_value v c))

choice_table : Bool → Bool → Bool → Bool → Bool → Bool → Bool → Bool → Bool
choice_table r c a b nr nc na nb =
    (nc || (nr || (a || false))) && ((nc || (r || (na || false))) && ((c || (nr || (b || false))) && ((c || (r || (nb || false))) && true)))

choice_cases : (r c a b nr nc na nb : Bool) → nr ≡ not r → nc ≡ not c → na ≡ not a → nb ≡ not b
    → choice_table r c a b nr nc na nb ≡ is_same r (if c then a else b)
unfolding both choice_table
choice_cases r c a b nr nc na nb er ec ea eb =
    rw (er, ec, ea, eb) (agree (λ r c a b. choice_table r c a b (not r) (not c) (not a) (not b)) (λ r c a b. is_same r (if c then a else b)) refl r c a b)

pub choice_says : (v : ℕ → Bool) (r c a b : Lit)
    → MeetsAll v (choice_gate r c a b) ↔ (literal_value v r ≡ (if literal_value v c then literal_value v a else literal_value v b))
unfolding choice_table
choice_says v r c a b =
    says v (choice_gate r c a b) (literal_value v r) (if literal_value v c then literal_value v a else literal_value v b)
    (choice_cases (literal_value v r) (literal_value v c) (literal_value v a) (literal_value v b)
    (literal_value v (negation r)) (literal_value v (negation c)) (literal_value v (negation a)) (literal_value v (negation b))
    (negated_value v r) (negated_value v c) (negated_value v a) (negated_value v b))

-- a Bool as a number
abbrev bit : Bool → ℕ
bit b = if b then 1 else 0

-- MeetsAll of what a test lets through of a range
abbrev EachMet : (ℕ → Bool) → (ℕ → List Lit) → (ℕ → Bool) → ℕ → ℕ → Type 0
EachMet v f t a n = (k : ℕ) → a ≤ k → k < a + n → t k ≡ true → clause_value v (f k) ≡ true

range_met : (v : ℕ → Bool) (f : ℕ → List Lit) (t : ℕ → Bool) (a n : ℕ)
    → MeetsAll v (map f (filter t (range_with_len a n))) → EachMet v f t a n
range_met v f t a zero m k low high h = absurd (omega arith)
range_met v f t a (suc n) m k low high h = elim (cases_Bool (t a)) [
  | inl s ↦
      let both : MeetsAll v (f a ∷ map f (filter t (range_with_len (a + 1) n))) = rw s at m in
      elim (cases_Bool (k == a)) [
        | inl e ↦ subst (λ (x : ℕ). clause_value v (f x) ≡ true) (sym (eqb-true k a e)) both.0
        | inr e ↦
            let other : k ≢ a = eqb-false k a e in
            range_met v f t (a + 1) n both.1 k (omega arith) (omega arith) h
      ]
  | inr s ↦
      let rest : MeetsAll v (map f (filter t (range_with_len (a + 1) n))) = rw s at m in
      elim (cases_Bool (k == a)) [
        | inl e ↦ absurd (no (t a) (ap t (sym (eqb-true k a e)) ∙ h) s)
        | inr e ↦
            let other : k ≢ a = eqb-false k a e in
            range_met v f t (a + 1) n rest k (omega arith) (omega arith) h
      ]
]
  where
    no : (b : Bool) → b ≡ true → b ≡ false → ⊥
    no b x y = cc

met_range : (v : ℕ → Bool) (f : ℕ → List Lit) (t : ℕ → Bool) (a n : ℕ)
    → EachMet v f t a n → MeetsAll v (map f (filter t (range_with_len a n)))
met_range v f t a zero h = tt
met_range v f t a (suc n) h =
    let rest : MeetsAll v (map f (filter t (range_with_len (a + 1) n))) =
    met_range v f t (a + 1) n (λ k low high s. h k (omega arith) (omega arith) s) in
    elim (cases_Bool (t a)) [
      | inl s ↦ rw s (h a (omega arith) (omega arith) s, rest)
      | inr s ↦ rw s rest
    ]

module _ (v : ℕ → Bool) where
  -- the signs with which all of these literals are false
  pattern : List Lit → ℕ
  pattern [] = 0
  pattern (l ∷ ls) = bit (literal_value v l) + 2 * pattern ls

  pattern-below : (ls : List Lit) → pattern ls < 2 ^ length ls
  unfolding pattern
  pattern-below [] = omega arith
  pattern-below (l ∷ ls) = by_bit (literal_value v l) (pattern ls) (length ls) (pattern-below ls)
    where
      by_bit : (b : Bool) (p k : ℕ) → p < 2 ^ k → bit b + 2 * p < 2 ^ (suc k)
      by_bit true p k h = omega arith
      by_bit false p k h = omega arith

  pattern-odd : (ls : List Lit) → has_odd_ones (length ls) (pattern ls) ≡ is_odd (map (literal_value v) ls)
  unfolding pattern
  pattern-odd [] = refl
  pattern-odd (l ∷ ls) = by_bit (literal_value v l) (pattern ls) (length ls) (is_odd (map (literal_value v) ls)) (pattern-odd ls)
    where
      halved : (b : Bool) (p : ℕ) → (bit b + 2 * p) / 2 ≡ p
      halved true p = omega arith
      halved false p = omega arith

      low : (b : Bool) (p : ℕ) → ((bit b + 2 * p) % 2 == 1) ≡ b
      low true p = eq-eqb ((1 + 2 * p) % 2) 1 (omega arith)
      low false p = ne_eqb ((0 + 2 * p) % 2) 1 (λ e. omega arith)

      by_bit : (b : Bool) (p k : ℕ) (o : Bool) → has_odd_ones k p ≡ o
          → is_one_of ((bit b + 2 * p) % 2 == 1) (has_odd_ones k ((bit b + 2 * p) / 2)) ≡ is_one_of b o
      by_bit b p k o h = rw (low b p, halved b p, h) refl

  -- a clause over these literals fails only with the signs of the pattern
  signed_value : (ls : List Lit) (n : ℕ) → n < 2 ^ length ls → clause_value v (signed n ls) ≡ not (n == pattern ls)
  unfolding pattern
  signed_value [] zero h = refl
  signed_value [] (suc n) h = absurd (omega arith)
  signed_value (l ∷ ls) n h =
      let half : n / 2 < 2 ^ length ls = halves n (length ls) h in
      elim (cases_Bool (n % 2 == 1)) [
        | inl s ↦ rw (s, negated_value v l, signed_value ls (n / 2) half) (odd (literal_value v l) n (pattern ls) (eqb-true (n % 2) 1 s))
        | inr s ↦ rw (s, signed_value ls (n / 2) half) (even (literal_value v l) n (pattern ls) (eqb-false (n % 2) 1 s))
      ]
    where
      halves : (n k : ℕ) → n < 2 ^ (suc k) → n / 2 < 2 ^ k
      halves n k h = omega arith

      odd : (b : Bool) (n p : ℕ) → n % 2 ≡ 1 → (not b || not (n / 2 == p)) ≡ not (n == bit b + 2 * p)
      odd true n p s = elim (cases_Bool (n / 2 == p)) [
        | inl e ↦ let same : n / 2 ≡ p = eqb-true (n / 2) p e in rw (e, eq-eqb n (1 + 2 * p) (omega arith)) refl
        | inr e ↦ let other : n / 2 ≢ p = eqb-false (n / 2) p e in rw (e, ne_eqb n (1 + 2 * p) (λ x. other (omega arith))) refl
      ]
      odd false n p s = rw (ne_eqb n (0 + 2 * p) (λ x. omega arith)) refl

      even : (b : Bool) (n p : ℕ) → n % 2 ≢ 1 → (b || not (n / 2 == p)) ≡ not (n == bit b + 2 * p)
      even true n p s = rw (ne_eqb n (1 + 2 * p) (λ x. s (omega arith))) refl
      even false n p s = elim (cases_Bool (n / 2 == p)) [
        | inl e ↦ let same : n / 2 ≡ p = eqb-true (n / 2) p e in rw (e, eq-eqb n (0 + 2 * p) (omega arith)) refl
        | inr e ↦ let other : n / 2 ≢ p = eqb-false (n / 2) p e in rw (e, ne_eqb n (0 + 2 * p) (λ x. other (omega arith))) refl
      ]

  xor_even : (r : Lit) (ls : List Lit) → (literal_value v r ≡ is_odd (map (literal_value v) ls))
      ↔ (has_odd_ones (length (r ∷ ls)) (pattern (r ∷ ls)) ≡ false)
  xor_even r ls = rw (pattern-odd (r ∷ ls)) (same (literal_value v r) (is_odd (map (literal_value v) ls)))
    where
      same : (a b : Bool) → (a ≡ b) ↔ (is_one_of a b ≡ false)
      same true true = (λ h. refl, λ h. refl)
      same true false = (λ h. h, λ h. h)
      same false true = (λ h. sym h, λ h. sym h)
      same false false = (λ h. refl, λ h. refl)

  pub xor_says : (r : Lit) (ls : List Lit) → MeetsAll v (xor_gate r ls) ↔ (literal_value v r ≡ is_odd (map (literal_value v) ls))
  xor_says r ls = (there, back)
    where
      p : ℕ
      p = pattern (r ∷ ls)

      below : p < 0 + 2 ^ (length ls + 1)
      below = rw add-one (omega (arith, pattern-below (r ∷ ls)))

      no : clause_value v (signed p (r ∷ ls)) ≡ true → ⊥
      no h =
          let value : clause_value v (signed p (r ∷ ls)) ≡ not (p == p) = signed_value (r ∷ ls) p (pattern-below (r ∷ ls)) in
          let same : (p == p) ≡ true = eq-eqb p p refl in
          false_true (sym (rw same at value) ∙ h)

      there : MeetsAll v (xor_gate r ls) → literal_value v r ≡ is_odd (map (literal_value v) ls)
      there m =
          let each : EachMet v (λ n. signed n (r ∷ ls)) (has_odd_ones (length ls + 1)) 0 (2 ^ (length ls + 1)) =
          range_met v (λ n. signed n (r ∷ ls)) (has_odd_ones (length ls + 1)) 0 (2 ^ (length ls + 1)) m in
          elim (cases_Bool (has_odd_ones (suc (length ls)) p)) [
            | inl t ↦ absurd (no (each p (omega arith) below (rw add-one t)))
            | inr f ↦ (xor_even r ls).1 f
          ]

      back : literal_value v r ≡ is_odd (map (literal_value v) ls) → MeetsAll v (xor_gate r ls)
      back e = met_range v (λ n. signed n (r ∷ ls)) (has_odd_ones (length ls + 1)) 0 (2 ^ (length ls + 1)) (λ k low high odd.
          let inside : k < 2 ^ suc (length ls) = omega (arith, rw add-one at high) in
          let even : has_odd_ones (suc (length ls)) p ≡ false = (xor_even r ls).0 e in
          let other : k ≢ p = λ same. false_true (sym even ∙ sym (ap (has_odd_ones (suc (length ls))) same) ∙ (rw add-one at odd)) in
          signed_value (r ∷ ls) k inside ∙ ap not (ne_eqb k p other))
