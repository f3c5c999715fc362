-- Lists of nodes with coefficients: what a weight that is added does to their sum, their order and their parts.
use Rattle.std.proofs.Common.{◌≡◌, ℕ, zero, suc, ◌+◌, ◌*◌, ◌^◌, ◌<◌, ◌≤◌, ◌==◌, List, [], ◌∷◌, ◌++◌, true, false, refl, sym, ◌∙◌, ap, inl, inr, arith, length, take, drop, get_or, set, add-one, append_assoc}
use Rattle.std.specs.Prelude.{max, nat_lt}
use Rattle.std.specs.List.{AllByRecursion}
use Rattle.std.proofs.lemmas.Bool.{cases_Bool, eqb-false, eqb-true, le-ltb, lt-ltb, ltb-false, ltb-true}
use Rattle.std.proofs.Math.Seq.{drop-cons, drop-length, take-length}
use Rattle.std.proofs.lemmas.List.{set_split, take_more}
use Rattle.std.proofs.lemmas.Nat.{pow_pos, mod_below}
use Rattle.insn_semantics.specs.Words.{plus}
use Rattle.node_values.specs.declared.node.NodeId.{NodeId}
use Rattle.node_forms.specs.Sums.{AreFalling, AreRising, SameWord, top_of, weighted_sum, with_weight}
use Rattle.node_forms.proofs.Residues.{same_add, same_low, same_number, same_times}

abbrev Weighted : Type 0
Weighted = NodeId × ℕ

pub weighted_sum-append : (f : ℕ → ℕ) (ps qs : List Weighted) → weighted_sum f (ps ++ qs) ≡ weighted_sum f ps + weighted_sum f qs
weighted_sum-append f [] qs = omega arith
weighted_sum-append f (p ∷ ps) qs = omega (arith, weighted_sum-append f ps qs)

module _ (w : ℕ) (a : NodeId) (q : ℕ) where
  pub with_weight-sum : (f : ℕ → ℕ) (ps : List Weighted)
      → SameWord w (weighted_sum f (with_weight w a q ps)) (weighted_sum f ps + q * f a.0)
  with_weight-sum f [] = same_number w _ _ (omega arith)
  with_weight-sum f (p ∷ ps) =
      let S : ℕ = weighted_sum f ps in
      elim (cases_Bool (a.0 == p.0.0)) [
        | inl same ↦
            let number : a.0 ≡ p.0.0 = eqb-true a.0 p.0.0 same in
            let low : SameWord w (plus w p.1 q * f p.0.0) ((p.1 + q) * f p.0.0) =
            same_times w (plus w p.1 q) (p.1 + q) (f p.0.0) (f p.0.0) (same_low w (p.1 + q)) refl in
            rw (same, number)
            (same_add w (plus w p.1 q * f p.0.0) ((p.1 + q) * f p.0.0) S S low refl
            ∙ same_number w ((p.1 + q) * f p.0.0 + S) (p.1 * f p.0.0 + S + q * f p.0.0) (omega arith))
        | inr other ↦ elim (cases_Bool (nat_lt a.0 p.0.0)) [
          | inl lower ↦ rw (other, lower) (same_number w (q * f a.0 + (p.1 * f p.0.0 + S)) (p.1 * f p.0.0 + S + q * f a.0) (omega arith))
          | inr higher ↦
              rw (other, higher)
              (same_add w (p.1 * f p.0.0) (p.1 * f p.0.0) (weighted_sum f (with_weight w a q ps)) (S + q * f a.0) refl (with_weight-sum f ps)
              ∙ same_number w (p.1 * f p.0.0 + (S + q * f a.0)) (p.1 * f p.0.0 + S + q * f a.0) (omega arith))
        ]
      ]

  -- what holds of the parts with every weight below 2^w holds of all
  pub with_weight-all : (P : Weighted → Type 0) → ((r : ℕ) → r < 2 ^ w → P (a, r)) → ((p : Weighted) (r : ℕ) → P p → r < 2 ^ w → P (p.0, r))
      → q < 2 ^ w → (ps : List Weighted) → AllByRecursion P ps → AllByRecursion P (with_weight w a q ps)
  with_weight-all P here same below [] h = (here q below, tt)
  with_weight-all P here same below (p ∷ ps) h = elim (cases_Bool (a.0 == p.0.0)) [
    | inl e ↦ rw e (same p (plus w p.1 q) h.0 (mod_below (p.1 + q) (2 ^ w) (pow_pos w)), h.1)
    | inr other ↦ elim (cases_Bool (nat_lt a.0 p.0.0)) [
      | inl lower ↦ rw (other, lower) (here q below, (h.0, h.1))
      | inr higher ↦ rw (other, higher) (h.0, with_weight-all P here same below ps h.1)
    ]
  ]

  pub with_weight-words : q < 2 ^ w → (ps : List Weighted) → AllByRecursion (λ p. p.1 < 2 ^ w) ps → AllByRecursion (λ p. p.1 < 2 ^ w) (with_weight w a q ps)
  with_weight-words below ps h = with_weight-all (λ p. p.1 < 2 ^ w) (λ r k. k) (λ p r k l. l) below ps h

  -- a place that a and its weight do not go to is passed
  pub with_weight-passed : (ps : List Weighted) (at : ℕ) (p : Weighted) → at < length ps → get_or ps at p ≡ p
      → (a.0 == p.0.0) ≡ false → p.0.0 ≤ a.0
      → take at ps ++ with_weight w a q (drop at ps) ≡ take (at + 1) ps ++ with_weight w a q (drop (at + 1) ps)
  with_weight-passed ps at p inside is other above =
      let higher : nat_lt a.0 p.0.0 ≡ false = le-ltb a.0 p.0.0 above in
      let here : drop at ps ≡ p ∷ drop (at + 1) ps = rw add-one (drop-cons ps at p inside ∙ ap (λ r. r ∷ drop (suc at) ps) is) in
      let front : take (at + 1) ps ≡ take at ps ++ p ∷ [] = take_more ps at p inside ∙ ap (λ r. take at ps ++ r ∷ []) is in
      rw (here, other, higher, front) (sym (append_assoc (take at ps) (p ∷ []) (with_weight w a q (drop (at + 1) ps))))

  pub with_weight-same : (ps : List Weighted) (at : ℕ) (p : Weighted) → at < length ps → get_or ps at p ≡ p
      → (a.0 == p.0.0) ≡ true
      → take at ps ++ with_weight w a q (drop at ps) ≡ set ps at (p.0, plus w p.1 q)
  with_weight-same ps at p inside is same =
      let here : drop at ps ≡ p ∷ drop (at + 1) ps = rw add-one (drop-cons ps at p inside ∙ ap (λ r. r ∷ drop (suc at) ps) is) in
      rw (here, same, add-one) (sym (set_split ps at (p.0, plus w p.1 q) inside))

  pub with_weight-before : (ps : List Weighted) (at : ℕ) (p : Weighted) → at < length ps → get_or ps at p ≡ p
      → (a.0 == p.0.0) ≡ false → a.0 < p.0.0
      → take at ps ++ with_weight w a q (drop at ps) ≡ take at ps ++ (a, q) ∷ drop at ps
  with_weight-before ps at p inside is other below =
      let lower : nat_lt a.0 p.0.0 ≡ true = lt-ltb a.0 p.0.0 below in
      let here : drop at ps ≡ p ∷ drop (at + 1) ps = rw add-one (drop-cons ps at p inside ∙ ap (λ r. r ∷ drop (suc at) ps) is) in
      rw (here, other, lower) refl

  pub with_weight-last : (ps : List Weighted) → take (length ps) ps ++ with_weight w a q (drop (length ps) ps) ≡ ps ++ (a, q) ∷ []
  with_weight-last ps = rw (drop-length ps, take-length ps) refl

  pub with_weight-top : (ps : List Weighted) (end : ℕ) → a.0 < end → top_of ps ≤ end → top_of (with_weight w a q ps) ≤ end
  with_weight-top [] end here h = omega arith
  with_weight-top (p ∷ ps) end here h = elim (cases_Bool (a.0 == p.0.0)) [
    | inl same ↦ rw same h
    | inr other ↦ elim (cases_Bool (nat_lt a.0 p.0.0)) [
      | inl lower ↦ rw (other, lower) (omega arith)
      | inr higher ↦
          let rest : top_of (with_weight w a q ps) ≤ end = with_weight-top ps end here (omega arith) in
          rw (other, higher) (omega arith)
    ]
  ]

  pub with_weight-rising : (low : ℕ) (ps : List Weighted) → low ≤ a.0 → AreRising low ps → AreRising low (with_weight w a q ps)
  with_weight-rising low [] here h = (here, tt)
  with_weight-rising low (p ∷ ps) here h = elim (cases_Bool (a.0 == p.0.0)) [
    | inl same ↦ rw same h
    | inr other ↦ elim (cases_Bool (nat_lt a.0 p.0.0)) [
      | inl lower ↦
          let below : a.0 < p.0.0 = ltb-true a.0 p.0.0 lower in
          rw (other, lower) (here, (omega arith, h.1))
      | inr higher ↦
          let above : p.0.0 ≤ a.0 = ltb-false a.0 p.0.0 higher in
          let apart : a.0 ≡ p.0.0 → ⊥ = eqb-false a.0 p.0.0 other in
          rw (other, higher) (h.0, with_weight-rising (p.0.0 + 1) ps (next p.0.0 a.0 above apart) h.1)
    ]
  ]
    where
      next : (m n : ℕ) → m ≤ n → (n ≡ m → ⊥) → m + 1 ≤ n
      next m n h k = omega arith

-- the last of nodes by rising numbers
pub rising_last : (low : ℕ) (ps : List Weighted) (p : Weighted) → AreRising low (ps ++ p ∷ [])
    → (low ≤ p.0.0) × (top_of ps ≤ p.0.0) × AreRising low ps
rising_last low [] p h = (h.0, omega arith, tt)
rising_last low (r ∷ ps) p h =
    let rest : (r.0.0 + 1 ≤ p.0.0) × (top_of ps ≤ p.0.0) × AreRising (r.0.0 + 1) ps = rising_last (r.0.0 + 1) ps p h.1 in
    (omega arith, omega arith, (h.0, rest.2))

-- one more node behind those by falling numbers
pub falling_push : (end : ℕ) (ps : List Weighted) (p : Weighted) → AreFalling end ps → AllByRecursion (λ r. p.0.0 + 1 ≤ r.0.0) ps → p.0.0 < end
    → AreFalling end (ps ++ p ∷ [])
falling_push end [] p h above below = (below, tt)
falling_push end (r ∷ ps) p h above below = (h.0, falling_push r.0.0 ps p h.1 above.1 (omega arith))

-- facts of all parts: of a weaker kind, and with one more part
pub all_weaker : (P Q : Weighted → Type 0) → ((p : Weighted) → P p → Q p) → (ps : List Weighted) → AllByRecursion P ps → AllByRecursion Q ps
all_weaker P Q f [] h = tt
all_weaker P Q f (p ∷ ps) h = (f p h.0, all_weaker P Q f ps h.1)

pub all_push : (P : Weighted → Type 0) → (ps : List Weighted) (p : Weighted) → AllByRecursion P ps → P p → AllByRecursion P (ps ++ p ∷ [])
all_push P [] p h k = (k, tt)
all_push P (r ∷ ps) p h k = (h.0, all_push P ps p h.1 k)

pub all_before : (P : Weighted → Type 0) → (ps : List Weighted) (p : Weighted) → AllByRecursion P (ps ++ p ∷ []) → AllByRecursion P ps × P p
all_before P [] p h = (tt, h.0)
all_before P (r ∷ ps) p h = let rest : AllByRecursion P ps × P p = all_before P ps p h.1 in ((h.0, rest.0), rest.1)

pub all_at : (P : Weighted → Type 0) → (ps : List Weighted) (at : ℕ) (d : Weighted) → at < length ps → AllByRecursion P ps → P (get_or ps at d)
all_at P [] at d b h = absurd (omega arith)
all_at P (p ∷ ps) zero d b h = h.0
all_at P (p ∷ ps) (suc at) d b h = all_at P ps at d (omega arith) h.1

pub top_of-append : (ps : List Weighted) (p : Weighted) → top_of (ps ++ p ∷ []) ≡ max (top_of ps) (p.0.0 + 1)
top_of-append [] p = omega arith
top_of-append (r ∷ ps) p = omega (arith, top_of-append ps p)
