-- Totals after the coefficients of atoms are added one by one.
use Rattle.std.proofs.Common.{◌≡◌, ◌≢◌, ℕ, zero, suc, ◌+◌, ◌*◌, ◌%◌, ◌^◌, ◌<◌, ◌≤◌, List, [], ◌∷◌, refl, sym, ◌∙◌, ap, subst, arith, inl, inr, length, set}
use Rattle.std.specs.Prelude.{slice_index}
use Rattle.std.proofs.lemmas.Bool.{cases_eq, eq-eqb, ne_eqb}
use Rattle.node_forms.proofs.Residues.{same_add, same_low}
use Rattle.linear_forms.proofs.Powers.{same_narrow}
use Rattle.std.proofs.lemmas.List.{get_or-set_other, get_or-set_same}
use Rattle.node_values.specs.declared.node.NodeId.{NodeId}
use Rattle.node_forms.specs.Sums.{AreFalling, SameWord, listed_coefficient}
use Rattle.form_sums.specs.Made.{AreBelow}

-- what falls below a number falls below a greater one
pub falling_below : (m n : ℕ) (ps : List (NodeId × ℕ)) → m ≤ n → AreFalling m ps → AreFalling n ps
falling_below m n [] b h = h
falling_below m n (p ∷ ps) b h = let first : p.0.0 < m = h.0 in (omega arith, h.1)

-- an atom at or above the first is not among them
none_above : (n atom : ℕ) (ps : List (NodeId × ℕ)) → n ≤ atom → AreFalling n ps → listed_coefficient ps atom ≡ 0
none_above n atom [] b h = refl
none_above n atom (p ∷ ps) b h =
    let first : p.0.0 < n = h.0 in
    rw (ne_eqb atom p.0.0 (λ e. omega arith)) (none_above p.0.0 atom ps (omega arith) h.1)

-- so the first has its own coefficient, and each other one that of the rest
first_coefficient : (n : ℕ) (p : NodeId × ℕ) (ps : List (NodeId × ℕ)) → AreFalling n (p ∷ ps)
    → (listed_coefficient (p ∷ ps) p.0.0 ≡ p.1) × (listed_coefficient ps p.0.0 ≡ 0)
first_coefficient n p ps h = (rw (eq-eqb p.0.0 p.0.0 refl) refl, none_above p.0.0 p.0.0 ps (omega arith) h.1)

other_coefficient : (p : NodeId × ℕ) (ps : List (NodeId × ℕ)) (atom : ℕ) → atom ≢ p.0.0
    → listed_coefficient (p ∷ ps) atom ≡ listed_coefficient ps atom
other_coefficient p ps atom other = rw (ne_eqb atom p.0.0 other) refl

-- one addition of k times the first atom, in words of 64 bits and then of w
one_added : (w x k c rest : ℕ) → w ≤ 64 → rest ≡ 0
    → SameWord w ((x + k * c % 2 ^ 64) % 2 ^ w + k * rest) (x + k * c)
one_added w x k c rest b none =
    let nothing : k * rest ≡ 0 = ap (λ r. k * r) none ∙ omega arith in
    rw nothing (rw (let e : (x + k * c % 2 ^ 64) % 2 ^ w + 0 ≡ (x + k * c % 2 ^ 64) % 2 ^ w = omega arith in e)
    (same_low w (x + k * c % 2 ^ 64) ∙ same_add w x x (k * c % 2 ^ 64) (k * c) refl (same_narrow 64 w (k * c % 2 ^ 64) (k * c) b (same_low 64 (k * c)))))

-- the totals after the first atom, with the rest, are those before with all
pub one_step : (w k n : ℕ) (before after : List ℕ) (p : NodeId × ℕ) (ps : List (NodeId × ℕ)) → w ≤ 64 → AreFalling n (p ∷ ps)
    → n ≤ length before → after ≡ set before p.0.0 ((slice_index before p.0.0 + k * p.1 % 2 ^ 64) % 2 ^ w)
    → (a : ℕ) → SameWord w (slice_index after a + k * listed_coefficient ps a) (slice_index before a + k * listed_coefficient (p ∷ ps) a)
one_step w k n before after p ps b falling room is a = elim (cases_eq a p.0.0) [
  | inl same ↦ subst At (sym same) here
  | inr other ↦
      let kept : slice_index after a ≡ slice_index before a =
      ap (λ (t : List ℕ). slice_index t a) is ∙ get_or-set_other before p.0.0 a new 0 other in
      ap (λ (t : ℕ). t % 2 ^ w) (ap (λ (t : ℕ). t + k * listed_coefficient ps a) kept
      ∙ ap (λ (t : ℕ). slice_index before a + k * t) (sym (other_coefficient p ps a other)))
]
  where
    new : ℕ
    new = (slice_index before p.0.0 + k * p.1 % 2 ^ 64) % 2 ^ w

    At : ℕ → Type 0
    At x = SameWord w (slice_index after x + k * listed_coefficient ps x) (slice_index before x + k * listed_coefficient (p ∷ ps) x)

    here : At p.0.0
    here =
        let own = first_coefficient n p ps falling in
        let inside : p.0.0 < length before = let first : p.0.0 < n = falling.0 in omega arith in
        let total : slice_index after p.0.0 ≡ new = ap (λ (t : List ℕ). slice_index t p.0.0) is ∙ get_or-set_same before p.0.0 new 0 inside in
        ap (λ (t : ℕ). (t + k * listed_coefficient ps p.0.0) % 2 ^ w) total
        ∙ one_added w (slice_index before p.0.0) k p.1 (listed_coefficient ps p.0.0) b own.1
        ∙ ap (λ (t : ℕ). (slice_index before p.0.0 + k * t) % 2 ^ w) (sym own.0)

-- and they stay below 2^w
pub still_below : (w v i : ℕ) (ts : List ℕ) → v < 2 ^ w → AreBelow w ts → AreBelow w (set ts i v)
still_below w v i [] h below a = below a
still_below w v zero (t ∷ ts) h below zero = h
still_below w v zero (t ∷ ts) h below (suc a) = below (suc a)
still_below w v (suc i) (t ∷ ts) h below zero = below zero
still_below w v (suc i) (t ∷ ts) h below (suc a) = still_below w v i ts h (λ c. below (suc c)) a
