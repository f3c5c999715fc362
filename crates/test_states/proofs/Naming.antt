-- Bytes that are named one after another.
use Rattle.std.proofs.Common.{◌≡◌, ◌≢◌, ◌⊎◌, inl, inr, ℕ, ◌+◌, ◌-◌, ◌<◌, ◌≤◌, ◌==◌, true, false, List, [], ◌∷◌, ◌++◌, length, get_or, set, slice_index, take, refl, sym, ◌∙◌, ap, if◌then◌else◌, get_or-set_other, get_or-set_same, arith}
use Rattle.std.specs.List.{list_any}
use Rattle.std.proofs.Math.ListN.{length-set}
use Rattle.std.proofs.lemmas.Bool.{true≢false}
use Rattle.std.proofs.lemmas.Bool.Decides.{eqb_tells}
use Rattle.std.proofs.lemmas.List.{take_more}
use Rattle.test_states.specs.Naming.{named_or}

-- one pair more at the end goes before all others
pub named_or-append : (byte : ℕ) (named : List (ℕ × ℕ)) (last : ℕ × ℕ) (at : ℕ)
    → named_or byte (named ++ last ∷ []) at ≡ (if last.0 == at then last.1 else named_or byte named at)
named_or-append byte [] last at = refl
named_or-append byte (first ∷ more) last at = named_or-append (if first.0 == at then first.1 else byte) more last at

-- the bytes of a piece from an address on, each as pairs name it
pub record AreNamed (named : List (ℕ × ℕ)) (from n : ℕ) (bytes : List ℕ) : Type 0 where
  pub len : length bytes ≡ n
  pub each : (k : ℕ) → k < n → slice_index bytes k ≡ named_or 0 named (from + k)

named_last : (named : List (ℕ × ℕ)) (i : ℕ) (d : ℕ × ℕ) (at : ℕ) → i < length named
    → named_or 0 (take (i + 1) named) at ≡ (if (get_or named i d).0 == at then (get_or named i d).1 else named_or 0 (take i named) at)
named_last named i d at below = ap (λ ps. named_or 0 ps at) (take_more named i d below) ∙ named_or-append 0 (take i named) (get_or named i d) at

set_at : (bytes : List ℕ) (i k v : ℕ) → i ≡ k → k < length bytes → slice_index (set bytes i v) k ≡ v
set_at bytes i k v same below = rw same (get_or-set_same bytes k v 0 below)

-- a pair whose address lies in the piece
pub names_inside : (named : List (ℕ × ℕ)) (i from len : ℕ) (bytes : List ℕ) (d : ℕ × ℕ) → AreNamed (take i named) from len bytes → i < length named
    → from ≤ (get_or named i d).0 → (get_or named i d).0 - from < len
    → AreNamed (take (i + 1) named) from len (set bytes ((get_or named i d).0 - from) (get_or named i d).1)
names_inside named i from len bytes d are below low high = record {
  len = length-set bytes ((get_or named i d).0 - from) (get_or named i d).1 ∙ are.len;
  each = λ k inside. step k inside (eqb_tells (get_or named i d).0 (from + k)) ∙ sym (named_last named i d (from + k) below);
}
  where
    step : (k : ℕ) → k < len → ((((get_or named i d).0 == (from + k)) ≡ true) × ((get_or named i d).0 ≡ from + k))
        ⊎ ((((get_or named i d).0 == (from + k)) ≡ false) × ((get_or named i d).0 ≢ from + k))
        → slice_index (set bytes ((get_or named i d).0 - from) (get_or named i d).1) k
        ≡ (if (get_or named i d).0 == (from + k) then (get_or named i d).1 else named_or 0 (take i named) (from + k))
    step k inside (inl same) = rw same.0 (set_at bytes ((get_or named i d).0 - from) k (get_or named i d).1 (omega (arith, same.1)) (omega (arith, are.len)))
    step k inside (inr other) = rw other.0
        (get_or-set_other bytes ((get_or named i d).0 - from) k (get_or named i d).1 0 (λ e. other.1 (omega (arith, e))) ∙ are.each k inside)

-- a pair whose address lies elsewhere
pub names_outside : (named : List (ℕ × ℕ)) (i from len : ℕ) (bytes : List ℕ) (d : ℕ × ℕ) → AreNamed (take i named) from len bytes → i < length named
    → ((k : ℕ) → k < len → (get_or named i d).0 ≡ from + k → ⊥) → AreNamed (take (i + 1) named) from len bytes
names_outside named i from len bytes d are below elsewhere = record {
  len = are.len;
  each = λ k inside. are.each k inside ∙ sym (named_last named i d (from + k) below ∙ kept k inside (eqb_tells (get_or named i d).0 (from + k)));
}
  where
    kept : (k : ℕ) → k < len → ((((get_or named i d).0 == (from + k)) ≡ true) × ((get_or named i d).0 ≡ from + k))
        ⊎ ((((get_or named i d).0 == (from + k)) ≡ false) × ((get_or named i d).0 ≢ from + k))
        → (if (get_or named i d).0 == (from + k) then (get_or named i d).1 else named_or 0 (take i named) (from + k)) ≡ named_or 0 (take i named) (from + k)
    kept k inside (inl same) = absurd (elsewhere k inside same.1)
    kept k inside (inr other) = rw other.0 refl

-- a byte that is not named is as it was
pub unnamed : (byte : ℕ) (named : List (ℕ × ℕ)) (at : ℕ) → list_any (λ pair. pair.0 == at) named ≡ false → named_or byte named at ≡ byte
unnamed byte [] at none = refl
unnamed byte (pair ∷ more) at none = elim (eqb_tells pair.0 at) [
  | inl same ↦ absurd (true≢false (sym (rw same.0 refl) ∙ none))
  | inr other ↦ rw other.0 (unnamed byte more at (rw other.0 at none))
]
