-- Exponents of powers of two, one step at a time.
use Rattle.std.proofs.Common.{◌≡◌, ℕ, zero, suc, ◌-◌, ◌*◌, ◌%◌, ◌^◌, ◌<◌, ◌≤◌, ◌==◌, Some, None, refl, sym, ◌∙◌, ap, arith, if◌then◌else◌}
use Rattle.std.proofs.lemmas.Bool.{eq-eqb, ne_eqb}
use Rattle.std.proofs.Math.Nat.{mod-eq_of_lt}
use Rattle.insn_semantics.proofs.WordLaws.{power_grows}
use Rattle.address_nodes.specs.Multiples.{exponent}

-- a bit of 64
bit_word : (n : ℕ) → 0 < n → n ≤ 64 → 1 * 2 ^ (n - 1) % 2 ^ 64 ≡ 2 ^ (n - 1)
bit_word n some most =
    let low : 2 ^ (n - 1) ≤ 2 ^ 63 = power_grows (n - 1) 63 (omega arith) in
    let once : 1 * 2 ^ (n - 1) ≡ 2 ^ (n - 1) = omega arith in
    ap (λ m. m % 2 ^ 64) once ∙ mod-eq_of_lt (omega arith)

exponent_step : (n q : ℕ) → 0 < n → exponent n q ≡ (if q == 2 ^ (n - 1) then Some (n - 1) else exponent (n - 1) q)
unfolding exponent
exponent_step zero q h = absurd (omega arith)
exponent_step (suc n) q h = let e : suc n - 1 ≡ n = omega arith in rw e refl

pub exponent_found : (n q : ℕ) → 0 < n → n ≤ 64 → q ≡ 1 * 2 ^ (n - 1) % 2 ^ 64 → exponent n q ≡ Some (n - 1)
exponent_found n q some most is =
    exponent_step n q some ∙ ap (λ t. if t then Some (n - 1) else exponent (n - 1) q) (eq-eqb q (2 ^ (n - 1)) (is ∙ bit_word n some most))

pub exponent_passed : (n q : ℕ) → 0 < n → n ≤ 64 → (q ≡ 1 * 2 ^ (n - 1) % 2 ^ 64 → ⊥) → exponent n q ≡ exponent (n - 1) q
exponent_passed n q some most other =
    exponent_step n q some
    ∙ ap (λ t. if t then Some (n - 1) else exponent (n - 1) q) (ne_eqb q (2 ^ (n - 1)) (λ e. other (e ∙ sym (bit_word n some most))))

pub exponent_none : (n q : ℕ) → n ≤ 0 → exponent n q ≡ None
unfolding exponent
exponent_none zero q h = refl
exponent_none (suc n) q h = absurd (omega arith)
