-- Sums and products of numbers that are the same modulo 2^w.
use Rattle.std.proofs.Common.{◌≡◌, ℕ, zero, suc, ◌+◌, ◌-◌, ◌*◌, ◌%◌, ◌^◌, ◌<◌, refl, sym, ◌∙◌, ap, arith}
use Rattle.std.proofs.lemmas.Nat.{mul-mod, pow_pos}
use Rattle.std.proofs.Math.Nat.{add-mod, mod-mod, mod-eq_of_lt, add-mul-mod_self_left}
use Rattle.node_forms.specs.Sums.{SameWord}

whole : (n c m : ℕ) → 0 < m → n + c + c * (m - 1) ≡ n + m * c
whole n c zero h = absurd (omega arith)
whole n c (suc m) h = let e : suc m - 1 ≡ m = omega arith in rw e (omega arith)

module _ (w : ℕ) where
  pub same_add : (a b c d : ℕ) → SameWord w a b → SameWord w c d → SameWord w (a + c) (b + d)
  same_add a b c d h k = add-mod a c (2 ^ w) ∙ (λ i. (h i + k i) % 2 ^ w) ∙ sym (add-mod b d (2 ^ w))

  pub same_times : (a b c d : ℕ) → SameWord w a b → SameWord w c d → SameWord w (a * c) (b * d)
  same_times a b c d h k = mul-mod a c (2 ^ w) ∙ (λ i. (h i * k i) % 2 ^ w) ∙ sym (mul-mod b d (2 ^ w))

  pub same_low : (a : ℕ) → SameWord w (a % 2 ^ w) a
  same_low a = mod-mod a (2 ^ w)

  pub same_number : (a b : ℕ) → a ≡ b → SameWord w a b
  same_number a b h = ap (λ n. n % 2 ^ w) h

  -- numbers below 2^w that are the same modulo 2^w are equal
  pub same_below : (a b : ℕ) → a < 2 ^ w → b < 2 ^ w → SameWord w a b → a ≡ b
  same_below a b h k e = sym (mod-eq_of_lt h) ∙ e ∙ mod-eq_of_lt k

  -- what was added to both sides can be dropped
  pub same_drop : (a b c : ℕ) → SameWord w (a + c) (b + c) → SameWord w a b
  same_drop a b c h =
      let both : SameWord w (a + c + c * (2 ^ w - 1)) (b + c + c * (2 ^ w - 1)) = same_add (a + c) (b + c) (c * (2 ^ w - 1)) (c * (2 ^ w - 1)) h refl in
      sym (around a c) ∙ both ∙ around b c
    where
      around : (n c : ℕ) → SameWord w (n + c + c * (2 ^ w - 1)) n
      around n c = ap (λ k. k % 2 ^ w) (whole n c (2 ^ w) (pow_pos w)) ∙ add-mul-mod_self_left n (2 ^ w) c
