-- The number of a product, stage by stage.
use Rattle.std.proofs.Common.{◌≡◌, ℕ, zero, suc, ◌+◌, ◌*◌, ◌/◌, ◌%◌, ◌^◌, ◌&&◌, Bool, true, false, refl, sym, ◌∙◌, ap, arith}
use Rattle.std.proofs.Math.Nat.{add-mul-mod_self_left, mod-eq_of_lt}
use Rattle.std.proofs.lemmas.Nat.{pow-add}
use native.Mathlib.Nat.{add-mod}
use Rattle.insn_semantics.specs.Words as words
use Rattle.clause_words.specs.Numbers.{number_of}
use Rattle.clause_words.proofs.Numbers.{number_below, one_bit, sum_bit, sum_number}

-- the bits of the sum after stage k, from bit k on
abbrev pub part : (ℕ → Bool) → (ℕ → Bool) → ℕ → ℕ → Bool
part x y zero i = x i && y 0
part x y (suc k) i = sum_bit (λ j. part x y k (suc j)) (λ j. x j && y (suc k)) i

Same : ℕ → ℕ → ℕ → Type 0
Same m x y = x % m ≡ y % m

same_add : (m a b c d : ℕ) → Same m a b → Same m c d → Same m (a + c) (b + d)
unfolding Same
same_add m a b c d e f = add-mod a c m ∙ ap (λ (n : ℕ). (n + c % m) % m) e ∙ ap (λ (n : ℕ). (b % m + n) % m) f ∙ sym (add-mod b d m)

-- a multiple of a remainder
same_scaled : (p q x : ℕ) → Same (p * q) (p * (x % q)) (p * x)
unfolding Same
same_scaled p q x = sym (ap (λ (n : ℕ). n % (p * q)) (parts (x % q) (x / q) (omega arith)) ∙ add-mul-mod_self_left (p * (x % q)) (p * q) (x / q))
  where
    parts : (m d : ℕ) → x ≡ m + q * d → p * x ≡ p * m + p * q * d
    parts m d e = ap (λ (n : ℕ). p * n) e ∙ omega arith

-- a number of more bits
pub number_split : (f : ℕ → Bool) (n m : ℕ) → number_of f (n + m) ≡ number_of f n + 2 ^ n * number_of (λ k. f (n + k)) m
number_split f n zero = let e : n + 0 ≡ n = omega arith in ap (number_of f) e ∙ plain (number_of f n) (2 ^ n)
  where
    plain : (s p : ℕ) → s ≡ s + p * 0
    plain s p = omega arith
number_split f n (suc m) =
    let e : n + suc m ≡ suc (n + m) = omega arith in
    ap (number_of f) e
    ∙ deeper (number_of f (n + m)) (number_of f n) (number_of (λ k. f (n + k)) m) (words.bit (f (n + m))) (2 ^ n) (2 ^ m) (2 ^ (n + m))
    (number_split f n m) (pow-add 2 n m)
  where
    deeper : (s d t c p q o : ℕ) → s ≡ d + p * t → o ≡ p * q → s + o * c ≡ d + p * (t + q * c)
    deeper s d t c p q o e f = ap (λ (z : ℕ). s + z * c) f ∙ ap (λ (z : ℕ). z + p * q * c) e ∙ moved d t c p q
      where
        moved : (d t c p q : ℕ) → d + p * t + p * q * c ≡ d + p * (t + q * c)
        moved d t c p q = omega arith

number_low : (f : ℕ → Bool) (n : ℕ) → number_of f (suc n) ≡ words.bit (f 0) + 2 * number_of (λ k. f (suc k)) n
number_low f zero = omega arith
number_low f (suc n) = deeper (number_of f (suc n)) (number_of (λ k. f (suc k)) n) (words.bit (f 0)) (words.bit (f (suc n))) (2 ^ n) (number_low f n)
  where
    deeper : (s t b c p : ℕ) → s ≡ b + 2 * t → s + 2 ^ suc n * c ≡ b + 2 * (t + 2 ^ n * c)
    deeper s t b c p e = ap (λ (z : ℕ). z + 2 ^ suc n * c) e ∙ twice (2 ^ suc n) (2 ^ n) (omega arith)
      where
        twice : (o p : ℕ) → o ≡ 2 * p → b + 2 * t + o * c ≡ b + 2 * (t + p * c)
        twice o p f = ap (λ (z : ℕ). b + 2 * t + z * c) f ∙ moved p
          where
            moved : (p : ℕ) → b + 2 * t + 2 * p * c ≡ b + 2 * (t + p * c)
            moved p = omega arith

number_and : (f : ℕ → Bool) (b : Bool) (n : ℕ) → number_of (λ k. f k && b) n ≡ number_of f n * words.bit b
number_and f b zero = omega arith
number_and f b (suc n) = each (f n) b (number_of (λ k. f k && b) n) (number_of f n) (2 ^ n) (number_and f b n)
  where
    each : (c b : Bool) (s t p : ℕ) → s ≡ t * words.bit b → s + p * words.bit (c && b) ≡ (t + p * words.bit c) * words.bit b
    each true true s t p e = omega arith
    each true false s t p e = omega arith
    each false true s t p e = omega arith
    each false false s t p e = omega arith

-- one more stage
step : (p q d b s t nx z c big low : ℕ) → big ≡ nx + q * z → t ≡ nx * c
    → Same (2 * p * q) (d + p * (b + 2 * s)) (big * low)
    → Same (2 * p * q) (d + p * b + 2 * p * ((s + t) % q)) (big * (low + 2 * p * c))
unfolding Same
step p q d b s t nx z c big low split times so_far =
    same_add (2 * p * q) (d + p * b) (d + p * b) (2 * p * ((s + t) % q)) (2 * p * (s + t)) refl (same_scaled (2 * p) q (s + t))
    ∙ ap (λ (n : ℕ). n % (2 * p * q)) (regrouped t)
    ∙ same_add (2 * p * q) (d + p * (b + 2 * s)) (big * low) (2 * p * t) (2 * p * (big * c)) so_far
    (ap (λ (n : ℕ). 2 * p * n % (2 * p * q)) times ∙ sym (ap (λ (n : ℕ). 2 * p * (n * c) % (2 * p * q)) split ∙ high))
    ∙ ap (λ (n : ℕ). n % (2 * p * q)) (gathered big low)
  where
    regrouped : (t : ℕ) → d + p * b + 2 * p * (s + t) ≡ d + p * (b + 2 * s) + 2 * p * t
    regrouped t = omega arith

    gathered : (m n : ℕ) → m * n + 2 * p * (m * c) ≡ m * (n + 2 * p * c)
    gathered m n = omega arith

    spread : 2 * p * ((nx + q * z) * c) ≡ 2 * p * (nx * c) + 2 * p * q * (z * c)
    spread = omega arith

    high : 2 * p * ((nx + q * z) * c) % (2 * p * q) ≡ 2 * p * (nx * c) % (2 * p * q)
    high = ap (λ (n : ℕ). n % (2 * p * q)) spread ∙ add-mul-mod_self_left (2 * p * (nx * c)) (2 * p * q) (z * c)

module _ (x y : ℕ → Bool) where
  -- the bits that stay after k stages
  abbrev pub low_bits : ℕ → Bool
  low_bits j = part x y j 0

  stage_number : (k n : ℕ) → Same (2 ^ (k + n)) (number_of low_bits k + 2 ^ k * number_of (part x y k) n) (number_of x (k + n) * number_of y (suc k))
  unfolding Same
  stage_number zero n =
      let e : 0 + n ≡ n = omega arith in
      ap (λ (m : ℕ). m % 2 ^ (0 + n)) (first (number_of (part x y 0) n) (number_of x n) (words.bit (y 0)) (number_and x (y 0) n)
      ∙ ap (λ (m : ℕ). number_of x m * (0 + 2 ^ 0 * words.bit (y 0))) (sym e))
    where
      first : (s t c : ℕ) → s ≡ t * c → 0 + 2 ^ 0 * s ≡ t * (0 + 2 ^ 0 * c)
      first s t c e = ap (λ (m : ℕ). 0 + 2 ^ 0 * m) e ∙ one t c
        where
          one : (t c : ℕ) → 0 + 1 * (t * c) ≡ t * (0 + 1 * c)
          one t c = omega arith
  stage_number (suc k) n =
      let index : k + suc n ≡ suc k + n = omega arith in
      let double : 2 ^ suc k ≡ 2 * 2 ^ k = omega arith in
      let whole : 2 ^ (suc k + n) ≡ 2 * 2 ^ k * 2 ^ n = pow-add 2 (suc k) n ∙ ap (λ (m : ℕ). m * 2 ^ n) double in
      let so_far : Same (2 ^ (suc k + n)) (number_of low_bits k + 2 ^ k * number_of (part x y k) (suc n)) (number_of x (suc k + n) * number_of y (suc k)) =
      rw index at (stage_number k (suc n)) in
      let at : Same (2 * 2 ^ k * 2 ^ n) (number_of low_bits k + 2 ^ k * (words.bit (part x y k 0) + 2 * number_of (λ j. part x y k (suc j)) n))
      (number_of x (suc k + n) * number_of y (suc k)) =
      rw (whole, number_low (part x y k) n) at so_far in
      let swapped : suc k + n ≡ n + suc k = omega arith in
      let split : number_of x (suc k + n) ≡ number_of x n + 2 ^ n * number_of (λ j. x (n + j)) (suc k) =
      ap (number_of x) swapped ∙ number_split x n (suc k) in
      let done : Same (2 * 2 ^ k * 2 ^ n) (number_of low_bits k + 2 ^ k * words.bit (part x y k 0)
      + 2 * 2 ^ k * ((number_of (λ j. part x y k (suc j)) n + number_of (λ j. x j && y (suc k)) n) % 2 ^ n))
      (number_of x (suc k + n) * (number_of y (suc k) + 2 * 2 ^ k * words.bit (y (suc k)))) =
      step (2 ^ k) (2 ^ n) (number_of low_bits k) (words.bit (part x y k 0)) (number_of (λ j. part x y k (suc j)) n) (number_of (λ j. x j && y (suc k)) n)
      (number_of x n) (number_of (λ j. x (n + j)) (suc k)) (words.bit (y (suc k))) (number_of x (suc k + n)) (number_of y (suc k))
      split (number_and x (y (suc k)) n) at in
      rw (whole, double, sum_number (λ j. part x y k (suc j)) (λ j. x j && y (suc k)) n) done

  -- the product, modulo 2^w
  pub product_number : (m : ℕ) → number_of low_bits (suc m) ≡ words.times (suc m) (number_of x (suc m)) (number_of y (suc m))
  unfolding Same
  product_number m =
      let size : m + 1 ≡ suc m = omega arith in
      let last : Same (2 ^ suc m) (number_of low_bits m + 2 ^ m * number_of (part x y m) 1) (number_of x (suc m) * number_of y (suc m)) =
      rw size at (stage_number m 1) in
      let one : number_of (part x y m) 1 ≡ words.bit (part x y m 0) = one_bit (part x y m) in
      sym (mod-eq_of_lt (number_below low_bits (suc m))) ∙ (rw one at last)
