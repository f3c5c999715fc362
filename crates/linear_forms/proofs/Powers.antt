-- Words modulo powers of two: odd numbers, multiples of a power, and the multiple that clears a word.
use Rattle.std.proofs.Common.{◌≡◌, ℕ, suc, ◌+◌, ◌-◌, ◌*◌, ◌/◌, ◌%◌, ◌^◌, ◌<◌, ◌≤◌, refl, sym, ◌∙◌, ap, arith}
use Rattle.std.proofs.lemmas.Nat.{mod-pow-add, pow_pos}
use Rattle.std.proofs.Math.Nat.{add-mul-mod_self_left, div-add-mod, mod-eq_of_lt, zero-mod}
use Rattle.std.proofs.Math.Pow.{mod-mod-pow}
use Rattle.node_forms.specs.Sums.{SameWord}
use Rattle.node_forms.proofs.Residues.{same_add, same_low, same_number, same_times}

-- the low w bits of the low v bits
low_of_low : (v w n : ℕ) → w ≤ v → n % 2 ^ v % 2 ^ w ≡ n % 2 ^ w
low_of_low v w n h =
    let e : (v - w) + w ≡ v = omega arith in
    ap (λ k. n % 2 ^ k % 2 ^ w) (sym e) ∙ mod-mod-pow n (v - w) w

-- to be 0 modulo 2^w, in two ways
pub zero_of : (w a : ℕ) → a % 2 ^ w ≡ 0 → SameWord w a 0
zero_of w a h = h ∙ sym (zero-mod (2 ^ w))

pub of_zero : (w a : ℕ) → SameWord w a 0 → a % 2 ^ w ≡ 0
of_zero w a h = h ∙ zero-mod (2 ^ w)

-- the same modulo 2^v is the same modulo a lower power
pub same_narrow : (v w a b : ℕ) → w ≤ v → SameWord v a b → SameWord w a b
same_narrow v w a b h e = sym (low_of_low v w a h) ∙ ap (λ n. n % 2 ^ w) e ∙ low_of_low v w b h

double : (k : ℕ) → 2 ^ suc k ≡ 2 * 2 ^ k
double k = grind arith

square_of : (P z y : ℕ) → y ≡ 2 * P * z + 1 → y * y ≡ 1 + 2 * (2 * P) * (P * z * z + z)
square_of P z y h = ap (λ n. n * n) h ∙ omega arith

-- a number that is 1 modulo 2^k and more has its square nearer to 1
pub square_one : (k y : ℕ) → SameWord (suc k) y 1 → SameWord (suc (suc k)) (y * y) 1
square_one k y h =
    let P : ℕ = 2 ^ k in
    let z : ℕ = y / 2 ^ suc k in
    let once : 2 ^ suc k ≡ 2 * 2 ^ k = double k in
    let twice : 2 ^ suc (suc k) ≡ 2 * (2 * 2 ^ k) = double (suc k) ∙ ap (λ n. 2 * n) once in
    let some : 0 < 2 ^ k = pow_pos k in
    let one : 1 % 2 ^ suc k ≡ 1 = mod-eq_of_lt (rw once (omega arith)) in
    let parts : 2 ^ suc k * (y / 2 ^ suc k) + y % 2 ^ suc k ≡ y = div-add-mod y (2 ^ suc k) in
    let y_is : y ≡ 2 * P * z + 1 = omega (arith, parts, one, h, once, ap (λ n. n * z) once) in
    let square : y * y ≡ 1 + 2 * (2 * P) * (P * z * z + z) = square_of P z y y_is in
    ap (λ n. n % 2 ^ suc (suc k)) square
    ∙ ap (λ n. (1 + n * (P * z * z + z)) % 2 ^ suc (suc k)) (sym twice)
    ∙ add-mul-mod_self_left 1 (2 ^ suc (suc k)) (P * z * z + z)

-- an odd number is 1 modulo 2
pub odd_one : (y : ℕ) → y % 2 ≡ 1 → SameWord 1 y 1
odd_one y h = h

module _ (power x : ℕ) where
  -- a multiple of 2^power whose next bit is 0 is one of 2^(power + 1)
  pub even_multiple : x % 2 ^ power ≡ 0 → x / 2 ^ power % 2 ≡ 0 → x % 2 ^ (power + 1) ≡ 0
  even_multiple h even =
      let e : 1 + power ≡ power + 1 = omega arith in
      ap (λ k. x % 2 ^ k) (sym e) ∙ mod-pow-add x 1 power ∙ omega (arith, h, ap (λ n. n * 2 ^ power) even)

  -- a multiple, by its factor
  pub multiple_is : x % 2 ^ power ≡ 0 → x ≡ 2 ^ power * (x / 2 ^ power)
  multiple_is h =
      let parts : 2 ^ power * (x / 2 ^ power) + x % 2 ^ power ≡ x = div-add-mod x (2 ^ power) in
      omega (arith, parts, h)

-- P times m and g times P times u are 0 together, where v is u's inverse and g is less m times v
pub clears : (w P m u v g : ℕ) → SameWord w (v * u) 1 → SameWord w (g + m * v) 0 → SameWord w (P * m + g * (P * u)) 0
clears w P m u v g inverse less =
    let one : SameWord w (P * m * (v * u)) (P * m * 1) = same_times w (P * m) (P * m) (v * u) 1 refl inverse in
    let here : SameWord w (P * m + g * (P * u)) (P * m * (v * u) + g * (P * u)) =
    same_add w (P * m) (P * m * (v * u)) (g * (P * u)) (g * (P * u)) (same_number w (P * m) (P * m * 1) (omega arith) ∙ sym one) refl in
    let joined : SameWord w (P * u * (g + m * v)) (P * u * 0) = same_times w (P * u) (P * u) (g + m * v) 0 refl less in
    here ∙ same_number w (P * m * (v * u) + g * (P * u)) (P * u * (g + m * v)) (omega arith) ∙ joined ∙ same_number w (P * u * 0) 0 (omega arith)

-- the multiple of p that makes a word x 0, where both have 2^power as a factor, and p no higher power
pub cleared_word : (power x p v g : ℕ) → x % 2 ^ power ≡ 0 → p % 2 ^ power ≡ 0 → SameWord 64 (v * (p / 2 ^ power)) 1
    → (g + x / 2 ^ power * v % 2 ^ 64) % 2 ^ 64 ≡ 0 → SameWord 64 (x + g * p) 0
cleared_word power x p v g multiple pivot inverse less =
    let m : ℕ = x / 2 ^ power in
    let u : ℕ = p / 2 ^ power in
    let low : SameWord 64 (g + m * v) (g + m * v % 2 ^ 64) = same_add 64 g g (m * v) (m * v % 2 ^ 64) refl (sym (same_low 64 (m * v))) in
    let x_is : x ≡ 2 ^ power * (x / 2 ^ power) = multiple_is power x multiple in
    let p_is : p ≡ 2 ^ power * (p / 2 ^ power) = multiple_is power p pivot in
    same_number 64 (x + g * p) (2 ^ power * m + g * (2 ^ power * u)) (λ i. x_is i + g * p_is i)
    ∙ clears 64 (2 ^ power) m u v g inverse (low ∙ less)
