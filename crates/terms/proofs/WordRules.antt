-- What the operators make of 0, of all ones, of equal words, of words in either order, and of cuts and joins.
use Rattle.std.proofs.Common.{◌≡◌, ℕ, ◌+◌, ◌-◌, ◌*◌, ◌/◌, ◌%◌, ◌^◌, ◌<◌, ◌≤◌, ◌==◌, refl, sym, ◌∙◌, ap, arith, div-one}
use Rattle.std.specs.Prelude.{bit_and}
use Rattle.std.proofs.lemmas.Bool.{cond_both, le-ltb}
use Rattle.std.proofs.lemmas.Nat.{and_mask, field_of, mod_low, mod-pow-add, pow-add, shr_high}
use Rattle.std.proofs.lemmas.Bool.Decides.{nat_tests}
use Rattle.std.proofs.Math.Nat.{add-mod_right, div-div-eq-div-mul, mod-eq_of_lt}
use Rattle.insn_semantics.specs.Words.{plus, minus, times, cut, concatenation, choice, equal, below, bit}
use Rattle.node_forms.proofs.ValueLaws.{low_of_low}

pub plus_zero : (w a : ℕ) → a < 2 ^ w → plus w a 0 ≡ a
plus_zero w a h = ap (λ n. n % 2 ^ w) (add_zero a) ∙ mod-eq_of_lt h
  where
    add_zero : (n : ℕ) → n + 0 ≡ n
    add_zero n = omega arith

pub plus_comm : (w a b : ℕ) → plus w a b ≡ plus w b a
plus_comm w a b = ap (λ n. n % 2 ^ w) (turned a b)
  where
    turned : (m n : ℕ) → m + n ≡ n + m
    turned m n = omega arith

pub times_comm : (w a b : ℕ) → times w a b ≡ times w b a
times_comm w a b = ap (λ n. n % 2 ^ w) (turned a b)
  where
    turned : (m n : ℕ) → m * n ≡ n * m
    turned m n = omega arith

pub minus_zero : (w a : ℕ) → a < 2 ^ w → minus w a 0 ≡ a
minus_zero w a h = ap (λ n. n % 2 ^ w) (whole a (2 ^ w)) ∙ add-mod_right a (2 ^ w) ∙ mod-eq_of_lt h
  where
    whole : (n m : ℕ) → n + (m - 0) ≡ n + m
    whole n m = omega arith

pub and_ones : (w a : ℕ) → a < 2 ^ w → bit_and a (2 ^ w - 1) ≡ a
and_ones w a h = and_mask a w ∙ mod-eq_of_lt h

pub equal_comm : (a b : ℕ) → equal a b ≡ equal b a
equal_comm a b = grind (arith, nat_tests)

pub below_self : (a : ℕ) → below a a ≡ 0
below_self a = ap bit (le-ltb a a (omega arith))

pub below_zero : (a : ℕ) → below a 0 ≡ 0
below_zero a = ap bit (le-ltb a 0 (omega arith))

pub choice_self : (c a : ℕ) → choice c a a ≡ a
choice_self c a = cond_both (c == 0) a a (λ n. n ≡ a) (λ h. refl) (λ h. refl)

-- a cut of a cut
pub cut_cut : (x j m k n : ℕ) → k + n ≤ m → cut (cut x j m) k n ≡ cut x (j + k) n
cut_cut x j m k n h =
    let whole : m - k + k ≡ m = omega arith in
    let first : x / 2 ^ j % 2 ^ m / 2 ^ k ≡ x / 2 ^ j / 2 ^ k % 2 ^ (m - k) = rw whole at (field_of (x / 2 ^ j) (m - k) k) in
    ap (λ y. y % 2 ^ n) first
    ∙ low_of_low n (m - k) (x / 2 ^ j / 2 ^ k) (omega arith)
    ∙ ap (λ y. y % 2 ^ n) (div-div-eq-div-mul x (2 ^ j) (2 ^ k) ∙ ap (λ p. x / p) (sym (pow-add 2 j k)))

-- a cut within the low part of a join, and one within the high part
pub cut_low : (w high low k n : ℕ) → low < 2 ^ w → k + n ≤ w → cut low k n ≡ cut (concatenation w high low) k n
cut_low w high low k n h order =
    let same : low % 2 ^ (n + k) ≡ concatenation w high low % 2 ^ (n + k) =
    ap (λ y. y % 2 ^ (n + k)) (sym (mod_low high w low h)) ∙ low_of_low (n + k) w (high * 2 ^ w + low) (omega arith) in
    sym (field_of low n k) ∙ ap (λ y. y / 2 ^ k) same ∙ field_of (concatenation w high low) n k

pub cut_high : (w high low k n : ℕ) → low < 2 ^ w → w ≤ k → cut high (k - w) n ≡ cut (concatenation w high low) k n
cut_high w high low k n h order =
    let whole : w + (k - w) ≡ k = omega arith in
    let shifted : concatenation w high low / 2 ^ k ≡ high / 2 ^ (k - w) =
    ap (λ m. concatenation w high low / 2 ^ m) (sym whole)
    ∙ ap (λ p. concatenation w high low / p) (pow-add 2 w (k - w))
    ∙ sym (div-div-eq-div-mul (concatenation w high low) (2 ^ w) (2 ^ (k - w)))
    ∙ ap (λ y. y / 2 ^ (k - w)) (shr_high high w low h) in
    ap (λ y. y % 2 ^ n) (sym shifted)

-- adjacent cuts joined
pub join_cuts : (x l m n : ℕ) → concatenation m (cut x (l + m) n) (cut x l m) ≡ cut x l (m + n)
join_cuts x l m n =
    let shifted : x / 2 ^ (l + m) ≡ x / 2 ^ l / 2 ^ m = ap (λ p. x / p) (pow-add 2 l m) ∙ sym (div-div-eq-div-mul x (2 ^ l) (2 ^ m)) in
    ap (λ y. y % 2 ^ n * 2 ^ m + cut x l m) shifted
    ∙ sym (mod-pow-add (x / 2 ^ l) n m)
    ∙ ap (λ k. x / 2 ^ l % 2 ^ k) (turned n m)
  where
    turned : (a b : ℕ) → a + b ≡ b + a
    turned a b = omega arith

pub cut_all : (w a : ℕ) → a < 2 ^ w → cut a 0 w ≡ a
cut_all w a h = ap (λ y. y % 2 ^ w) (div-one a) ∙ mod-eq_of_lt h
