-- Sums of signed words: where the signed sum has a word and where not, by the highest bits of operands and result.
-- A difference is a sum read the other way: a - b is r exactly where r + b is a.
use Rattle.std.proofs.Common.{◌≡◌, ℕ, ◌+◌, ◌-◌, ◌/◌, ◌%◌, ◌<◌, ◌≤◌, ◌==◌, Bool, ◌⊎◌, refl, sym, inl, inr, arith, min}
use Rattle.std.specs.Prelude.{ℤ, pos, ◌+ℤ◌, ◌-ℤ◌, bit_xor, int_le, int_lt, ◌&&◌, not, nat_lt, if◌then◌else◌}
use Rattle.std.proofs.lemmas.Bool.{cases_lt, lt-ltb, le-ltb}
use Rattle.std.proofs.lemmas.Int.{ints}
use Rattle.std.proofs.Math.Nat.{mod-eq_of_lt, div-eq_of_lt, div-eq_of_lt-le}
use Rattle.std.proofs.lemmas.Nat.{mod_below}
use Rattle.insn_semantics.specs.Words.{bit}
use Rattle.insn_semantics.proofs.WordLaws.{once_around}

-- the signed number of a, below h + h
abbrev pub signed : ℕ → ℕ → ℤ
signed h a = if nat_lt a h then pos a else pos a -ℤ pos (h + h)

-- a number below h + h with its highest bit t and its signed number s: it is in the lower half or in the upper one
pub data Half (h a t : ℕ) (s : ℤ) : Type 0 where
  Low : a < h → t ≡ 0 → s ≡ pos a → Half h a t s
  High : h ≤ a → t ≡ 1 → s +ℤ pos (h + h) ≡ pos a → Half h a t s

pub half_of : (h a : ℕ) → a < h + h → Half h a (a / h % 2) (signed h a)
half_of h a l = elim (cases_lt a h) [
  | inl low ↦ Low low (rw (div-eq_of_lt low) refl) (rw (lt-ltb a h low) refl)
  | inr high ↦
      let one : a / h ≡ 1 = div-eq_of_lt-le h (omega arith) (omega arith) in
      High high (rw one refl) (rw (le-ltb a h high) (omega (arith, ints)))
]

-- the highest bit of (x xor z) and (y xor z), of the highest bits of x, y and z
unfoldable pub over : ℕ → ℕ → ℕ → ℕ
over x y z = min ((x + z) % 2) ((y + z) % 2)

-- The signed sum of x and y against the signed number of the result z: they are the same, or the sum is too large or too
-- small for a word, and the result has the other sign. tx and tz are the highest bits of x and z.
pub data SignedSum (h tx tz o : ℕ) (x y z : ℤ) : Type 0 where
  Fits : o ≡ 0 → x +ℤ y ≡ z → SignedSum h tx tz o x y z
  TooLarge : o ≡ 1 → tx ≡ 0 → tz ≡ 1 → x +ℤ y ≡ z +ℤ pos (h + h) → SignedSum h tx tz o x y z
  TooSmall : o ≡ 1 → tx ≡ 1 → tz ≡ 0 → x +ℤ y +ℤ pos (h + h) ≡ z → SignedSum h tx tz o x y z

sum_of_halves : (h x y z tx ty tz : ℕ) (sx sy sz : ℤ) → x < h + h → y < h + h → z < h + h → (x + y ≡ z) ⊎ (x + y ≡ z + (h + h))
    → Half h x tx sx → Half h y ty sy → Half h z tz sz → SignedSum h tx tz (over tx ty tz) sx sy sz
unfolding over
sum_of_halves h x y z tx ty tz sx sy sz lx ly lz (inl e) (Low a b c) (Low d f g) (Low i j k) = Fits (rw (b, f, j) refl) (omega (arith, ints))
sum_of_halves h x y z tx ty tz sx sy sz lx ly lz (inl e) (Low a b c) (Low d f g) (High i j k) = TooLarge (rw (b, f, j) refl) b j (omega (arith, ints))
sum_of_halves h x y z tx ty tz sx sy sz lx ly lz (inl e) (Low a b c) (High d f g) (Low i j k) = absurd (omega arith)
sum_of_halves h x y z tx ty tz sx sy sz lx ly lz (inl e) (Low a b c) (High d f g) (High i j k) = Fits (rw (b, f, j) refl) (omega (arith, ints))
sum_of_halves h x y z tx ty tz sx sy sz lx ly lz (inl e) (High a b c) (Low d f g) (Low i j k) = absurd (omega arith)
sum_of_halves h x y z tx ty tz sx sy sz lx ly lz (inl e) (High a b c) (Low d f g) (High i j k) = Fits (rw (b, f, j) refl) (omega (arith, ints))
sum_of_halves h x y z tx ty tz sx sy sz lx ly lz (inl e) (High a b c) (High d f g) q = absurd (omega arith)
sum_of_halves h x y z tx ty tz sx sy sz lx ly lz (inr e) (Low a b c) (Low d f g) q = absurd (omega arith)
sum_of_halves h x y z tx ty tz sx sy sz lx ly lz (inr e) (Low a b c) (High d f g) (Low i j k) = Fits (rw (b, f, j) refl) (omega (arith, ints))
sum_of_halves h x y z tx ty tz sx sy sz lx ly lz (inr e) (Low a b c) (High d f g) (High i j k) = absurd (omega arith)
sum_of_halves h x y z tx ty tz sx sy sz lx ly lz (inr e) (High a b c) (Low d f g) (Low i j k) = Fits (rw (b, f, j) refl) (omega (arith, ints))
sum_of_halves h x y z tx ty tz sx sy sz lx ly lz (inr e) (High a b c) (Low d f g) (High i j k) = absurd (omega arith)
sum_of_halves h x y z tx ty tz sx sy sz lx ly lz (inr e) (High a b c) (High d f g) (Low i j k) = TooSmall (rw (b, f, j) refl) b j (omega (arith, ints))
sum_of_halves h x y z tx ty tz sx sy sz lx ly lz (inr e) (High a b c) (High d f g) (High i j k) = Fits (rw (b, f, j) refl) (omega (arith, ints))

wraps : (p s : ℕ) → s < p + p → (s ≡ s % p) ⊎ (s ≡ s % p + p)
wraps p s l = elim (cases_lt s p) [
  | inl low ↦ inl (sym (mod-eq_of_lt low))
  | inr high ↦ inr (rw (once_around p (s - p) s (omega arith) (omega arith)) (omega arith))
]

pub signed_sum : (h x y : ℕ) → x < h + h → y < h + h
    → SignedSum h (x / h % 2) ((x + y) % (h + h) / h % 2) (over (x / h % 2) (y / h % 2) ((x + y) % (h + h) / h % 2)) (signed h x) (signed h y) (signed h ((x + y) % (h + h)))
signed_sum h x y lx ly =
    let lz : (x + y) % (h + h) < h + h = mod_below (x + y) (h + h) (omega arith) in
    sum_of_halves h x y ((x + y) % (h + h)) _ _ _ _ _ _ lx ly lz (wraps (h + h) (x + y) (omega arith)) (half_of h x lx) (half_of h y ly) (half_of h _ lz)

-- the sign of a result and the overflow, of which `l` is the exclusive or
abbrev pub less_by : ℕ → ℕ → Bool
less_by t o = bit_xor (bit (t == 1)) (bit (o == 1)) == 1

-- whether a signed number is one of the words below h + h
abbrev pub is_signed_word : ℕ → ℤ → Bool
is_signed_word h z = int_le (pos 0 -ℤ pos h) z && int_lt z (pos h)

pub sum_less : (h n tx tz o : ℕ) (x y z : ℤ) → n < h + h → Half h n tz z → SignedSum h tx tz o x y z → less_by tz o ≡ int_lt (x +ℤ y) (pos 0)
sum_less h n tx tz o x y z l (Low a b c) (Fits e q) = rw (e, b) (grind (arith, ints))
sum_less h n tx tz o x y z l (High a b c) (Fits e q) = rw (e, b) (grind (arith, ints))
sum_less h n tx tz o x y z l (Low a b c) (TooLarge e i j q) = absurd (omega arith)
sum_less h n tx tz o x y z l (High a b c) (TooLarge e i j q) = rw (e, j) (grind (arith, ints))
sum_less h n tx tz o x y z l (Low a b c) (TooSmall e i j q) = rw (e, j) (grind (arith, ints))
sum_less h n tx tz o x y z l (High a b c) (TooSmall e i j q) = absurd (omega arith)

pub difference_less : (h n tx tz o : ℕ) (x y z : ℤ) → n < h + h → Half h n tx x → SignedSum h tx tz o x y z → less_by tx o ≡ int_lt z y
difference_less h n tx tz o x y z l (Low a b c) (Fits e q) = rw (e, b) (grind (arith, ints))
difference_less h n tx tz o x y z l (High a b c) (Fits e q) = rw (e, b) (grind (arith, ints))
difference_less h n tx tz o x y z l (Low a b c) (TooLarge e i j q) = rw (e, b) (grind (arith, ints))
difference_less h n tx tz o x y z l (High a b c) (TooLarge e i j q) = absurd (omega arith)
difference_less h n tx tz o x y z l (Low a b c) (TooSmall e i j q) = absurd (omega arith)
difference_less h n tx tz o x y z l (High a b c) (TooSmall e i j q) = rw (e, b) (grind (arith, ints))

pub sum_overflows : (h n tx tz o : ℕ) (x y z : ℤ) → n < h + h → Half h n tz z → SignedSum h tx tz o x y z → (o == 1) ≡ not (is_signed_word h (x +ℤ y))
sum_overflows h n tx tz o x y z l (Low a b c) (Fits e q) = rw e (grind (arith, ints))
sum_overflows h n tx tz o x y z l (High a b c) (Fits e q) = rw e (grind (arith, ints))
sum_overflows h n tx tz o x y z l (Low a b c) (TooLarge e i j q) = absurd (omega arith)
sum_overflows h n tx tz o x y z l (High a b c) (TooLarge e i j q) = rw e (grind (arith, ints))
sum_overflows h n tx tz o x y z l (Low a b c) (TooSmall e i j q) = rw e (grind (arith, ints))
sum_overflows h n tx tz o x y z l (High a b c) (TooSmall e i j q) = absurd (omega arith)

pub difference_overflows : (h n tx tz o : ℕ) (x y z : ℤ) → n < h + h → Half h n tx x → SignedSum h tx tz o x y z → (o == 1) ≡ not (is_signed_word h (z -ℤ y))
difference_overflows h n tx tz o x y z l (Low a b c) (Fits e q) = rw e (grind (arith, ints))
difference_overflows h n tx tz o x y z l (High a b c) (Fits e q) = rw e (grind (arith, ints))
difference_overflows h n tx tz o x y z l (Low a b c) (TooLarge e i j q) = rw e (grind (arith, ints))
difference_overflows h n tx tz o x y z l (High a b c) (TooLarge e i j q) = absurd (omega arith)
difference_overflows h n tx tz o x y z l (Low a b c) (TooSmall e i j q) = absurd (omega arith)
difference_overflows h n tx tz o x y z l (High a b c) (TooSmall e i j q) = rw e (grind (arith, ints))

-- a word with its highest bit turned is its signed number and h
pub turned : (h a : ℕ) → a < h + h → pos ((a + h) % (h + h)) ≡ signed h a +ℤ pos h
turned h a l = elim (cases_lt a h) [
  | inl low ↦
      let word : a + h < h + h = omega arith in
      rw (mod-eq_of_lt word, lt-ltb a h low) refl
  | inr high ↦ rw (once_around (h + h) (a - h) (a + h) (omega arith) (omega arith), le-ltb a h high) (omega (arith, ints))
]

-- so the words so turned are in the order of the signed numbers,
pub turned_order : (a b h : ℕ) (x y : ℤ) → pos a ≡ x +ℤ pos h → pos b ≡ y +ℤ pos h → nat_lt a b ≡ int_lt x y
turned_order a b h x y left right = grind (arith, ints)

-- and their sum is below h + h where the signed sum is negative
pub turned_sum : (a b h : ℕ) (x y : ℤ) → pos a ≡ x +ℤ pos h → pos b ≡ y +ℤ pos h → nat_lt (a + b) (h + h) ≡ int_lt (x +ℤ y) (pos 0)
turned_sum a b h x y left right = grind (arith, ints)
