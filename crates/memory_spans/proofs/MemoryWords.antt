-- The words of a memory by their powers of 256, and what is read back after a write.
use Rattle.std.proofs.Common.{◌≡◌, ℕ, zero, suc, ◌+◌, ◌*◌, ◌/◌, ◌%◌, ◌^◌, ◌<◌, ◌≤◌, nat_lt, ◌⊎◌, inl, inr, List, [], ◌∷◌, ◌++◌, length, get_or, if◌then◌else◌, refl, sym, ◌∙◌, ap, arith, add-one, lit<}
use Rattle.std.proofs.Math.Arith.{mod-mul}
use Rattle.std.proofs.Math.Nat.{div-div-eq-div-mul, pow-suc, pow-succ'}
use Rattle.std.proofs.lemmas.Bool.Decides.{nat_tests}
use Rattle.std.proofs.lemmas.List.{ext_get_or, get_or_append_left, get_or_default, get_or_past, get_or_push, length-append}
use Rattle.memory_spans.specs.Memory.{address_plus, offset_from, bytes_at, bytes_of_number, number_of_bytes, with_bytes, with_word, word_at}

-- reads

-- n bytes are read
pub length-bytes_at : (m : ℕ → ℕ) (at n : ℕ) → length (bytes_at m at n) ≡ n
length-bytes_at m at zero = refl
length-bytes_at m at (suc n) =
    length-append (bytes_at m at n) (m (address_plus at n) ∷ []) ∙ ap (λ (k : ℕ). k + 1) (length-bytes_at m at n) ∙ add-one n

next_number : (a b l p : ℕ) → a + 256 * (l + b * p) ≡ a + 256 * l + b * (p * 256)
next_number a b l p = grind arith

number_more : (bytes : List ℕ) (b : ℕ) → number_of_bytes (bytes ++ b ∷ []) ≡ number_of_bytes bytes + b * 256 ^ length bytes
number_more [] b = omega arith
number_more (a ∷ bytes) b =
    rw (number_more bytes b, pow-suc 256 (length bytes)) (next_number a b (number_of_bytes bytes) (256 ^ length bytes))

-- a word of one more byte
pub word_at-suc : (m : ℕ → ℕ) (at n : ℕ) → word_at m at (suc n) ≡ word_at m at n + m (address_plus at n) * 256 ^ n
word_at-suc m at n =
    number_more (bytes_at m at n) (m (address_plus at n))
    ∙ ap (λ (k : ℕ). word_at m at n + m (address_plus at n) * 256 ^ k) (length-bytes_at m at n)

-- the same at n + 1
pub word_at-more : (m : ℕ → ℕ) (at n : ℕ) → word_at m at (n + 1) ≡ word_at m at n + m (address_plus at n) * 256 ^ n
word_at-more m at n = ap (word_at m at) (add-one n) ∙ word_at-suc m at n

-- writes

-- n bytes of a number
pub length-bytes_of_number : (n word : ℕ) → length (bytes_of_number n word) ≡ n
length-bytes_of_number zero word = refl
length-bytes_of_number (suc n) word = ap suc (length-bytes_of_number n (word / 256))

byte_of_number : (n word k d : ℕ) → k < n → get_or (bytes_of_number n word) k d ≡ word / 256 ^ k % 256
byte_of_number zero word k d h = absurd (omega (arith, h))
byte_of_number (suc n) word zero d h = omega arith
byte_of_number (suc n) word (suc k) d h =
    byte_of_number n (word / 256) k d (omega (arith, h))
    ∙ ap (λ (v : ℕ). v % 256) (div-div-eq-div-mul word 256 (256 ^ k) ∙ ap (λ (p : ℕ). word / p) (sym (pow-succ' 256 k)))

chosen : (k n a b d : ℕ) → (k < n → a ≡ b) → (n ≤ k → a ≡ d) → a ≡ (if nat_lt k n then b else d)
chosen k n a b d below above = grind (arith, nat_tests)

-- a byte of a number, and what stands past its n bytes
pub get_or-bytes_of_number : (n word k d : ℕ) → get_or (bytes_of_number n word) k d ≡ (if nat_lt k n then word / 256 ^ k % 256 else d)
get_or-bytes_of_number n word k d =
    let past = λ (h : n ≤ k). get_or_past (bytes_of_number n word) k d (rw (length-bytes_of_number n word) h) in
    chosen k n (get_or (bytes_of_number n word) k d) (word / 256 ^ k % 256) d (byte_of_number n word k d) past

-- each byte after a write of a word
pub with_word-if : (m : ℕ → ℕ) (at n word x : ℕ)
    → with_word m at n word x ≡ (if nat_lt (offset_from at x) n then word / 256 ^ offset_from at x % 256 else m x)
with_word-if m at n word x = get_or-bytes_of_number n word (offset_from at x) (m x)

pub ruleset memory_words = (word_at-more, get_or-bytes_of_number)

-- the laws

lt_or_eq : (k n : ℕ) → k < suc n → (k < n) ⊎ (k ≡ n)
lt_or_eq k n h = grind (arith, h)

-- a byte of a read
byte_read : (m : ℕ → ℕ) (at n k d : ℕ) → k < n → get_or (bytes_at m at n) k d ≡ m (address_plus at k)
byte_read m at zero k d h = absurd (omega (arith, h))
byte_read m at (suc n) k d h =
    elim (lt_or_eq k n (omega (arith, h))) [
      | inl before ↦
          get_or_append_left (bytes_at m at n) (m (address_plus at n) ∷ []) d k (rw (length-bytes_at m at n) before) ∙ byte_read m at n k d before
      | inr last ↦
          get_or_push (bytes_at m at n) (m (address_plus at n)) d k (length-bytes_at m at n ∙ sym last) ∙ ap (λ (j : ℕ). m (address_plus at j)) (sym last)
    ]

there_and_back : (at k : ℕ) → at < 2 ^ 64 → k < 2 ^ 64 → offset_from at (address_plus at k) ≡ k
there_and_back at k low few = omega (arith, low, few)

-- What was written is read back,
pub read_back : (m : ℕ → ℕ) (at : ℕ) (bytes : List ℕ) → at < 2 ^ 64 → length bytes ≤ 2 ^ 64 → bytes_at (with_bytes m at bytes) at (length bytes) ≡ bytes
read_back m at bytes low fits =
    ext_get_or 0 (bytes_at (with_bytes m at bytes) at (length bytes)) bytes (length-bytes_at (with_bytes m at bytes) at (length bytes))
    (λ k h.
    let inside : k < length bytes = rw (← length-bytes_at (with_bytes m at bytes) at (length bytes)) h in
    byte_read (with_bytes m at bytes) at (length bytes) k 0 inside
    ∙ ap (λ (j : ℕ). get_or bytes j (m (address_plus at k))) (there_and_back at k low (omega (arith, inside, fits)))
    ∙ get_or_default bytes k (m (address_plus at k)) 0 inside)

-- each byte past the bytes written stays,
pub written_past : (m : ℕ → ℕ) (at : ℕ) (bytes : List ℕ) (x : ℕ) → length bytes ≤ offset_from at x → with_bytes m at bytes x ≡ m x
written_past m at bytes x past = get_or_past bytes (offset_from at x) (m x) past

power_pos : (n : ℕ) → 0 < 256 ^ n
power_pos zero = lit< tt
power_pos (suc n) = rw (pow-suc 256 n) (omega (arith, power_pos n))

-- and the n low bytes of a word make the word modulo 256^n.
pub number_of_low_bytes : (n word : ℕ) → number_of_bytes (bytes_of_number n word) ≡ word % 256 ^ n
number_of_low_bytes zero word = omega arith
number_of_low_bytes (suc n) word =
    rw (number_of_low_bytes n (word / 256), pow-suc 256 n, mod-mul word {m = 256 ^ n} {c = 256} (power_pos n) (lit< tt)) (omega arith)
