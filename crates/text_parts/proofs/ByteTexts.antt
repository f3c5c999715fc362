-- Bytes as two digits of base 16 each.
use Rattle.std.proofs.Common.{◌≡◌, ℕ, zero, suc, ◌+◌, ◌*◌, ◌/◌, ◌%◌, ◌<◌, true, eqb, List, [], ◌∷◌, ◌++◌, append-nil, append_assoc, length, get_or, take, refl, sym, ap, ◌∙◌, arith}
use Rattle.std.specs.List.{list_all}
use Rattle.std.proofs.lemmas.Bool.{and_parts, and_from, eqb-true, eq-eqb}
use Rattle.std.proofs.lemmas.List.{take_more}
use Rattle.std.specs.Char.{digit_value, is_digit}
use Rattle.text_parts.specs.Bytes.{AreHexBytes, byte_text, bytes_text, decoded, is_hex_text}

record Splits (x y : ℕ) (rest : List ℕ) : Type 0 where
  high : is_digit x 16 ≡ true
  low : is_digit y 16 ≡ true
  more : is_hex_text rest ≡ true

splits : (x y : ℕ) (rest : List ℕ) → is_hex_text (x ∷ y ∷ rest) ≡ true → Splits x y rest
splits x y rest h =
    let p = and_parts (eqb (length (x ∷ y ∷ rest) % 2) 0) (list_all (λ b. is_digit b 16) (x ∷ y ∷ rest)) h in
    let q = and_parts (is_digit x 16) (list_all (λ b. is_digit b 16) (y ∷ rest)) p.1 in
    let r = and_parts (is_digit y 16) (list_all (λ b. is_digit b 16) rest) q.1 in
    let whole : length (x ∷ y ∷ rest) % 2 ≡ 0 = eqb-true (length (x ∷ y ∷ rest) % 2) 0 p.0 in
    let even : length rest % 2 ≡ 0 = omega arith in
    record { high = q.0; low = r.0; more = and_from (eqb (length rest % 2) 0) (list_all (λ b. is_digit b 16) rest) (eq-eqb (length rest % 2) 0 even) r.1 }

joins : (x y : ℕ) (rest : List ℕ) → is_digit x 16 ≡ true → is_digit y 16 ≡ true → is_hex_text rest ≡ true → is_hex_text (x ∷ y ∷ rest) ≡ true
joins x y rest high low more =
    let p = and_parts (eqb (length rest % 2) 0) (list_all (λ b. is_digit b 16) rest) more in
    let rest_even : length rest % 2 ≡ 0 = eqb-true (length rest % 2) 0 p.0 in
    let even : length (x ∷ y ∷ rest) % 2 ≡ 0 = omega arith in
    and_from (eqb (length (x ∷ y ∷ rest) % 2) 0) (list_all (λ b. is_digit b 16) (x ∷ y ∷ rest)) (eq-eqb (length (x ∷ y ∷ rest) % 2) 0 even)
    (and_from (is_digit x 16) (list_all (λ b. is_digit b 16) (y ∷ rest)) high (and_from (is_digit y 16) (list_all (λ b. is_digit b 16) rest) low p.1))

pub hex-known : (text : List ℕ) → is_hex_text text ≡ true → AreHexBytes text (decoded text)
hex-known [] h = refl
hex-known (x ∷ []) h = absurd (cc)
hex-known (x ∷ y ∷ rest) h = let s = splits x y rest h in (x, y, rest, refl, s.high, s.low, refl, hex-known rest s.more)

pub hex-only : (bytes text : List ℕ) → AreHexBytes text bytes → (is_hex_text text ≡ true) × (decoded text ≡ bytes)
hex-only [] text are = (ap is_hex_text are, ap decoded are)
hex-only (b ∷ bs) text are =
    let p = hex-only bs are.2 are.7 in (
      ap is_hex_text are.3 ∙ joins are.0 are.1 are.2 are.4 are.5 p.0,
      ap decoded are.3 ∙ ap (λ (rest : List ℕ). (16 * digit_value are.0 + digit_value are.1) ∷ rest) p.1
          ∙ ap (λ (x : ℕ). x ∷ bs) (sym are.6),
    )

-- half as many bytes as digits
pub length-decoded : (text : List ℕ) → is_hex_text text ≡ true → length (decoded text) ≡ length text / 2
length-decoded [] h = refl
length-decoded (x ∷ []) h = absurd (cc)
length-decoded (x ∷ y ∷ rest) h = let e = length-decoded rest (splits x y rest h).more in omega arith

-- the byte at a place
pub decoded-at : (text : List ℕ) (i : ℕ) → is_hex_text text ≡ true → i < length text / 2
    → get_or (decoded text) i 0 ≡ 16 * digit_value (get_or text (2 * i) 0) + digit_value (get_or text (2 * i + 1) 0)
decoded-at [] i h inside = absurd (omega arith)
decoded-at (x ∷ []) i h inside = absurd (omega arith)
decoded-at (x ∷ y ∷ rest) zero h inside = refl
decoded-at (x ∷ y ∷ rest) (suc i) h inside =
    let more : i < length rest / 2 = omega arith in
    let all : List ℕ = x ∷ y ∷ rest in
    let first : 2 * suc i ≡ suc (suc (2 * i)) = omega arith in
    let second : 2 * suc i + 1 ≡ suc (suc (2 * i + 1)) = omega arith in
    let high : get_or all (2 * suc i) 0 ≡ get_or rest (2 * i) 0 = ap (λ (k : ℕ). get_or all k 0) first in
    let low : get_or all (2 * suc i + 1) 0 ≡ get_or rest (2 * i + 1) 0 = ap (λ (k : ℕ). get_or all k 0) second in
    decoded-at rest i (splits x y rest h).more more
    ∙ ap (λ (v : ℕ). 16 * digit_value v + digit_value (get_or rest (2 * i + 1) 0)) (sym high)
    ∙ ap (λ (v : ℕ). 16 * digit_value (get_or all (2 * suc i) 0) + digit_value v) (sym low)

-- each digit is one
pub hex-at : (text : List ℕ) (k : ℕ) → list_all (λ b. is_digit b 16) text ≡ true → k < length text → is_digit (get_or text k 0) 16 ≡ true
hex-at [] k h inside = absurd (omega arith)
hex-at (x ∷ xs) zero h inside = (and_parts (is_digit x 16) (list_all (λ b. is_digit b 16) xs) h).0
hex-at (x ∷ xs) (suc k) h inside = hex-at xs k (and_parts (is_digit x 16) (list_all (λ b. is_digit b 16) xs) h).1 (omega arith)

-- one byte more
pub bytes_text-append : (bytes : List ℕ) (byte : ℕ) → bytes_text (bytes ++ byte ∷ []) ≡ bytes_text bytes ++ byte_text byte
bytes_text-append [] byte = append-nil (byte_text byte)
bytes_text-append (b ∷ bs) byte = ap (λ t. byte_text b ++ t) (bytes_text-append bs byte) ∙ sym (append_assoc (byte_text b) (bytes_text bs) (byte_text byte))

-- one byte of a list more
pub bytes_more : (old now new bytes : List ℕ) (i d : ℕ) → i < length bytes → now ≡ old ++ bytes_text (take i bytes) → new ≡ now ++ byte_text (get_or bytes i d)
    → new ≡ old ++ bytes_text (take (i + 1) bytes)
bytes_more old now new bytes i d below so_far more =
    more ∙ ap (λ t. t ++ byte_text (get_or bytes i d)) so_far ∙ append_assoc old (bytes_text (take i bytes)) (byte_text (get_or bytes i d))
    ∙ ap (λ t. old ++ t) (sym (bytes_text-append (take i bytes) (get_or bytes i d))) ∙ ap (λ bs. old ++ bytes_text bs) (sym (take_more bytes i d below))
