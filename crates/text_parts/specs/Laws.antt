-- Laws of cuts, numbers and bytes.
use Rattle.std.specs.Prelude.{◌≡◌, ◌^◌, ◌<◌, ℕ, true, not, ◌==◌, List, [], ◌∷◌, ◌++◌, Some, None, decimal}
use Rattle.std.specs.List.{AllByRecursion, list_all}
use Rattle.text_parts.specs.Bytes.{AreHexBytes, bytes_text, decoded, is_hex_text}
use Rattle.text_parts.specs.Cuts.{cut_at, parts}
use Rattle.text_parts.specs.Numbers.{IsAmount, amount_of, decimal_of, value_text}

-- a text without the byte is not cut, and each other one is cut where the byte stands first
pub record CutsAreFirst : Type 0 where
  pub none : (byte : ℕ) (text : List ℕ) → list_all (λ b. not (b == byte)) text ≡ true → cut_at byte text ≡ None
  pub some : (byte : ℕ) (before after : List ℕ) → list_all (λ b. not (b == byte)) before ≡ true
      → cut_at byte (before ++ byte ∷ after) ≡ Some (before, after)
  pub known : (byte : ℕ) (text before after : List ℕ) → cut_at byte text ≡ Some (before, after)
      → (text ≡ before ++ byte ∷ after) × (list_all (λ b. not (b == byte)) before ≡ true)

-- what stands between the bytes are the text before a cut, and the parts of what stands behind it
pub record CutsAreParts : Type 0 where
  pub none : (byte : ℕ) (text : List ℕ) → cut_at byte text ≡ None → parts byte text ≡ text ∷ []
  pub some : (byte : ℕ) (text before after : List ℕ) → cut_at byte text ≡ Some (before, after)
      → parts byte text ≡ before ∷ parts byte after

-- the texts of a number below 2^64: reading one gives the number, and reading gives numbers of their texts alone
pub record NumbersAreRead : Type 0 where
  pub known : (text : List ℕ) (n : ℕ) → amount_of text ≡ Some n → IsAmount text n
  pub only : (text : List ℕ) (n : ℕ) → IsAmount text n → amount_of text ≡ Some n
  pub decimal_back : (n : ℕ) → n < 2 ^ 64 → amount_of (decimal n) ≡ Some n
  pub value_back : (n : ℕ) → n < 2 ^ 64 → amount_of (value_text n) ≡ Some n

-- a number below 2^64 has one decimal text, the one that is written
pub record DecimalsAreCanonical : Type 0 where
  pub written : (n : ℕ) → n < 2 ^ 64 → decimal_of (decimal n) ≡ Some n
  pub one : (text : List ℕ) (n : ℕ) → n < 2 ^ 64 → decimal_of text ≡ Some n → text ≡ decimal n

-- bytes that are written are read back, and digits are read as the bytes that they spell
pub record BytesAreRead : Type 0 where
  pub back : (bytes : List ℕ) → AllByRecursion (λ b. b < 2 ^ 8) bytes
      → (is_hex_text (bytes_text bytes) ≡ true) × (decoded (bytes_text bytes) ≡ bytes)
  pub known : (text : List ℕ) → is_hex_text text ≡ true → AreHexBytes text (decoded text)
  pub only : (text bytes : List ℕ) → AreHexBytes text bytes → (is_hex_text text ≡ true) × (decoded text ≡ bytes)
