-- Words in a memory that has a byte at each address. A word's lowest byte lies at its lowest address (Intel SDM volume
-- 1, 1.3.1, bit and byte order). Addresses are calculated with 64 bits, so they wrap at 2^64 (volume 1, 3.3.7).
use Rattle.std.specs.Prelude.{ℕ, zero, suc, ◌+◌, ◌*◌, ◌/◌, ◌%◌, ◌-◌, ◌^◌, List, [], ◌∷◌, ◌++◌, get_or, replicate}

-- an address plus an offset, modulo 2^64
abbrev pub address_plus : ℕ → ℕ → ℕ
address_plus at offset = (at + offset) % 2 ^ 64

-- how far an address lies behind a base, modulo 2^64
abbrev pub offset_from : ℕ → ℕ → ℕ
offset_from base at = (at + (2 ^ 64 - base)) % 2 ^ 64

-- the n bytes from an address on
abbrev pub bytes_at : (ℕ → ℕ) → ℕ → ℕ → List ℕ
bytes_at memory at zero = []
bytes_at memory at (suc n) = bytes_at memory at n ++ memory (address_plus at n) ∷ []

-- the memory after a write of bytes from an address on; every other byte stays
abbrev pub with_bytes : (ℕ → ℕ) → ℕ → List ℕ → ℕ → ℕ
with_bytes memory at bytes x = get_or bytes (offset_from at x) (memory x)

-- the number that bytes make, lowest first
abbrev pub number_of_bytes : List ℕ → ℕ
number_of_bytes [] = 0
number_of_bytes (byte ∷ bytes) = byte + 256 * number_of_bytes bytes

-- the n low bytes of a number, lowest first
abbrev pub bytes_of_number : ℕ → ℕ → List ℕ
bytes_of_number zero word = []
bytes_of_number (suc n) word = word % 256 ∷ bytes_of_number n (word / 256)

-- the word of n bytes from an address on
abbrev pub word_at : (ℕ → ℕ) → ℕ → ℕ → ℕ
word_at memory at n = number_of_bytes (bytes_at memory at n)

-- the memory after a write of the n low bytes of a word from an address on
abbrev pub with_word : (ℕ → ℕ) → ℕ → ℕ → ℕ → ℕ → ℕ
with_word memory at n word = with_bytes memory at (bytes_of_number n word)

-- n bytes from an address on, and zeros behind them
abbrev pub vector_from : (ℕ → ℕ) → ℕ → ℕ → List ℕ
vector_from memory at n = bytes_at memory at n ++ replicate (32 - n) 0
