-- Words of w bits, for every w from 1 to 64: whole numbers below 2^w, and what the operators make of them.
use Rattle.std.specs.Prelude.{ℕ, ◌+◌, ◌-◌, ◌*◌, ◌/◌, ◌%◌, ◌^◌, ◌==◌, Bool, true, false, nat_lt, if◌then◌else◌}

-- a Bool as a word of one bit
abbrev pub bit : Bool → ℕ
bit true = 1
bit false = 0

-- sum, difference and product modulo 2^w
abbrev pub plus : ℕ → ℕ → ℕ → ℕ
plus w a b = (a + b) % 2 ^ w

-- the difference, modulo 2^w
abbrev pub minus : ℕ → ℕ → ℕ → ℕ
minus w a b = (a + (2 ^ w - b)) % 2 ^ w

-- the product, modulo 2^w
abbrev pub times : ℕ → ℕ → ℕ → ℕ
times w a b = a * b % 2 ^ w

-- each bit turned
abbrev pub complement : ℕ → ℕ → ℕ
complement w a = 2 ^ w - 1 - a

-- the n bits of a from bit k on
abbrev pub cut : ℕ → ℕ → ℕ → ℕ
cut a k n = a / 2 ^ k % 2 ^ n

-- high bits in front of n low ones
abbrev pub concatenation : ℕ → ℕ → ℕ → ℕ
concatenation n high low = high * 2 ^ n + low

-- the highest bit of m bits
abbrev pub top : ℕ → ℕ → ℕ
top m a = a / 2 ^ (m - 1) % 2

-- from m bits to n by the sign: the new bits are copies of the highest
abbrev pub sign_extension : ℕ → ℕ → ℕ → ℕ
sign_extension m n a = top m a * (2 ^ n - 2 ^ m) + a

-- shifts by k, to the left, to the right with zeros, to the right with the sign
abbrev pub left_shift : ℕ → ℕ → ℕ → ℕ
left_shift w a k = a * 2 ^ k % 2 ^ w

-- shifted to the right, with zeros from the left
abbrev pub right_shift : ℕ → ℕ → ℕ
right_shift a k = a / 2 ^ k

-- shifted to the right, with copies of the highest bit from the left
abbrev pub signed_shift : ℕ → ℕ → ℕ → ℕ
signed_shift w a k = sign_extension (w - k) w (a / 2 ^ k)

-- comparisons: equal, below as whole numbers, and below by the sign, which is below where the highest bits are turned
abbrev pub equal : ℕ → ℕ → ℕ
equal a b = bit (a == b)

-- 1 where a is below b as a whole number
abbrev pub below : ℕ → ℕ → ℕ
below a b = bit (nat_lt a b)

-- 1 where a is below b as a signed number
abbrev pub signed_below : ℕ → ℕ → ℕ → ℕ
signed_below w a b = bit (nat_lt (plus w a (2 ^ (w - 1))) (plus w b (2 ^ (w - 1))))

-- the first where c is 1, the second where it is 0
abbrev pub choice : ℕ → ℕ → ℕ → ℕ
choice c a b = if c == 0 then b else a
