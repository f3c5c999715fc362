-- Tests on words of one bit, and the parity of eight bits.
use Rattle.std.proofs.Common.{◌≡◌, ℕ, zero, suc, ◌/◌, ◌%◌, ◌<◌, ◌==◌, refl, arith, div-one}
use Rattle.std.specs.Prelude.{bit_xor, not}
use Rattle.std.proofs.lemmas.Nat.{xor_mod, mod_below}
use Rattle.insn_semantics.specs.Words.{cut, complement}

-- a bit turned is 1 where the bit is not
turned-test : (b : ℕ) → b < 2 → (complement 1 b == 1) ≡ not (b == 1)
turned-test zero h = refl
turned-test (suc zero) h = refl
turned-test (suc (suc b)) h = absurd (omega arith)

pub turned_lowest-test : (n : ℕ) → (complement 1 (cut n 0 1) == 1) ≡ not (cut n 0 1 == 1)
turned_lowest-test n = turned-test (cut n 0 1) (mod_below (n / 1) 2 (omega arith))

xor_mod_two : (a b : ℕ) → bit_xor a b % 2 ≡ bit_xor (a % 2) (b % 2)
xor_mod_two a b = xor_mod a b 1

-- a number with its shifts by 1 to 7 joined to it has at its lowest place the low eight bits joined
pub parity_of_eight : (r : ℕ)
    → cut (bit_xor (bit_xor (bit_xor (bit_xor (bit_xor (bit_xor (bit_xor r (r / 2)) (r / 4)) (r / 8)) (r / 16)) (r / 32)) (r / 64)) (r / 128)) 0 1
    ≡ bit_xor (bit_xor (bit_xor (bit_xor (bit_xor (bit_xor (bit_xor (cut r 0 1) (cut r 1 1)) (cut r 2 1)) (cut r 3 1)) (cut r 4 1)) (cut r 5 1)) (cut r 6 1)) (cut r 7 1)
parity_of_eight r = simp (div-one, xor_mod_two)
