-- The numbers and lists of a certificate are read rightly.
use Rattle.std.proofs.Common.{◌≡◌, ◌⊎◌, inl, inr, ℕ, ◌<◌, ◌≤◌, ◌^◌, List, [], ◌∷◌, Ok, refl, arith}
use Rattle.std.specs.Char.{digit_value}
use Rattle.text_codes.specs.Codes.{Reads}
use Rattle.text_codes.specs.Endings.{count_end, may_end}
use Rattle.text_codes.specs.Numbers.{IsWithin, settled_at}
use Rattle.text_codes.specs.Readers.{Reading}
use Rattle.text_codes.specs.declared.numbers.Ending.TheVariants.{By, Count}
use Rattle.text_codes.proofs.Choices.{letters_reads}
use Rattle.text_codes.proofs.Combined.{refit, counted_reads, counted_line_reads}
use Rattle.text_codes.proofs.Lines.{alone}
use Rattle.text_codes.proofs.Ranges.{by_reads, count_reads}
use Rattle.certificate_file.specs.Numbers.{newline, number_text, IsU32, IsU64, lines_text, row_text, AreCounted}
use Rattle.certificate_file.specs.ProductReading.{u32_at, u64_at, lines_at, row_at, letter_at}

-- a number below a limit, and a byte that is no digit
pub number_reads : (limit end : ℕ) → 10 ≤ limit → limit ≤ 2 ^ 64 → 10 ≤ digit_value end
    → Reads (number_text end) (λ n. n < limit) (settled_at limit 0 (may_end (By end)))
number_reads limit end long short apart =
    refit (number_text end) (number_text end) (λ n. n < limit) (IsWithin limit 0) _ (λ v h. refl) (λ v h. (omega arith, h)) (λ v h. h.1)
    (by_reads limit 0 end (omega arith) long short apart)

pub u32_reads : (end : ℕ) → 10 ≤ digit_value end → Reads (number_text end) IsU32 (u32_at end)
u32_reads end apart = number_reads (2 ^ 32) end (omega arith) (omega arith) apart

pub u64_reads : (end : ℕ) → 10 ≤ digit_value end → Reads (number_text end) IsU64 (u64_at end)
u64_reads end apart = number_reads (2 ^ 64) end (omega arith) (omega arith) apart

-- a list whose count ends its line
pub lines_reads : {V : Type 0} (f : V → List ℕ) (F : V → Type 0) (r : List ℕ → Reading V) → Reads f F r
    → Reads (lines_text f) (AreCounted F) (lines_at r)
lines_reads f F r rd = counted_reads (number_text newline) IsU64 (u64_at newline) f F r (u64_reads newline (omega arith)) rd

-- a list behind its count on a line
pub row_reads : {V : Type 0} (f : ℕ → V → List ℕ) (F : V → Type 0) (r : ℕ → List ℕ → Reading V) → Reads (f 10) F (r 10) → Reads (f 32) F (r 32)
    → Reads (row_text f) (AreCounted F) (row_at r)
row_reads f F r last each =
    counted_line_reads (λ n. number_text (count_end n) n) IsU64 (settled_at (2 ^ 64) 0 (may_end Count)) f F r
    (refit _ _ IsU64 (IsWithin (2 ^ 64) 0) _ (λ v h. refl) (λ v h. (omega arith, h)) (λ v h. h.1) (count_reads (2 ^ 64) 0 (omega arith) (omega arith) (omega arith)))
    last each

-- one of two things by its letter

pub letter_reads : {V : Type 0} (f : V → List ℕ) (F : V → Type 0) (letter : V → ℕ) (c d : ℕ) (v w : V)
    → ((u : V) → F u → f u ≡ letter u ∷ []) → F v → F w → letter v ≡ c → letter w ≡ d
    → ((u : V) → F u → letter u ≡ c → u ≡ v) → ((u : V) → F u → letter u ≡ d → u ≡ w)
    → ((u : V) → F u → (letter u ≡ c) ⊎ (letter u ≡ d)) → Reads f F (letter_at c v d w)
letter_reads {V = V} f F letter c d v w text fv fw lv lw first second either =
    letters_reads f F letter (λ u. []) text v fv (c, λ t. Ok (v, t)) ((d, λ t. Ok (w, t)) ∷ []) (
      record { right = λ t. alone (λ u. []) (λ u. F u × (letter u ≡ c)) v (fv, lv) refl (λ u h. first u h.0 h.1) t },
      (record { right = λ t. alone (λ u. []) (λ u. F u × (letter u ≡ d)) w (fw, lw) refl (λ u h. second u h.0 h.1) t }, tt),
    )
    (λ u h. elim (either u h) [ inl a ↦ inl a | inr b ↦ inr (inl b) ])
