-- The ranges of numbers, by the byte that ends them.
use Rattle.std.proofs.Common.{inl, inr, ℕ, ◌≤◌, ◌^◌, Bool, true, false, cond, eqb, [], ◌∷◌, ◌++◌, refl, sym, subst, arith}
use Rattle.std.specs.Prelude.{decimal}
use Rattle.std.specs.Char.{digit_value}
use Rattle.std.proofs.lemmas.Bool.{eqb-true, eq-eqb, or_cases}
use Rattle.text_codes.specs.Codes.{Reads}
use Rattle.text_codes.specs.Endings.{count_end, may_end}
use Rattle.text_codes.specs.Numbers.{IsRange, IsWithin, settled_at}
use Rattle.text_codes.specs.declared.numbers.Ending.TheVariants.{By, Either, Count}
use Rattle.text_codes.proofs.Ended.{settled_reads}

-- numbers that one byte ends
pub by_range : (limit low c : ℕ) → low ≤ 1 → 10 ≤ limit → limit ≤ 2 ^ 64 → 10 ≤ digit_value c → IsRange limit low (may_end (By c))
by_range limit low c least long short apart = record {
  least = least;
  long = long;
  short = short;
  some = λ n. (c, eq-eqb c c refl);
  apart = λ n b h. subst (λ (d : ℕ). 10 ≤ digit_value d) (sym (eqb-true b c h)) apart;
}

-- numbers that a space or a newline ends
pub either_range : (limit low : ℕ) → low ≤ 1 → 10 ≤ limit → limit ≤ 2 ^ 64 → IsRange limit low (may_end Either)
either_range limit low least long short = record {
  least = least;
  long = long;
  short = short;
  some = λ n. (32, refl);
  apart = λ n b h. elim (or_cases (eqb b 32) (eqb b 10) h) [
    | inl a ↦ subst (λ (d : ℕ). 10 ≤ digit_value d) (sym (eqb-true b 32 a)) (omega arith)
    | inr a ↦ subst (λ (d : ℕ). 10 ≤ digit_value d) (sym (eqb-true b 10 a)) (omega arith)
  ];
}

-- counts of what stands behind them on their line
pub count_range : (limit low : ℕ) → low ≤ 1 → 10 ≤ limit → limit ≤ 2 ^ 64 → IsRange limit low (may_end Count)
count_range limit low least long short = record {
  least = least;
  long = long;
  short = short;
  some = λ n. (count_end n, eq-eqb (count_end n) (count_end n) refl);
  apart = λ n b h. subst (λ (d : ℕ). 10 ≤ digit_value d) (sym (eqb-true b (count_end n) h)) (ends (eqb n 0));
}
  where
    ends : (t : Bool) → 10 ≤ digit_value (cond t 10 32)
    ends true = omega arith
    ends false = omega arith

pub by_reads : (limit low c : ℕ) → low ≤ 1 → 10 ≤ limit → limit ≤ 2 ^ 64 → 10 ≤ digit_value c
    → Reads (λ n. decimal n ++ c ∷ []) (IsWithin limit low) (settled_at limit low (may_end (By c)))
by_reads limit low c least long short apart =
    settled_reads limit low (may_end (By c)) (λ n. c) (by_range limit low c least long short apart) (λ n. eq-eqb c c refl) (λ n b h. eqb-true b c h)

pub count_reads : (limit low : ℕ) → low ≤ 1 → 10 ≤ limit → limit ≤ 2 ^ 64
    → Reads (λ n. decimal n ++ count_end n ∷ []) (IsWithin limit low) (settled_at limit low (may_end Count))
count_reads limit low least long short =
    settled_reads limit low (may_end Count) count_end (count_range limit low least long short) (λ n. eq-eqb (count_end n) (count_end n) refl)
    (λ n b h. eqb-true b (count_end n) h)
