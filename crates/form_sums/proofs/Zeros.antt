-- No total is counted exactly where each is 0.
use Rattle.std.proofs.Common.{◌≡◌, ℕ, zero, suc, ◌+◌, ◌==◌, List, [], ◌∷◌, refl, sym, ◌∙◌, arith}
use Rattle.std.specs.Prelude.{count_by, cond, not}
use Rattle.std.proofs.lemmas.Bool.{ne_eqb}
use Rattle.std.proofs.lemmas.List.Recursion.{is_count_by}
use Rattle.form_sums.specs.Made.{AreClear}

-- how many numbers are not 0
abbrev others : List ℕ → ℕ
others [] = 0
others (zero ∷ ns) = others ns
others (suc n ∷ ns) = 1 + others ns

others_step : (n : ℕ) (ns : List ℕ) → others (n ∷ ns) ≡ cond (not (n == 0)) (1 + others ns) (others ns)
others_step zero ns = refl
others_step (suc n) ns = rw (ne_eqb (suc n) 0 (λ e. omega arith)) refl

counted : (ns : List ℕ) → others ns ≡ count_by (λ n. not (n == 0)) ns
counted ns = is_count_by others (λ n. not (n == 0)) refl others_step ns

none_other : (ns : List ℕ) → others ns ≡ 0 → AreClear ns
none_other [] h x = refl
none_other (zero ∷ ns) h zero = refl
none_other (zero ∷ ns) h (suc x) = none_other ns h x
none_other (suc n ∷ ns) h x = absurd (omega arith)

all_clear : (ns : List ℕ) → AreClear ns → others ns ≡ 0
all_clear [] h = refl
all_clear (zero ∷ ns) h = all_clear ns (λ x. h (suc x))
all_clear (suc n ∷ ns) h = let first : suc n ≡ 0 = h 0 in absurd (omega arith)

pub count_clear : (ns : List ℕ) → count_by (λ n. not (n == 0)) ns ≡ 0 → AreClear ns
count_clear ns h = none_other ns (counted ns ∙ h)

pub clear_count : (ns : List ℕ) → AreClear ns → count_by (λ n. not (n == 0)) ns ≡ 0
clear_count ns h = sym (counted ns) ∙ all_clear ns h
