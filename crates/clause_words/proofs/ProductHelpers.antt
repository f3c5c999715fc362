-- The helpers of products: the values that they have, and no others.
use Rattle.std.proofs.Common.{◌≡◌, ℕ, zero, suc, ◌+◌, ◌-◌, ◌*◌, ◌<◌, ◌≤◌, ◌&&◌, Bool, true, false, refl, sym, ◌∙◌, ap, subst, arith, inl, inr, if◌then◌else◌}
use Rattle.std.specs.Prelude.{nat_lt}
use Rattle.std.proofs.lemmas.Bool.{cases_lt}
use Rattle.insn_semantics.specs.Words as words
use Rattle.clauses.specs.Assignments.{MeetsAll}
use Rattle.clause_words.specs.Numbers.{SayWithHelpers, StandsBefore, number_of, with_helpers, word_value}
use Rattle.clause_words.specs.Products.{product_helpers, product_row, stage_start, sum_start}
use Rattle.clause_words.proofs.Helpers.{before, behind}
use Rattle.clause_words.proofs.Numbers.{bits_same, carry_into, number_same}
use Rattle.clause_words.proofs.ProductNumbers.{low_bits, part, product_number}
use Rattle.clause_words.proofs.Products.{HasSum, IsStage, result_from, row_to, stages_from}

less_true : (a b : ℕ) → a < b → nat_lt a b ≡ true
less_true a b h = grind arith

less_false : (a b : ℕ) → b ≤ a → nat_lt a b ≡ false
less_false a b h = grind arith

-- stages begin one behind another
start_grows : (w h m k : ℕ) → k ≤ m → stage_start w h k ≤ stage_start w h m
start_grows w h zero k b = let e : k ≡ 0 = omega arith in ap-le e
  where
    ap-le : k ≡ 0 → stage_start w h k ≤ stage_start w h 0
    ap-le e = subst (λ (j : ℕ). stage_start w h j ≤ stage_start w h 0) (sym e) (omega arith)
start_grows w h (suc m) k b = elim (cases_lt k (suc m)) [
  | inl lower ↦ let rest : stage_start w h k ≤ stage_start w h m = start_grows w h m k (omega arith) in omega arith
  | inr upper ↦ let e : k ≡ suc m = omega arith in subst (λ (j : ℕ). stage_start w h j ≤ stage_start w h (suc m)) (sym e) (omega arith)
]

start_from_zero : (w h k : ℕ) → stage_start w h k ≡ h + stage_start w 0 k
start_from_zero w h zero = omega arith
start_from_zero w h (suc k) = let rest : stage_start w h k ≡ h + stage_start w 0 k = start_from_zero w h k in omega arith

module _ (w : ℕ) (x y : ℕ → Bool) where
  -- the value of helper d of stage k + 1
  stage_bit : ℕ → ℕ → Bool
  stage_bit k d =
      if nat_lt d (w - suc k) then x d && y (suc k)
      else (if nat_lt d (w - suc k + (w - suc k)) then part x y (suc k) (d - (w - suc k))
      else carry_into (λ j. part x y k (suc j)) (λ j. x j && y (suc k)) (suc (d - (w - suc k + (w - suc k)))))

  bit_low : (k i : ℕ) → i < w - suc k → stage_bit k i ≡ (x i && y (suc k))
  unfolding stage_bit
  bit_low k i h = rw (less_true i (w - suc k) h) refl

  bit_middle : (k i : ℕ) → i < w - suc k → stage_bit k (w - suc k + i) ≡ part x y (suc k) i
  unfolding stage_bit
  bit_middle k i h =
      let e : w - suc k + i - (w - suc k) ≡ i = omega arith in
      rw (less_false (w - suc k + i) (w - suc k) (omega arith), less_true (w - suc k + i) (w - suc k + (w - suc k)) (omega arith))
      (ap (part x y (suc k)) e)

  bit_high : (k i : ℕ) → stage_bit k (w - suc k + (w - suc k) + i) ≡ carry_into (λ j. part x y k (suc j)) (λ j. x j && y (suc k)) (suc i)
  unfolding stage_bit
  bit_high k i =
      let e : w - suc k + (w - suc k) + i - (w - suc k + (w - suc k)) ≡ i = omega arith in
      rw (
        less_false (w - suc k + (w - suc k) + i) (w - suc k) (omega arith),
        less_false (w - suc k + (w - suc k) + i) (w - suc k + (w - suc k)) (omega arith),
      )
      (ap (λ (n : ℕ). carry_into (λ j. part x y k (suc j)) (λ j. x j && y (suc k)) (suc n)) e)

module _ (v : ℕ → Bool) (w r a b h : ℕ) (some : 0 < w) (before_r : StandsBefore h w r) (before_a : StandsBefore h w a) (before_b : StandsBefore h w b) where
  abbrev x : ℕ → Bool
  x k = v (a + k)

  abbrev y : ℕ → Bool
  y k = v (b + k)

  abbrev u : (ℕ → Bool) → ℕ → Bool
  u f = with_helpers v h f

  first : (f : ℕ → Bool) (k : ℕ) → k < w → u f (a + k) ≡ x k
  first f k i = before v h f w a k before_a i

  second : (f : ℕ → Bool) (k : ℕ) → k < w → u f (b + k) ≡ y k
  second f k i = before v h f w b k before_b i

  -- a place behind the first helper
  placed : (f : ℕ → Bool) (z : ℕ) → h ≤ z → u f z ≡ f (z - h)
  placed f z b = let e : z ≡ h + (z - h) = omega arith in ap (u f) e ∙ behind v h f (z - h)

  -- each helper of a stage has its value
  stage_value : (f : ℕ → Bool) (k : ℕ) → IsStage (u f) w a b h x y (first f) (second f) k → (d : ℕ) → d < 3 * (w - suc k) - 1
      → u f (stage_start w h k + d) ≡ stage_bit w x y k d
  stage_value f k s d i = elim (cases_lt d (w - suc k)) [
    | inl low ↦ s.times d low ∙ sym (bit_low w x y k d low)
    | inr not_low ↦ elim (cases_lt d (w - suc k + (w - suc k))) [
      | inl middle ↦
          let e : d ≡ w - suc k + (d - (w - suc k)) = omega arith in
          let at : stage_start w h k + d ≡ sum_start w h (suc k) + (d - (w - suc k)) = omega arith in
          ap (u f) at ∙ s.sums (d - (w - suc k)) (omega arith) ∙ sym (ap (stage_bit w x y k) e ∙ bit_middle w x y k (d - (w - suc k)) (omega arith))
      | inr high ↦
          let e : d ≡ w - suc k + (w - suc k) + (d - (w - suc k + (w - suc k))) = omega arith in
          let at : stage_start w h k + d ≡ sum_start w h (suc k) + (w - suc k) + (d - (w - suc k + (w - suc k))) = omega arith in
          ap (u f) at ∙ s.carries (d - (w - suc k + (w - suc k))) (omega arith)
          ∙ sym (ap (stage_bit w x y k) e ∙ bit_high w x y k (d - (w - suc k + (w - suc k))))
    ]
  ]

  -- two ways to meet the row have the same helpers
  one_way : (f g : ℕ → Bool) → MeetsAll (u f) (product_row w r a b h) → MeetsAll (u g) (product_row w r a b h)
      → (k : ℕ) → k < w → (i : ℕ) → h + i < stage_start w h k → f i ≡ g i
  one_way f g m n zero below i at =
      let p = (stages_from (u f) w a b h x y (first f) (second f) r m).0 in
      let q = (stages_from (u g) w a b h x y (first g) (second g) r n).0 in
      sym (behind v h f i) ∙ p i (omega arith) ∙ sym (sym (behind v h g i) ∙ q i (omega arith))
  one_way f g m n (suc k) below i at = elim (cases_lt (h + i) (stage_start w h k)) [
    | inl lower ↦ one_way f g m n k (omega arith) i lower
    | inr upper ↦
        let p = (stages_from (u f) w a b h x y (first f) (second f) r m).1 k below in
        let q = (stages_from (u g) w a b h x y (first g) (second g) r n).1 k below in
        let e : h + i ≡ stage_start w h k + (h + i - stage_start w h k) = omega arith in
        sym (behind v h f i) ∙ ap (u f) e ∙ stage_value f k p (h + i - stage_start w h k) (omega arith)
        ∙ sym (sym (behind v h g i) ∙ ap (u g) e ∙ stage_value g k q (h + i - stage_start w h k) (omega arith))
  ]

  -- the helpers filled in up to a stage
  filled : ℕ → ℕ → Bool
  filled zero z = x (z - h) && y 0
  filled (suc k) z = with_helpers (filled k) (stage_start w h k) (stage_bit w x y k) z

  filled_stays : (m k z : ℕ) → k ≤ m → z < stage_start w h k → filled m z ≡ filled k z
  unfolding filled
  filled_stays zero k z b i = let e : k ≡ 0 = omega arith in ap (λ (j : ℕ). filled j z) (sym e)
  filled_stays (suc m) k z b i = elim (cases_lt k (suc m)) [
    | inl lower ↦
        let grown : stage_start w h k ≤ stage_start w h m = start_grows w h m k (omega arith) in
        rw (less_true z (stage_start w h m) (omega arith)) (filled_stays m k z (omega arith) i)
    | inr upper ↦ let e : suc m ≡ k = omega arith in ap (λ (j : ℕ). filled j z) e
  ]

  -- these values
  values : ℕ → Bool
  values i = filled (w - 1) (h + i)

  value_at : (z : ℕ) → h ≤ z → u values z ≡ filled (w - 1) z
  unfolding values
  value_at z b = let e : h + (z - h) ≡ z = omega arith in placed values z b ∙ ap (filled (w - 1)) e

  start_above : (k : ℕ) → h + w ≤ stage_start w h k
  start_above k = start_grows w h k 0 (omega arith)

  value_of_stage : (k : ℕ) → suc k < w → (d : ℕ) → d < 3 * (w - suc k) - 1 → u values (stage_start w h k + d) ≡ stage_bit w x y k d
  unfolding filled
  value_of_stage k b d i =
      let above : h + w ≤ stage_start w h k = start_above k in
      let inside : stage_start w h k + d < stage_start w h (suc k) = omega arith in
      value_at (stage_start w h k + d) (omega arith)
      ∙ filled_stays (w - 1) (suc k) (stage_start w h k + d) (omega arith) inside
      ∙ behind (filled k) (stage_start w h k) (stage_bit w x y k) d

  values_start : HasSum (u values) w a b h x y (first values) (second values) 0
  unfolding filled
  values_start i b =
      let e : h + i - h ≡ i = omega arith in
      value_at (h + i) (omega arith) ∙ filled_stays (w - 1) 0 (h + i) (omega arith) (omega arith) ∙ ap (λ (j : ℕ). x j && y 0) e

  values_stage : (k : ℕ) → suc k < w → IsStage (u values) w a b h x y (first values) (second values) k
  values_stage k b = record {
    times = λ i i'. value_of_stage k b i (omega arith) ∙ bit_low w x y k i i';
    sums = λ i i'.
        let at : sum_start w h (suc k) + i ≡ stage_start w h k + (w - suc k + i) = omega arith in
        ap (u values) at ∙ value_of_stage k b (w - suc k + i) (omega arith) ∙ bit_middle w x y k i i';
    carries = λ i i'.
        let at : sum_start w h (suc k) + (w - suc k) + i ≡ stage_start w h k + (w - suc k + (w - suc k) + i) = omega arith in
        ap (u values) at ∙ value_of_stage k b (w - suc k + (w - suc k) + i) (omega arith) ∙ bit_high w x y k i;
  }

  values_sum : (k : ℕ) → k < w → HasSum (u values) w a b h x y (first values) (second values) k
  values_sum zero b = values_start
  values_sum (suc k) b = (values_stage k b).sums

  result_number : number_of (low_bits x y) w ≡ words.times w (word_value v w a) (word_value v w b)
  result_number = let size : w ≡ suc (w - 1) = omega arith in
      subst (λ (n : ℕ). number_of (low_bits x y) n ≡ words.times n (word_value v n a) (word_value v n b)) (sym size) (product_number x y (w - 1))

  pub product_law : SayWithHelpers v h (product_helpers w) (product_row w r a b h)
      (word_value v w r ≡ words.times w (word_value v w a) (word_value v w b))
  product_law = record {
    some = λ e.
        let bits : (j : ℕ) → j < w → v (r + j) ≡ low_bits x y j = bits_same (λ j. v (r + j)) (low_bits x y) w (e ∙ sym result_number) in (
          values,
          row_to (u values) w a b h x y (first values) (second values) r values_sum values_stage
              (λ j j'. before v h values w r j before_r j' ∙ bits j j'),
        );
    only = λ f m.
        number_same (λ j. v (r + j)) (low_bits x y) w
        (λ j j'. sym (before v h f w r j before_r j') ∙ result_from (u f) w a b h x y (first f) (second f) r m j j')
        ∙ result_number;
    one = λ f g m n k k'.
        let start : stage_start w h (w - 1) ≡ h + stage_start w 0 (w - 1) = start_from_zero w h (w - 1) in
        one_way f g m n (w - 1) (omega arith) k (omega arith);
  }
