-- The rows of products.
use Rattle.std.proofs.Common.{◌≡◌, ℕ, zero, suc, ◌+◌, ◌-◌, ◌<◌, ◌&&◌, Bool, ◌++◌, sym, ◌∙◌, ap, arith}
use Rattle.clauses.specs.Assignments.{MeetsAll}
use Rattle.clause_gates.specs.Gates.{copy_gate, positive}
use Rattle.clause_words.specs.Products.{product_row, stage_clauses, stage_start, sum_start}
use Rattle.clause_words.specs.Rows.{bit, column, columns, row_clauses}
use Rattle.clause_words.specs.declared.row.Row.TheVariants.{Sum, Times}
use Rattle.clause_words.proofs.Meeting.{and_says, append_met, columns_met, copy_says, met_append, met_columns}
use Rattle.clause_words.proofs.Numbers.{carry_into}
use Rattle.clause_words.proofs.ProductNumbers.{low_bits, part}
use Rattle.clause_words.proofs.Sums.{sum_from, sum_to}

module _ (u : ℕ → Bool) (w a b h : ℕ) (x y : ℕ → Bool)
    (first : (k : ℕ) → k < w → u (a + k) ≡ x k) (second : (k : ℕ) → k < w → u (b + k) ≡ y k) where
  -- the sum after stage k
  abbrev pub HasSum : ℕ → Type 0
  HasSum k = (i : ℕ) → i < w - k → u (sum_start w h k + i) ≡ part x y k i

  -- what the helpers of stage k + 1 are
  pub record IsStage (k : ℕ) : Type 0 where
    pub times : (i : ℕ) → i < w - suc k → u (stage_start w h k + i) ≡ (x i && y (suc k))
    pub sums : HasSum (suc k)
    pub carries : (i : ℕ) → i + 1 < w - suc k → u (sum_start w h (suc k) + (w - suc k) + i)
        ≡ carry_into (λ j. part x y k (suc j)) (λ j. x j && y (suc k)) (suc i)

  shifted : (k : ℕ) → HasSum k → (i : ℕ) → i < w - suc k → u (sum_start w h k + 1 + i) ≡ part x y k (suc i)
  shifted k sum i h' = let e : sum_start w h k + 1 + i ≡ sum_start w h k + suc i = omega arith in ap u e ∙ sum (suc i) (omega arith)

  one_of : (k : ℕ) → suc k < w → u (b + suc k + 0) ≡ y (suc k)
  one_of k h' = let e : b + suc k + 0 ≡ b + suc k = omega arith in ap u e ∙ second (suc k) h'

  times_from : (k : ℕ) → suc k < w → MeetsAll u (row_clauses (w - suc k) (Times (stage_start w h k) a (b + suc k)))
      → (i : ℕ) → i < w - suc k → u (stage_start w h k + i) ≡ (x i && y (suc k))
  times_from k h' m i i' =
      (and_says u (bit (stage_start w h k) i) (bit a i) (bit (b + suc k) 0)).0
      (met_columns u (column (Times (stage_start w h k) a (b + suc k))) (w - suc k) m i i')
      ∙ ap (λ (z : Bool). z && u (b + suc k + 0)) (first i (omega arith)) ∙ ap (λ (z : Bool). x i && z) (one_of k h')

  pub stage_from : (k : ℕ) → suc k < w → HasSum k → MeetsAll u (stage_clauses w a b h k) → IsStage k
  stage_from k h' sum m =
      let parts = append_met u (row_clauses (w - suc k) (Times (stage_start w h k) a (b + suc k)))
      (row_clauses (w - suc k) (Sum (w - suc k) (sum_start w h (suc k)) (sum_start w h k + 1) (stage_start w h k)
      (sum_start w h (suc k) + (w - suc k)))) m in
      let all = sum_from u (w - suc k) (bit (sum_start w h (suc k))) (bit (sum_start w h k + 1)) (bit (stage_start w h k))
      (bit (sum_start w h (suc k) + (w - suc k))) (λ j. part x y k (suc j)) (λ j. x j && y (suc k)) (shifted k sum)
      (times_from k h' parts.0) parts.1 in
      record { times = times_from k h' parts.0; sums = all.own; carries = all.carries }

  pub stage_to : (k : ℕ) → suc k < w → HasSum k → IsStage k → MeetsAll u (stage_clauses w a b h k)
  stage_to k h' sum s =
      met_append u (row_clauses (w - suc k) (Times (stage_start w h k) a (b + suc k)))
      (row_clauses (w - suc k) (Sum (w - suc k) (sum_start w h (suc k)) (sum_start w h k + 1) (stage_start w h k)
      (sum_start w h (suc k) + (w - suc k))))
      (columns_met u (column (Times (stage_start w h k) a (b + suc k))) (w - suc k) (λ i i'.
      (and_says u (bit (stage_start w h k) i) (bit a i) (bit (b + suc k) 0)).1
      (s.times i i' ∙ sym (ap (λ (z : Bool). z && u (b + suc k + 0)) (first i (omega arith)) ∙ ap (λ (z : Bool). x i && z) (one_of k h')))))
      (sum_to u (w - suc k) (bit (sum_start w h (suc k))) (bit (sum_start w h k + 1)) (bit (stage_start w h k))
      (bit (sum_start w h (suc k) + (w - suc k))) (λ j. part x y k (suc j)) (λ j. x j && y (suc k)) (shifted k sum)
      s.times (record { own = s.sums; carries = s.carries }))

  lowest : 0 < w → u (b + 0) ≡ y 0
  lowest h' = second 0 h'

  pub start_from : MeetsAll u (row_clauses w (Times h a b)) → HasSum 0
  start_from m i i' =
      (and_says u (bit h i) (bit a i) (bit b 0)).0 (met_columns u (column (Times h a b)) w m i (omega arith))
      ∙ ap (λ (z : Bool). z && u (b + 0)) (first i (omega arith)) ∙ ap (λ (z : Bool). x i && z) (lowest (omega arith))

  pub start_to : HasSum 0 → MeetsAll u (row_clauses w (Times h a b))
  start_to s = columns_met u (column (Times h a b)) w (λ i i'.
      (and_says u (bit h i) (bit a i) (bit b 0)).1
      (s i (omega arith) ∙ sym (ap (λ (z : Bool). z && u (b + 0)) (first i i') ∙ ap (λ (z : Bool). x i && z) (lowest (omega arith)))))

  -- the sums after all stages
  pub sums_from : MeetsAll u (row_clauses w (Times h a b)) → MeetsAll u (columns (stage_clauses w a b h) (w - 1)) → (k : ℕ) → k < w → HasSum k
  sums_from m n zero h' = start_from m
  sums_from m n (suc k) h' =
      (stage_from k h' (sums_from m n k (omega arith)) (met_columns u (stage_clauses w a b h) (w - 1) n k (omega arith))).sums

  -- the result is the lowest bits of the sums
  pub result_from : (r : ℕ) → MeetsAll u (product_row w r a b h) → (j : ℕ) → j < w → u (r + j) ≡ low_bits x y j
  result_from r m j j' =
      let parts = append_met u (row_clauses w (Times h a b)) (columns (stage_clauses w a b h) (w - 1)
      ++ columns (λ k. copy_gate (bit r k) (positive (sum_start w h k))) w) m in
      let rest = append_met u (columns (stage_clauses w a b h) (w - 1)) (columns (λ k. copy_gate (bit r k) (positive (sum_start w h k))) w) parts.1 in
      let e : sum_start w h j ≡ sum_start w h j + 0 = omega arith in
      (copy_says u (bit r j) (positive (sum_start w h j))).0 (met_columns u (λ k. copy_gate (bit r k) (positive (sum_start w h k))) w rest.1 j j')
      ∙ ap u e ∙ sums_from parts.0 rest.0 j j' 0 (omega arith)

  pub row_to : (r : ℕ) → ((k : ℕ) → k < w → HasSum k) → ((k : ℕ) → suc k < w → IsStage k)
      → ((j : ℕ) → j < w → u (r + j) ≡ low_bits x y j) → MeetsAll u (product_row w r a b h)
  row_to r sums stages result =
      met_append u (row_clauses w (Times h a b)) (columns (stage_clauses w a b h) (w - 1)
      ++ columns (λ k. copy_gate (bit r k) (positive (sum_start w h k))) w)
      (columns_met u (column (Times h a b)) w (λ i i'.
      (and_says u (bit h i) (bit a i) (bit b 0)).1
      (sums 0 (omega arith) i (omega arith) ∙ sym (ap (λ (z : Bool). z && u (b + 0)) (first i i') ∙ ap (λ (z : Bool). x i && z) (lowest (omega arith))))))
      (met_append u (columns (stage_clauses w a b h) (w - 1)) (columns (λ k. copy_gate (bit r k) (positive (sum_start w h k))) w)
      (columns_met u (stage_clauses w a b h) (w - 1) (λ k k'. stage_to k (omega arith) (sums k (omega arith)) (stages k (omega arith))))
      (columns_met u (λ k. copy_gate (bit r k) (positive (sum_start w h k))) w (λ j j'.
      let e : sum_start w h j ≡ sum_start w h j + 0 = omega arith in
      (copy_says u (bit r j) (positive (sum_start w h j))).1 (result j j' ∙ sym (ap u e ∙ sums j j' 0 (omega arith))))))

  pub stages_from : (r : ℕ) → MeetsAll u (product_row w r a b h) → HasSum 0 × ((k : ℕ) → suc k < w → IsStage k)
  stages_from r m =
      let parts = append_met u (row_clauses w (Times h a b)) (columns (stage_clauses w a b h) (w - 1)
      ++ columns (λ k. copy_gate (bit r k) (positive (sum_start w h k))) w) m in
      let rest = append_met u (columns (stage_clauses w a b h) (w - 1)) (columns (λ k. copy_gate (bit r k) (positive (sum_start w h k))) w) parts.1 in (
        start_from parts.0,
        λ k k'.
            stage_from k k' (sums_from parts.0 rest.0 k (omega arith)) (met_columns u (stage_clauses w a b h) (w - 1) rest.0 k (omega arith)),
      )
