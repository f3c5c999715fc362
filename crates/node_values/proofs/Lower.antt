-- What numbers have where each is made from what lower numbers have.
use Rattle.std.proofs.Common.{◌≡◌, ℕ, zero, suc, ◌+◌, ◌<◌, ◌≤◌, refl, sym, ◌∙◌, arith}
use Rattle.node_values.specs.Sheets.{through, from_lower}

-- below n, what a number is made from is what the lower numbers have
abbrev pub IsLocal : {X : Type 0} → ((ℕ → X) → ℕ → X) → ℕ → Type 0
IsLocal {X} make n = (f g : ℕ → X) (i : ℕ) → i < n → ((j : ℕ) → j < i → f j ≡ g j) → make f i ≡ make g i

module _ {X : Type 0} (none : X) (make : (ℕ → X) → ℕ → X) (n : ℕ) (local : IsLocal make n) where
  -- more depth than a number changes nothing
  pub through_deep : (m depth i : ℕ) → i < m → i < n → i < depth → through none make depth i ≡ from_lower none make i
  unfolding through
  through_deep zero depth i a b c = absurd (omega arith)
  through_deep (suc m) zero i a b c = absurd (omega arith)
  through_deep (suc m) (suc depth) i a b c =
      local (through none make depth) (through none make i) i b
      (λ j h. through_deep m depth j (omega arith) (omega arith) (omega arith) ∙ sym (through_deep m i j (omega arith) (omega arith) h))

  pub from_lower-is : (i : ℕ) → i < n → from_lower none make i ≡ make (from_lower none make) i
  unfolding through
  from_lower-is i b =
      local (through none make i) (from_lower none make) i b
      (λ j h. through_deep (suc j) i j (omega arith) (omega arith) h)

-- two ways of making that agree below n
module _ {X : Type 0} (none : X) (make other : (ℕ → X) → ℕ → X) (n : ℕ) (local : IsLocal make n)
    (agree : (f : ℕ → X) (i : ℕ) → i < n → make f i ≡ other f i) where
  through_same : (depth i : ℕ) → i < n → through none make depth i ≡ through none other depth i
  unfolding through
  through_same zero i b = refl
  through_same (suc depth) i b =
      local (through none make depth) (through none other depth) i b
      (λ j h. through_same depth j (omega arith))
      ∙ agree (through none other depth) i b

  pub from_lower_same : (i : ℕ) → i < n → from_lower none make i ≡ from_lower none other i
  from_lower_same i b = through_same (suc i) i b
