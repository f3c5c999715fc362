-- Expressions whose widths agree, and their widths.
use Rattle.std.specs.Prelude.{◌≡◌, ℕ, ◌+◌, ◌^◌, ◌<◌, ◌≤◌}
use Rattle.insn_semantics.specs.Exprs.{Expr, Leaf, Number, Two, Not, Shifted, Joined, Cut, Extended, Choice, Let, Operator, Equal, Below, SignedBelow, with_leaf}

-- the width of an operator's result on words of w bits
abbrev pub operator_width : Operator → ℕ → ℕ
operator_width Equal w = 1
operator_width Below w = 1
operator_width SignedBelow w = 1
operator_width _ w = w

-- the width of an expression, from the widths of its leaves
abbrev pub expr_width : (ℕ → ℕ) → Expr → ℕ
expr_width leaves (Leaf i) = leaves i
expr_width leaves (Number w v) = w
expr_width leaves (Two operator w x y) = operator_width operator w
expr_width leaves (Not w x) = w
expr_width leaves (Shifted shift w x k) = w
expr_width leaves (Joined n x y) = expr_width leaves x + n
expr_width leaves (Cut x k n) = n
expr_width leaves (Extended m n x) = n
expr_width leaves (Choice c x y) = expr_width leaves x
expr_width leaves (Let i x y) = expr_width (with_leaf leaves i (expr_width leaves x)) y

-- The widths of an expression agree: each argument has the width that its operator names, numbers are words, and
-- shifts, cuts, joins and extensions are those of nodes.
abbrev pub IsFormed : (ℕ → ℕ) → Expr → Type 0
IsFormed leaves (Leaf i) = Unit {0}
IsFormed leaves (Number w v) = (0 < w) × (w ≤ 64) × (v < 2 ^ w)
IsFormed leaves (Two operator w x y) =
    (expr_width leaves x ≡ w) × (expr_width leaves y ≡ w) × IsFormed leaves x × IsFormed leaves y
IsFormed leaves (Not w x) = (expr_width leaves x ≡ w) × IsFormed leaves x
IsFormed leaves (Shifted shift w x k) = (expr_width leaves x ≡ w) × (0 < k) × (k < w) × IsFormed leaves x
IsFormed leaves (Joined n x y) =
    (expr_width leaves y ≡ n) × (expr_width leaves x + n ≤ 64) × IsFormed leaves x × IsFormed leaves y
IsFormed leaves (Cut x k n) = (0 < n) × (k + n ≤ expr_width leaves x) × IsFormed leaves x
IsFormed leaves (Extended m n x) = (expr_width leaves x ≡ m) × (m < n) × (n ≤ 64) × IsFormed leaves x
IsFormed leaves (Choice c x y) =
    (expr_width leaves c ≡ 1) × (expr_width leaves x ≡ expr_width leaves y) × IsFormed leaves c × IsFormed leaves x × IsFormed leaves y
IsFormed leaves (Let i x y) = IsFormed leaves x × IsFormed (with_leaf leaves i (expr_width leaves x)) y

-- an expression whose widths agree, of n bits
pub record IsFormedAt (widths : ℕ → ℕ) (n : ℕ) (x : Expr) : Type 0 where
  pub formed : IsFormed widths x
  pub width : expr_width widths x ≡ n
