-- The stages of products, by number.
use Rattle.std.proofs.Common.{◌≡◌, ℕ, suc, ◌+◌, ◌-◌, ◌*◌, refl, add-one}
use Rattle.clauses.specs.declared.clause.Lit.{Lit}
use Rattle.clause_gates.specs.Gates.{copy_gate, positive}
use Rattle.clause_words.specs.Products.{stage_clauses, stage_rows, stage_start, sum_start}
use Rattle.clause_words.specs.Rows.{bit}

pub stage_is : (w a b h k n c start sum : ℕ) → n ≡ w - suc k → c ≡ b + suc k → start ≡ stage_start w h k → sum ≡ sum_start w h k
    → stage_rows n a c start (sum + 1) ≡ stage_clauses w a b h k
stage_is w a b h k n c start sum size bit first last = rw (size, bit, first, last) refl

pub sum_next : (w h k n start : ℕ) → n ≡ w - suc k → start ≡ stage_start w h k → start + n ≡ sum_start w h (k + 1)
sum_next w h k n start size first = rw (add-one, size, first) refl

pub start_next : (w h k n start : ℕ) → n ≡ w - suc k → start ≡ stage_start w h k → start + (3 * n - 1) ≡ stage_start w h (k + 1)
start_next w h k n start size first = rw (add-one, size, first) refl

pub copy_is : (w r h k : ℕ) (sum : ℕ) (l m : Lit) → l ≡ bit r (k + 1) → m ≡ positive sum → sum ≡ sum_start w h (k + 1)
    → copy_gate l m ≡ copy_gate (bit r (k + 1)) (positive (sum_start w h (k + 1)))
copy_is w r h k sum l m e f g = rw (e, f, g) refl
