-- Columns of rows.
use Rattle.std.proofs.Common.{◌≡◌, ℕ, zero, suc, ◌+◌, ◌-◌, ◌<◌, List, [], ◌∷◌, ◌++◌, sym, ap, arith, if◌then◌else◌, add-one}
use Rattle.std.specs.Prelude.{nat_lt}
use Rattle.std.proofs.lemmas.List.FromFn.{map-range_with_len_more}
use Rattle.clauses.specs.declared.clause.Lit.{Lit}
use Rattle.clause_gates.specs.Gates.{majority_gate, negation, xor_gate}
use Rattle.clause_gates.specs.NormalForms.{normal_clauses}
use Rattle.clause_gates.proofs.Forms.{pushed_parts}
use Rattle.clause_words.specs.Rows.{all_alike, bit, columns, less_column, sum_column}

-- one more column behind others
pub pushed_column : (a b c : List (List Lit)) (clauses : ℕ → List (List Lit)) (k : ℕ) → b ≡ a ++ normal_clauses (columns clauses k)
    → c ≡ b ++ normal_clauses (clauses k) → c ≡ a ++ normal_clauses (columns clauses (k + 1))
pushed_column a b c clauses k p q = rw add-one (pushed_parts a b c (columns clauses k) (clauses k) p q)

-- the columns behind the first
pub less_later : (lower a b : ℕ → Lit) (k : ℕ) → 0 < k
    → less_column lower a b k ≡ majority_gate (lower k) (negation (a k)) (b k) (lower (k - 1))
less_later lower a b zero h = absurd (omega arith)
less_later lower a b (suc k) h =
    let e : suc k - 1 ≡ k = omega arith in
    ap (λ (j : ℕ). majority_gate (lower (suc k)) (negation (a (suc k))) (b (suc k)) (lower j)) (sym e)

pub sum_later : (w : ℕ) (r a b carry : ℕ → Lit) (k : ℕ) → 0 < k
    → sum_column w r a b carry k ≡ xor_gate (r k) (a k ∷ b k ∷ carry (k - 1) ∷ [])
    ++ (if nat_lt (k + 1) w then majority_gate (carry k) (a k) (b k) (carry (k - 1)) else [])
sum_later w r a b carry zero h = absurd (omega arith)
sum_later w r a b carry (suc k) h =
    let e : suc k - 1 ≡ k = omega arith in
    ap (λ (j : ℕ). xor_gate (r (suc k)) (a (suc k) ∷ b (suc k) ∷ carry j ∷ [])
    ++ (if nat_lt (suc k + 1) w then majority_gate (carry (suc k)) (a (suc k)) (b (suc k)) (carry j) else [])) (sym e)

-- one more literal of the clause of an equality
pub alike_more : (w r alike : ℕ) → all_alike w r alike ++ negation (bit alike w) ∷ [] ≡ all_alike (w + 1) r alike
alike_more w r alike =
    ap (λ (ls : List Lit). bit r 0 ∷ ls) (sym (map-range_with_len_more (λ k. negation (bit alike k)) 0 w w (omega arith)))

-- three parts behind others
pub pushed_three : (a b c d xs ys zs : List (List Lit)) → b ≡ a ++ normal_clauses xs → c ≡ b ++ normal_clauses ys
    → d ≡ c ++ normal_clauses zs → d ≡ a ++ normal_clauses (xs ++ (ys ++ zs))
pushed_three a b c d xs ys zs p q r = pushed_parts a b d xs (ys ++ zs) p (pushed_parts b c d ys zs q r)

-- a literal put behind the clause of an equality
pub put_behind : (xs ys : List Lit) (l m : Lit) (base : List Lit) → ys ≡ xs ++ l ∷ [] → xs ≡ base → l ≡ m → ys ≡ base ++ m ∷ []
put_behind xs ys l m base e f g = cc
