-- The rows of the operators on words, as clauses. Bit k of a word is the variable k places behind its lowest.
use Rattle.std.specs.Prelude.{ℕ, zero, suc, ◌+◌, ◌-◌, ◌/◌, ◌%◌, ◌^◌, ◌<◌, ◌≤◌, ◌==◌, min, List, [], ◌∷◌, ◌++◌, map, nat_lt, if◌then◌else◌}
use Rattle.std.specs.List.{range_with_len}
use Rattle.clauses.specs.declared.clause.Lit.{Lit}
use Rattle.clause_gates.specs.Gates.{and_gate, choice_gate, copy_gate, majority_gate, negation, not_gate, or_gate, positive, xor_gate}
use Rattle.clause_words.specs.declared.row.Row.{Row}
use Rattle.clause_words.specs.declared.row.Row.TheVariants.{Const, And, Times, Or, Xor, Not, If, Shl, Shr, Sar, Cut, Sx, Cat, Sum, Less, SignedLess, Alike, Each}

-- bit k of a word whose lowest bit is this variable
abbrev pub bit : ℕ → ℕ → Lit
bit word k = positive (word + k)

-- the clause that a literal is true
abbrev pub unit : Lit → List (List Lit)
unit l = (l ∷ []) ∷ []

-- The column of a sum of w bits: its bit tells whether an odd number of both bits and of the carry are 1, and where a
-- next column is, the carry into it is what most of them are. Carry k goes out of column k.
abbrev pub sum_column : ℕ → (ℕ → Lit) → (ℕ → Lit) → (ℕ → Lit) → (ℕ → Lit) → ℕ → List (List Lit)
sum_column w r a b carry zero =
    xor_gate (r 0) (a 0 ∷ b 0 ∷ []) ++ (if nat_lt 1 w then and_gate (carry 0) (a 0) (b 0) else [])
sum_column w r a b carry (suc k) =
    xor_gate (r (suc k)) (a (suc k) ∷ b (suc k) ∷ carry k ∷ [])
    ++ (if nat_lt (suc k + 1) w then majority_gate (carry (suc k)) (a (suc k)) (b (suc k)) (carry k) else [])

-- The column of an order of w bits: lower k tells whether the lowest k + 1 bits of a are below those of b. The last is
-- the result.
abbrev pub less_column : (ℕ → Lit) → (ℕ → Lit) → (ℕ → Lit) → ℕ → List (List Lit)
less_column lower a b zero = and_gate (lower 0) (negation (a 0)) (b 0)
less_column lower a b (suc k) = majority_gate (lower (suc k)) (negation (a (suc k))) (b (suc k)) (lower k)

-- helper k, and in the last of w places the result
abbrev pub last_place : ℕ → Lit → (ℕ → Lit) → ℕ → Lit
last_place w r lower k = if k + 1 == w then r else lower k

-- the bits of a word, the highest of w exchanged for another word's
abbrev pub top_exchanged : ℕ → (ℕ → Lit) → (ℕ → Lit) → ℕ → Lit
top_exchanged w a b k = if k + 1 == w then b k else a k

-- the clauses of column k of a row
abbrev pub column : Row → ℕ → List (List Lit)
column (Const r v) k = unit (if v / 2 ^ k % 2 == 1 then bit r k else negation (bit r k))
column (And r a b) k = and_gate (bit r k) (bit a k) (bit b k)
column (Times r a b) k = and_gate (bit r k) (bit a k) (bit b 0)
column (Or r a b) k = or_gate (bit r k) (bit a k) (bit b k)
column (Xor r a b) k = xor_gate (bit r k) (bit a k ∷ bit b k ∷ [])
column (Not r a) k = not_gate (bit r k) (bit a k)
column (If r c a b) k = choice_gate (bit r k) (bit c 0) (bit a k) (bit b k)
column (Shl r a by) k = if nat_lt k by then unit (negation (bit r k)) else copy_gate (bit r k) (bit a (k - by))
column (Shr w r a by) k = if nat_lt (k + by) w then copy_gate (bit r k) (bit a (k + by)) else unit (negation (bit r k))
column (Sar w r a by) k = copy_gate (bit r k) (bit a (min (k + by) (w - 1)))
column (Cut r a from) k = copy_gate (bit r k) (bit a (k + from))
column (Sx m r a) k = copy_gate (bit r k) (bit a (min k (m - 1)))
column (Cat m r high low) k = copy_gate (bit r k) (if nat_lt k m then bit low k else bit high (k - m))
column (Sum w r a b carry) k = sum_column w (bit r) (bit a) (bit b) (bit carry) k
column (Less w r a b lower) k = less_column (last_place w (bit r 0) (bit lower)) (bit a) (bit b) k
column (SignedLess w r a b lower) k =
    less_column (last_place w (bit r 0) (bit lower)) (top_exchanged w (bit a) (bit b)) (top_exchanged w (bit b) (bit a)) k
column (Alike x a b) k = xor_gate (negation (bit x k)) (bit a k ∷ bit b k ∷ [])
column (Each r x) k = (negation (bit r 0) ∷ bit x k ∷ []) ∷ []

-- the clauses of the columns below w, the lowest first
abbrev pub columns : (ℕ → List (List Lit)) → ℕ → List (List Lit)
columns clauses zero = []
columns clauses (suc k) = columns clauses k ++ clauses k

-- the row of w columns
abbrev pub row_clauses : ℕ → Row → List (List Lit)
row_clauses w row = columns (column row) w

-- the clause that the bit r is 1, or some of the w bits of a word is 0
abbrev pub all_alike : ℕ → ℕ → ℕ → List Lit
all_alike w r alike = bit r 0 ∷ map (λ k. negation (bit alike k)) (range_with_len 0 w)

-- The row of an equality of w bits: a helper for each bit tells whether a and b have it alike, and r whether all do.
abbrev pub equal_row : ℕ → ℕ → ℕ → ℕ → ℕ → List (List Lit)
equal_row w r a b alike =
    row_clauses w (Alike alike a b) ++ (row_clauses w (Each r alike) ++ all_alike w r alike ∷ [])

-- the variables of these words are numbers of 32 bits: this many from each on
abbrev pub HasRoom : ℕ → ℕ → Type 0
HasRoom w word = word + w ≤ 2 ^ 32

-- the words of w bits of a row have room
abbrev pub RowHasRoom : ℕ → Row → Type 0
RowHasRoom w (Const r v) = (w ≤ 64) × HasRoom w r
RowHasRoom w (And r a b) = HasRoom w r × HasRoom w a × HasRoom w b
RowHasRoom w (Times r a b) = HasRoom w r × HasRoom w a × HasRoom 1 b
RowHasRoom w (Or r a b) = HasRoom w r × HasRoom w a × HasRoom w b
RowHasRoom w (Xor r a b) = HasRoom w r × HasRoom w a × HasRoom w b
RowHasRoom w (Not r a) = HasRoom w r × HasRoom w a
RowHasRoom w (If r c a b) = HasRoom w r × HasRoom 1 c × HasRoom w a × HasRoom w b
RowHasRoom w (Shl r a by) = HasRoom w r × HasRoom w a
RowHasRoom w (Shr whole r a by) = HasRoom w r × HasRoom whole a × (w + by ≤ 128)
RowHasRoom w (Sar whole r a by) = HasRoom w r × HasRoom whole a × (0 < whole) × (w + by ≤ 128)
RowHasRoom w (Cut r a from) = HasRoom w r × HasRoom (w + from) a
RowHasRoom w (Sx m r a) = HasRoom w r × HasRoom m a × (0 < m)
RowHasRoom w (Cat m r high low) = HasRoom w r × HasRoom m low × HasRoom w high
RowHasRoom w (Sum whole r a b carry) = HasRoom w r × HasRoom w a × HasRoom w b × HasRoom w carry
RowHasRoom w (Less whole r a b lower) = HasRoom 1 r × HasRoom w a × HasRoom w b × HasRoom w lower
RowHasRoom w (SignedLess whole r a b lower) = HasRoom 1 r × HasRoom w a × HasRoom w b × HasRoom w lower
RowHasRoom w (Alike x a b) = HasRoom w x × HasRoom w a × HasRoom w b
RowHasRoom w (Each r x) = HasRoom 1 r × HasRoom w x
