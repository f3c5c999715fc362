-- Expressions of the operators on words over numbered leaves, and their values. The value of an instruction's row
-- is the value of its expression, for the emulator as for what is proved of all inputs.
use Rattle.std.specs.Prelude.{ℕ, ◌==◌, List, [], ◌∷◌, ◌++◌, bit_and, bit_or, bit_xor, filter, not, if◌then◌else◌}
use Rattle.insn_semantics.specs.Words as words

-- the operators of two arguments of one width; the last three answer one bit
pub data Operator : Type 0 where
  Plus : Operator
  Minus : Operator
  Times : Operator
  And : Operator
  Or : Operator
  Xor : Operator
  Equal : Operator
  Below : Operator
  SignedBelow : Operator

-- how a word is shifted
pub data Shift : Type 0 where
  Left : Shift
  Right : Shift
  Signed : Shift

-- an expression over words, which are leaves with numbers
pub data Expr : Type 0 where
  Leaf : ℕ → Expr  -- the word of this number
  Number : ℕ → ℕ → Expr  -- w bits, the number
  Two : Operator → ℕ → Expr → Expr → Expr  -- two arguments of w bits
  Not : ℕ → Expr → Expr  -- w bits
  Shifted : Shift → ℕ → Expr → ℕ → Expr  -- w bits, shifted by k
  Joined : ℕ → Expr → Expr → Expr  -- the second has n bits
  Cut : Expr → ℕ → ℕ → Expr  -- n bits from bit k on
  Extended : ℕ → ℕ → Expr → Expr  -- from m bits to n by the sign
  Choice : Expr → Expr → Expr → Expr  -- the second where the first is 1, else the third
  Let : ℕ → Expr → Expr → Expr  -- the first is built before the second, in which the leaf of this number names it

-- the value of an operator at two words of w bits
abbrev pub operator_value : Operator → ℕ → ℕ → ℕ → ℕ
operator_value Plus w a b = words.plus w a b
operator_value Minus w a b = words.minus w a b
operator_value Times w a b = words.times w a b
operator_value And w a b = bit_and a b
operator_value Or w a b = bit_or a b
operator_value Xor w a b = bit_xor a b
operator_value Equal w a b = words.equal a b
operator_value Below w a b = words.below a b
operator_value SignedBelow w a b = words.signed_below w a b

-- a word of w bits, shifted by k
abbrev pub shift_value : Shift → ℕ → ℕ → ℕ → ℕ
shift_value Left w a k = words.left_shift w a k
shift_value Right w a k = words.right_shift a k
shift_value Signed w a k = words.signed_shift w a k

-- the leaves with leaf i being v
abbrev pub with_leaf : (ℕ → ℕ) → ℕ → ℕ → ℕ → ℕ
with_leaf leaves i v j = if j == i then v else leaves j

-- the value of an expression where leaf i is the word that leaves gives to i
abbrev pub value : (ℕ → ℕ) → Expr → ℕ
value leaves (Leaf i) = leaves i
value leaves (Number w v) = v
value leaves (Two operator w x y) = operator_value operator w (value leaves x) (value leaves y)
value leaves (Not w x) = words.complement w (value leaves x)
value leaves (Shifted shift w x k) = shift_value shift w (value leaves x) k
value leaves (Joined n x y) = words.concatenation n (value leaves x) (value leaves y)
value leaves (Cut x k n) = words.cut (value leaves x) k n
value leaves (Extended m n x) = words.sign_extension m n (value leaves x)
value leaves (Choice c x y) = words.choice (value leaves c) (value leaves x) (value leaves y)
value leaves (Let i x y) = value (with_leaf leaves i (value leaves x)) y

-- the leaves that an expression names, in their order, without those that name a part of it
abbrev pub leaves_of : Expr → List ℕ
leaves_of (Leaf i) = i ∷ []
leaves_of (Number w v) = []
leaves_of (Two operator w x y) = leaves_of x ++ leaves_of y
leaves_of (Not w x) = leaves_of x
leaves_of (Shifted shift w x k) = leaves_of x
leaves_of (Joined n x y) = leaves_of x ++ leaves_of y
leaves_of (Cut x k n) = leaves_of x
leaves_of (Extended m n x) = leaves_of x
leaves_of (Choice c x y) = leaves_of c ++ leaves_of x ++ leaves_of y
leaves_of (Let i x y) = leaves_of x ++ filter (λ j. not (j == i)) (leaves_of y)
