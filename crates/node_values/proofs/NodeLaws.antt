-- Laws of nodes: they depend on their arguments alone, and their values are words of their widths.
use Rattle.std.proofs.Common.{◌≡◌, ℕ, zero, suc, ◌+◌, ◌-◌, ◌*◌, ◌/◌, ◌%◌, ◌^◌, ◌<◌, ◌≤◌, ◌==◌, List, [], ◌∷◌, refl, sym, ◌∙◌, ap, subst, arith, Bool, true, false, if◌then◌else◌}
use Rattle.std.specs.Prelude.{slice_index, nat_lt, bit_and, bit_or, bit_xor}
use Rattle.std.specs.List.{AllByRecursion}
use Rattle.std.proofs.lemmas.Nat.{and_le_l, or_lt, xor_lt, pow_pos, mod_below, shr_below, shr_le, pow-add, pow_below}
use Rattle.std.proofs.Math.Nat.{mul-le-mul_right}
use Rattle.insn_semantics.specs.Words as words
use Rattle.insn_semantics.proofs.WordLaws.{power_grows, sign_extension_below}
use Rattle.node_values.specs.declared.node.Node.{Node}
use Rattle.node_values.specs.declared.node.Node.TheVariants.{Const, Reg, Entry, VecByte, Start, Probe, Add, Sub, Mul, And, Or, Xor, Not, Shl, Shr, Sar, Cat, Cut, Sx, Eq, Ult, Slt, If}
use Rattle.node_values.specs.Nodes.{IsNode, arguments, node_width}
use Rattle.node_values.specs.Values.{Environment, node_value}

-- a fact of each argument
abbrev pub AllArguments : (ℕ → Type 0) → Node → Type 0
AllArguments P n = AllByRecursion P (arguments n)

-- a fact of all lower numbers holds of the arguments
pub arguments_lower : (P : ℕ → Type 0) (widths : ℕ → ℕ) (n : ℕ) (node : Node) → IsNode widths n node
    → ((j : ℕ) → j < n → P j) → AllArguments P node
arguments_lower P widths n (Const w v) h p = tt
arguments_lower P widths n (Reg side r) h p = tt
arguments_lower P widths n (Entry r) h p = tt
arguments_lower P widths n (VecByte side r i) h p = tt
arguments_lower P widths n (Start side at) h p = (p at.0 h.0, tt)
arguments_lower P widths n Probe h p = tt
arguments_lower P widths n (Add a b) h p = (p a.0 h.0, (p b.0 h.1, tt))
arguments_lower P widths n (Sub a b) h p = (p a.0 h.0, (p b.0 h.1, tt))
arguments_lower P widths n (Mul a b) h p = (p a.0 h.0, (p b.0 h.1, tt))
arguments_lower P widths n (And a b) h p = (p a.0 h.0, (p b.0 h.1, tt))
arguments_lower P widths n (Or a b) h p = (p a.0 h.0, (p b.0 h.1, tt))
arguments_lower P widths n (Xor a b) h p = (p a.0 h.0, (p b.0 h.1, tt))
arguments_lower P widths n (Not a) h p = (p a.0 h, tt)
arguments_lower P widths n (Shl a k) h p = (p a.0 h.0, tt)
arguments_lower P widths n (Shr a k) h p = (p a.0 h.0, tt)
arguments_lower P widths n (Sar a k) h p = (p a.0 h.0, tt)
arguments_lower P widths n (Cat a b) h p = (p a.0 h.0, (p b.0 h.1, tt))
arguments_lower P widths n (Cut a k m) h p = (p a.0 h.0, tt)
arguments_lower P widths n (Sx m a) h p = (p a.0 h.0, tt)
arguments_lower P widths n (Eq a b) h p = (p a.0 h.0, (p b.0 h.1, tt))
arguments_lower P widths n (Ult a b) h p = (p a.0 h.0, (p b.0 h.1, tt))
arguments_lower P widths n (Slt a b) h p = (p a.0 h.0, (p b.0 h.1, tt))
arguments_lower P widths n (If c a b) h p = (p c.0 h.0, (p a.0 h.2.0, (p b.0 h.2.1, tt)))

-- the width is the same where the arguments have the same widths
pub node_width_same : (f g : ℕ → ℕ) (node : Node) → AllArguments (λ j. f j ≡ g j) node → node_width f node ≡ node_width g node
node_width_same f g (Const w v) h = refl
node_width_same f g (Reg side r) h = refl
node_width_same f g (Entry r) h = refl
node_width_same f g (VecByte side r i) h = refl
node_width_same f g (Start side at) h = refl
node_width_same f g Probe h = refl
node_width_same f g (Add a b) h = h.0
node_width_same f g (Sub a b) h = h.0
node_width_same f g (Mul a b) h = h.0
node_width_same f g (And a b) h = h.0
node_width_same f g (Or a b) h = h.0
node_width_same f g (Xor a b) h = h.0
node_width_same f g (Not a) h = h.0
node_width_same f g (Shl a k) h = h.0
node_width_same f g (Shr a k) h = h.0
node_width_same f g (Sar a k) h = h.0
node_width_same f g (Cat a b) h = λ i. h.0 i + h.1.0 i
node_width_same f g (Cut a k m) h = refl
node_width_same f g (Sx m a) h = refl
node_width_same f g (Eq a b) h = refl
node_width_same f g (Ult a b) h = refl
node_width_same f g (Slt a b) h = refl
node_width_same f g (If c a b) h = h.1.0

-- the value is the same where the arguments have the same widths and values
module _ (e : Environment) (f g x y : ℕ → ℕ) where
  -- two numbers have the same width and value
  abbrev pub SameAt : ℕ → Type 0
  SameAt j = (f j ≡ g j) × (x j ≡ y j)

  pub node_value_same : (node : Node) → AllArguments SameAt node → node_value e f x node ≡ node_value e g y node
  node_value_same (Const w v) h = refl
  node_value_same (Reg side r) h = refl
  node_value_same (Entry r) h = refl
  node_value_same (VecByte side r i) h = refl
  node_value_same (Start side at) h = λ i. e.memory side (h.0.1 i) % 2 ^ 8
  node_value_same Probe h = refl
  node_value_same (Add a b) h = λ i. words.plus (h.0.0 i) (h.0.1 i) (h.1.0.1 i)
  node_value_same (Sub a b) h = λ i. words.minus (h.0.0 i) (h.0.1 i) (h.1.0.1 i)
  node_value_same (Mul a b) h = λ i. words.times (h.0.0 i) (h.0.1 i) (h.1.0.1 i)
  node_value_same (And a b) h = λ i. bit_and (h.0.1 i) (h.1.0.1 i)
  node_value_same (Or a b) h = λ i. bit_or (h.0.1 i) (h.1.0.1 i)
  node_value_same (Xor a b) h = λ i. bit_xor (h.0.1 i) (h.1.0.1 i)
  node_value_same (Not a) h = λ i. words.complement (h.0.0 i) (h.0.1 i)
  node_value_same (Shl a k) h = λ i. words.left_shift (h.0.0 i) (h.0.1 i) k
  node_value_same (Shr a k) h = λ i. words.right_shift (h.0.1 i) k
  node_value_same (Sar a k) h = λ i. words.signed_shift (h.0.0 i) (h.0.1 i) k
  node_value_same (Cat a b) h = λ i. words.concatenation (h.1.0.0 i) (h.0.1 i) (h.1.0.1 i)
  node_value_same (Cut a k m) h = λ i. words.cut (h.0.1 i) k m
  node_value_same (Sx m a) h = λ i. words.sign_extension (h.0.0 i) m (h.0.1 i)
  node_value_same (Eq a b) h = λ i. words.equal (h.0.1 i) (h.1.0.1 i)
  node_value_same (Ult a b) h = λ i. words.below (h.0.1 i) (h.1.0.1 i)
  node_value_same (Slt a b) h = λ i. words.signed_below (h.0.0 i) (h.0.1 i) (h.1.0.1 i)
  node_value_same (If c a b) h = λ i. words.choice (h.0.1 i) (h.1.0.1 i) (h.1.1.0.1 i)

-- a node's width is from 1 to 64 where its arguments' widths are
abbrev pub IsWordWidth : ℕ → Type 0
IsWordWidth w = (0 < w) × (w ≤ 64)

pub node_width_ranged : (widths : ℕ → ℕ) (n : ℕ) (node : Node) → IsNode widths n node
    → AllArguments (λ j. IsWordWidth (widths j)) node → IsWordWidth (node_width widths node)
node_width_ranged widths n (Const w v) h p = (h.0, h.1)
node_width_ranged widths n (Reg side r) h p = (omega arith, omega arith)
node_width_ranged widths n (Entry r) h p = (omega arith, omega arith)
node_width_ranged widths n (VecByte side r i) h p = (omega arith, omega arith)
node_width_ranged widths n (Start side at) h p = (omega arith, omega arith)
node_width_ranged widths n Probe h p = (omega arith, omega arith)
node_width_ranged widths n (Add a b) h p = p.0
node_width_ranged widths n (Sub a b) h p = p.0
node_width_ranged widths n (Mul a b) h p = p.0
node_width_ranged widths n (And a b) h p = p.0
node_width_ranged widths n (Or a b) h p = p.0
node_width_ranged widths n (Xor a b) h p = p.0
node_width_ranged widths n (Not a) h p = p.0
node_width_ranged widths n (Shl a k) h p = p.0
node_width_ranged widths n (Shr a k) h p = p.0
node_width_ranged widths n (Sar a k) h p = p.0
node_width_ranged widths n (Cat a b) h p = (omega arith, h.2)
node_width_ranged widths n (Cut a k m) h p = (h.1, omega arith)
node_width_ranged widths n (Sx m a) h p = (omega arith, h.2)
node_width_ranged widths n (Eq a b) h p = (omega arith, omega arith)
node_width_ranged widths n (Ult a b) h p = (omega arith, omega arith)
node_width_ranged widths n (Slt a b) h p = (omega arith, omega arith)
node_width_ranged widths n (If c a b) h p = p.1.0

bit_below : (b : Bool) → words.bit b < 2 ^ 1
bit_below true = omega arith
bit_below false = omega arith

-- a join is a word of both widths together
pub joined_below : (m n high low : ℕ) → high < 2 ^ m → low < 2 ^ n → words.concatenation n high low < 2 ^ (m + n)
joined_below m n high low h l =
    let product : 2 ^ (m + n) ≡ 2 ^ m * 2 ^ n = pow-add 2 m n in
    let rows : suc high * 2 ^ n ≤ 2 ^ m * 2 ^ n = mul-le-mul_right (2 ^ n) h in
    rw product (omega arith)

chosen_below : (c a b n : ℕ) → a < n → b < n → words.choice c a b < n
chosen_below c a b n h k = elim (c == 0) as (λ t. (if t then b else a) < n) [ true ↦ k | false ↦ h ]

signed_shift_below : (w k a : ℕ) → k < w → a < 2 ^ w → words.signed_shift w a k < 2 ^ w
signed_shift_below w k a order word =
    let whole : w - k + k ≡ w = omega arith in
    let high : a / 2 ^ k < 2 ^ (w - k) = shr_below a (w - k) k (rw whole word) in
    sign_extension_below (w - k) w (a / 2 ^ k) (omega arith) high

-- a node's value is a word of its width where its arguments' values are
module _ (e : Environment) (widths values : ℕ → ℕ) where
  abbrev pub IsWordAt : ℕ → Type 0
  IsWordAt j = values j < 2 ^ widths j

  pub node_value_below : (n : ℕ) (node : Node) → IsNode widths n node → AllArguments IsWordAt node
      → node_value e widths values node < 2 ^ node_width widths node
  node_value_below n (Const w v) h p = h.2
  node_value_below n (Reg side r) h p = mod_below _ _ (pow_pos 64)
  node_value_below n (Entry r) h p = mod_below _ _ (pow_pos 64)
  node_value_below n (VecByte side r i) h p = mod_below _ _ (pow_pos 8)
  node_value_below n (Start side at) h p = mod_below _ _ (pow_pos 8)
  node_value_below n Probe h p = mod_below _ _ (pow_pos 64)
  node_value_below n (Add a b) h p = mod_below _ _ (pow_pos (widths a.0))
  node_value_below n (Sub a b) h p = mod_below _ _ (pow_pos (widths a.0))
  node_value_below n (Mul a b) h p = mod_below _ _ (pow_pos (widths a.0))
  node_value_below n (And a b) h p = omega (arith, and_le_l (values a.0) (values b.0), p.0)
  node_value_below n (Or a b) h p = or_lt (widths a.0) (values a.0) (values b.0) p.0 (rw h.2 p.1.0)
  node_value_below n (Xor a b) h p = xor_lt (widths a.0) (values a.0) (values b.0) p.0 (rw h.2 p.1.0)
  node_value_below n (Not a) h p = omega (arith, pow_pos (widths a.0))
  node_value_below n (Shl a k) h p = mod_below _ _ (pow_pos (widths a.0))
  node_value_below n (Shr a k) h p = omega (arith, shr_le (values a.0) k, p.0)
  node_value_below n (Sar a k) h p = signed_shift_below (widths a.0) k (values a.0) h.2 p.0
  node_value_below n (Cat a b) h p = joined_below (widths a.0) (widths b.0) (values a.0) (values b.0) p.0 p.1.0
  node_value_below n (Cut a k m) h p = mod_below _ _ (pow_pos m)
  node_value_below n (Sx m a) h p = sign_extension_below (widths a.0) m (values a.0) (omega arith) p.0
  node_value_below n (Eq a b) h p = bit_below (values a.0 == values b.0)
  node_value_below n (Ult a b) h p = bit_below (nat_lt (values a.0) (values b.0))
  node_value_below n (Slt a b) h p = bit_below _
  node_value_below n (If c a b) h p =
      chosen_below (values c.0) (values a.0) (values b.0) (2 ^ widths a.0) p.1.0 (rw h.2.2 p.1.1.0)
