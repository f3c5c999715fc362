-- Which flags the operations set, keep and unset.
use Rattle.std.proofs.Common.{◌≡◌, ℕ, zero, suc, ◌+◌, ◌-◌, ◌*◌, ◌/◌, ◌%◌, ◌^◌, ◌<◌, ◌≤◌, ◌==◌, true, false, Some, None, refl, sym, ◌∙◌, ap, arith}
use Rattle.std.specs.Prelude.{pos, bit_xor, int_lt, nat_lt, not, IsTrue}
use Rattle.std.specs.Int.Count.{ones_in}
use Rattle.std.proofs.lemmas.Bool.{eq-eqb, ne_eqb}
use Rattle.std.proofs.lemmas.Nat.{field_of, mod_below, pow-add, pow_pos}
use Rattle.std.proofs.Math.Nat.{div-div-eq-div-mul, div-eq_of_lt, div-one, mod-add-mod, mul-div-mul_right}
use Rattle.insn_ops.specs.declared.op.Flags.{Flags}
use Rattle.insn_ops.specs.declared.op.Op.{Op}
use Rattle.insn_ops.specs.declared.op.Op.TheVariants as ops
use Rattle.insn_semantics.specs.FlagRules.{Sets, flag_leaves, flags_after, is_even, is_negative, is_zero, left_operand, parity_bit, right_operand, result_rule}
use Rattle.insn_semantics.specs.Exprs.{Expr, value}
use Rattle.insn_semantics.specs.OperationGroups.{leaves_flags, is_bitwise, is_shift, sets_flags}
use Rattle.insn_semantics.specs.Rows.{Computes, computed}
use Rattle.insn_semantics.specs.SignedNumbers.{signed_number}
use Rattle.insn_semantics.specs.Words.{complement, cut, top}
use Rattle.insn_semantics.proofs.Comparisons.{bit-test}
use Rattle.insn_semantics.proofs.SignedWords.{top-is, top-signed_shift}
use Rattle.insn_semantics.proofs.WordLaws.{below-plus, computed_below}

pub sub_is_cmp : (w a b : ℕ) (before : Flags) → flags_after ops.Sub w a b before ≡ flags_after ops.Cmp w a b before
unfolding flags_after
sub_is_cmp w a b before = refl

pub neg_is_sub : (w a b : ℕ) (before : Flags) → flags_after ops.Neg w a b before ≡ flags_after ops.Sub w 0 a before
unfolding flags_after
neg_is_sub w a b before = refl

pub inc_is_add : (w a b : ℕ) (before : Flags) → flags_after ops.Inc w a b before ≡ record (flags_after ops.Add w a 1 before) { cf = before.cf }
unfolding flags_after
inc_is_add w a b before = refl

pub dec_is_sub : (w a b : ℕ) (before : Flags) → flags_after ops.Dec w a b before ≡ record (flags_after ops.Sub w a 1 before) { cf = before.cf }
unfolding flags_after
dec_is_sub w a b before = refl

pub imul_unsets : (w a b : ℕ) (before : Flags) → flags_after ops.Imul w a b before ≡ record { cf = None; pf = None; zf = None; sf = None; of = None }
unfolding flags_after
imul_unsets w a b before = refl

pub moves_keep : (op : Op) (w a b : ℕ) (before : Flags) → IsTrue (leaves_flags op) → flags_after op w a b before ≡ before
unfolding flags_after
moves_keep ops.Mov w a b before h = refl
moves_keep ops.Movabs w a b before h = refl
moves_keep ops.Not w a b before h = refl
moves_keep ops.Lea w a b before h = refl
moves_keep (ops.Movzx m) w a b before h = refl
moves_keep (ops.Movsx m) w a b before h = refl
moves_keep ops.Cltq w a b before h = refl
moves_keep (ops.Cmov c) w a b before h = refl
moves_keep (ops.Set c) w a b before h = refl
moves_keep (ops.Jump c) w a b before h = refl
moves_keep ops.Jmp w a b before h = refl
moves_keep ops.Push w a b before h = refl
moves_keep ops.Pop w a b before h = refl
moves_keep ops.Ret w a b before h = refl
moves_keep ops.Nop w a b before h = refl
moves_keep ops.Endbr64 w a b before h = refl
moves_keep (ops.Vector op) w a b before h = refl
moves_keep _ w a b before h = cc

-- a sum carries where the numbers' sum has one bit more, a difference borrows where its left operand is below the right
pub carry_after_add : (w a b : ℕ) (before : Flags) → a < 2 ^ w → b < 2 ^ w → (flags_after ops.Add w a b before).cf ≡ Some ((a + b) / 2 ^ w == 1)
unfolding flags_after
carry_after_add w a b before la lb = rw (below-plus w a b la lb) refl

pub carry_after_sub : (w a b : ℕ) (before : Flags) → (flags_after ops.Sub w a b before).cf ≡ Some (nat_lt a b)
unfolding flags_after
carry_after_sub w a b before = ap Some (bit-test _)

pub bitwise_carry : (op : Op) (w a b : ℕ) (before : Flags) → IsTrue (is_bitwise op) → ((flags_after op w a b before).cf ≡ Some false) × ((flags_after op w a b before).of ≡ Some false)
unfolding flags_after
bitwise_carry ops.Test w a b before h = (refl, refl)
bitwise_carry ops.And w a b before h = (refl, refl)
bitwise_carry ops.Or w a b before h = (refl, refl)
bitwise_carry ops.Xor w a b before h = (refl, refl)
bitwise_carry _ w a b before h = cc

-- a number has these bits at its places from 0 to n
ones_below : ℕ → ℕ → ℕ
ones_below zero r = 0
ones_below (suc n) r = ones_below n r + cut r n 1

xor_of_bits : (x y : ℕ) → x < 2 → y < 2 → bit_xor x y ≡ (x + y) % 2
xor_of_bits zero zero h k = refl
xor_of_bits zero (suc zero) h k = refl
xor_of_bits (suc zero) zero h k = refl
xor_of_bits (suc zero) (suc zero) h k = refl
xor_of_bits (suc (suc x)) y h k = absurd (omega arith)
xor_of_bits x (suc (suc y)) h k = absurd (omega arith)

xor_bits : (x y : ℕ) → y < 2 → bit_xor (x % 2) y ≡ (x + y) % 2
xor_bits x y h = xor_of_bits (x % 2) y (mod_below x 2 (omega arith)) h ∙ mod-add-mod x 2 y

-- the exclusive or of bits is their sum modulo 2
parity_sum : (r a b k : ℕ) → value (flag_leaves r a b) (parity_bit k) ≡ ones_below (suc k) r % 2
unfolding ones_below
parity_sum r a b zero =
    let low : cut r 0 1 < 2 = mod_below _ 2 (omega arith) in
    omega arith
parity_sum r a b (suc k) = rw (parity_sum r a b k) (xor_bits (ones_below (suc k) r) (cut r (suc k) 1) (mod_below _ 2 (omega arith)))

ones_of_eight : (r : ℕ) → ones_below 8 r ≡ ones_in 8 r
unfolding ones_below ones_in
ones_of_eight r = simp (div-div-eq-div-mul, div-one) (omega arith)

zero_turned : (x : ℕ) → x < 2 → (complement 1 x == 1) ≡ (x == 0)
zero_turned zero h = refl
zero_turned (suc zero) h = refl
zero_turned (suc (suc x)) h = absurd (omega arith)

even_bit : (n : ℕ) → (complement 1 (n % 2) == 1) ≡ (n % 2 == 0)
even_bit n = zero_turned (n % 2) (mod_below n 2 (omega arith))

-- the parity flag's formula tells whether the low eight bits have an even number of ones
pub is_even-is : (r a b : ℕ) → (value (flag_leaves r a b) is_even == 1) ≡ (ones_in 8 r % 2 == 0)
is_even-is r a b = rw (parity_sum r a b 7, ones_of_eight r) (even_bit (ones_in 8 r))

result_rule_sets : (op : Op) (x : Expr) → IsTrue (sets_flags op) → result_rule op x ≡ Sets x
result_rule_sets ops.Add x h = refl
result_rule_sets ops.Sub x h = refl
result_rule_sets ops.Cmp x h = refl
result_rule_sets ops.Inc x h = refl
result_rule_sets ops.Dec x h = refl
result_rule_sets ops.Neg x h = refl
result_rule_sets ops.Test x h = refl
result_rule_sets ops.And x h = refl
result_rule_sets ops.Or x h = refl
result_rule_sets ops.Xor x h = refl
result_rule_sets ops.Shl x h = refl
result_rule_sets ops.Shr x h = refl
result_rule_sets ops.Sar x h = refl
result_rule_sets _ x h = cc

pub parity_after : (op : Op) (w a b : ℕ) (before : Flags) → IsTrue (sets_flags op) → (flags_after op w a b before).pf ≡ Some (ones_in 8 (computed op w a b) % 2 == 0)
unfolding flags_after
parity_after op w a b before h = rw (result_rule_sets op is_even h) (ap Some (is_even-is (computed op w a b) (left_operand op a) (right_operand op a b)))

pub zero_after : (op : Op) (w a b : ℕ) (before : Flags) → IsTrue (sets_flags op) → (flags_after op w a b before).zf ≡ Some (computed op w a b == 0)
unfolding flags_after
zero_after op w a b before h = rw (result_rule_sets op (is_zero w) h) (ap Some (bit-test _))

some_width : (op : Op) (w a b : ℕ) → Computes op w a b → 0 < w
some_width ops.Mov w a b h = h.0
some_width ops.Movabs w a b h = h.0
some_width ops.Add w a b h = h.0
some_width ops.Sub w a b h = h.0
some_width ops.Cmp w a b h = h.0
some_width ops.Test w a b h = h.0
some_width ops.And w a b h = h.0
some_width ops.Or w a b h = h.0
some_width ops.Xor w a b h = h.0
some_width ops.Inc w a b h = h.0
some_width ops.Dec w a b h = h.0
some_width ops.Neg w a b h = h.0
some_width ops.Not w a b h = h.0
some_width ops.Shl w a b h = omega arith
some_width ops.Shr w a b h = omega arith
some_width ops.Sar w a b h = omega arith
some_width ops.Imul w a b h = h.0
some_width ops.Lea w a b h = h.0
some_width (ops.Movzx m) w a b h = omega arith
some_width (ops.Movsx m) w a b h = omega arith
some_width ops.Cltq w a b h = omega arith
some_width _ w a b h = absurd h

pub sign_after : (op : Op) (w a b : ℕ) (before : Flags) → IsTrue (sets_flags op) → Computes op w a b
    → (flags_after op w a b before).sf ≡ Some (int_lt (signed_number w (computed op w a b)) (pos 0))
unfolding flags_after
sign_after op w a b before h c =
    rw (result_rule_sets op (is_negative w) h)
    (ap Some (ap (λ (n : ℕ). n == 1) (top-is w (computed op w a b) (some_width op w a b c) (computed_below op w a b c)) ∙ bit-test _))

-- the carry of a shift to the left is the bit of weight 2^w of the product
shl_carry : (w a k : ℕ) → k ≤ w → cut a (w - k) 1 ≡ a * 2 ^ k / 2 ^ w % 2
shl_carry w a k order =
    let whole : w - k + k ≡ w = omega arith in
    let product : 2 ^ w ≡ 2 ^ (w - k) * 2 ^ k = rw whole at (pow-add 2 (w - k) k) in
    rw (product, mul-div-mul_right a (2 ^ (w - k)) (pow_pos k)) refl

-- that of a shift to the right is the highest of the k bits that are put out
shr_carry : (a k : ℕ) → 0 < k → cut a (k - 1) 1 ≡ a % 2 ^ k / 2 ^ (k - 1)
shr_carry a k some =
    let whole : 1 + (k - 1) ≡ k = omega arith in
    sym (rw whole at (field_of a 1 (k - 1)))

pub carry_after_shl : (w a k : ℕ) (before : Flags) → k ≤ w → (flags_after ops.Shl w a k before).cf ≡ Some (a * 2 ^ k / 2 ^ w % 2 == 1)
unfolding flags_after
carry_after_shl w a k before order = ap Some (ap (λ (n : ℕ). n == 1) (shl_carry w a k order))

pub carry_after_shr : (w a k : ℕ) (before : Flags) → 0 < k → (flags_after ops.Shr w a k before).cf ≡ Some (a % 2 ^ k / 2 ^ (k - 1) == 1)
unfolding flags_after
carry_after_shr w a k before some = ap Some (ap (λ (n : ℕ). n == 1) (shr_carry a k some))

pub carry_after_sar : (w a k : ℕ) (before : Flags) → 0 < k → (flags_after ops.Sar w a k before).cf ≡ Some (a % 2 ^ k / 2 ^ (k - 1) == 1)
unfolding flags_after
carry_after_sar w a k before some = ap Some (ap (λ (n : ℕ). n == 1) (shr_carry a k some))

xor_differs : (x y : ℕ) → x < 2 → y < 2 → (bit_xor x y == 1) ≡ not (x == y)
xor_differs zero zero h k = refl
xor_differs zero (suc zero) h k = refl
xor_differs (suc zero) zero h k = refl
xor_differs (suc zero) (suc zero) h k = refl
xor_differs (suc (suc x)) y h k = absurd (omega arith)
xor_differs x (suc (suc y)) h k = absurd (omega arith)

one_differs : (x : ℕ) → x < 2 → (x == 1) ≡ not (0 == x)
one_differs zero h = refl
one_differs (suc zero) h = refl
one_differs (suc (suc x)) h = absurd (omega arith)

same_equal : (x : ℕ) → (x == x) ≡ true
same_equal x = eq-eqb x x refl

-- a shift by one overflows where it changes the sign, and a shift by more leaves the overflow flag unset
pub overflow_after_one : (op : Op) (w a : ℕ) (before : Flags) → IsTrue (is_shift op) → Computes op w a 1
    → (flags_after op w a 1 before).of ≡ Some (not (top w (computed op w a 1) == top w a))
unfolding flags_after
overflow_after_one ops.Shl w a before h c = ap Some (xor_differs _ _ (mod_below _ 2 (omega arith)) (mod_below _ 2 (omega arith)))
overflow_after_one ops.Shr w a before h c =
    let whole : 1 + (w - 1) ≡ w = omega arith in
    let none : a / 2 / 2 ^ (w - 1) ≡ 0 = rw (div-div-eq-div-mul a 2 (2 ^ (w - 1)), ← pow-add 2 1 (w - 1), whole) (div-eq_of_lt c.1) in
    rw none (ap Some (one_differs _ (mod_below _ 2 (omega arith))))
overflow_after_one ops.Sar w a before h c = rw (top-signed_shift w a 1 c.3 c.1, same_equal (top w a)) refl
overflow_after_one _ w a before h c = cc

pub overflow_after_more : (op : Op) (w a k : ℕ) (before : Flags) → IsTrue (is_shift op) → 1 < k → (flags_after op w a k before).of ≡ None
unfolding flags_after
overflow_after_more ops.Shl w a k before h more = rw (ne_eqb k 1 (omega arith)) refl
overflow_after_more ops.Shr w a k before h more = rw (ne_eqb k 1 (omega arith)) refl
overflow_after_more ops.Sar w a k before h more = rw (ne_eqb k 1 (omega arith)) refl
overflow_after_more _ w a k before h more = cc

pub ruleset flag_laws = (
  sub_is_cmp,
  neg_is_sub,
  inc_is_add,
  dec_is_sub,
  imul_unsets,
  moves_keep,
  bitwise_carry,
  carry_after_add,
  carry_after_sub,
  carry_after_shl,
  carry_after_shr,
  carry_after_sar,
  overflow_after_one,
  overflow_after_more,
  parity_after,
  zero_after,
  sign_after,
)
