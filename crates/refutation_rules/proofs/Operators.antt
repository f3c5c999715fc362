-- A node by its operator: its width and value come from what its arguments have, by their places.
use Rattle.std.proofs.Common.{◌≡◌, ℕ, ◌%◌, ◌^◌, true, false, Some, refl, sym, ◌∙◌, ap}
use Rattle.std.specs.Prelude.{slice_index}
use Rattle.std.proofs.lemmas.Bool.{both_ways}
use Rattle.node_values.specs.declared.node.Node.{Node}
use Rattle.node_values.specs.declared.node.Node.TheVariants.{Const, Reg, Entry, VecByte, Start, Probe, Add, Sub, Mul, And, Or, Xor, Not, Shl, Shr, Sar, Cat, Cut, Sx, Eq, Ult, Slt, If}
use Rattle.node_values.specs.Nodes.{arguments, node_width}
use Rattle.node_values.specs.Values.{Environment, node_value}
use Rattle.duty_claims.specs.Needs.{address_of, is_start, side_of}
use Rattle.resolution_chains.proofs.Marking.{none_some, some_same}
use Rattle.refutation_rules.specs.declared.equation.Equation.{Equation}
use Rattle.refutation_rules.specs.Operators.{equation_in, operator_of}

-- what the argument in a place has
abbrev pub at_place : (ℕ → ℕ) → Node → ℕ → ℕ
at_place f n place = f (slice_index (arguments n) place)

width_by_operator : (widths : ℕ → ℕ) (n : Node) → node_width widths n ≡ node_width (at_place widths n) (operator_of n)
width_by_operator widths (Const w v) = refl
width_by_operator widths (Reg side r) = refl
width_by_operator widths (Entry r) = refl
width_by_operator widths (VecByte side r i) = refl
width_by_operator widths (Start side at) = refl
width_by_operator widths Probe = refl
width_by_operator widths (Add a b) = refl
width_by_operator widths (Sub a b) = refl
width_by_operator widths (Mul a b) = refl
width_by_operator widths (And a b) = refl
width_by_operator widths (Or a b) = refl
width_by_operator widths (Xor a b) = refl
width_by_operator widths (Not a) = refl
width_by_operator widths (Shl a k) = refl
width_by_operator widths (Shr a k) = refl
width_by_operator widths (Sar a k) = refl
width_by_operator widths (Cat high low) = refl
width_by_operator widths (Cut a k n) = refl
width_by_operator widths (Sx n a) = refl
width_by_operator widths (Eq a b) = refl
width_by_operator widths (Ult a b) = refl
width_by_operator widths (Slt a b) = refl
width_by_operator widths (If c a b) = refl

start_by_operator : (n : Node) → is_start n ≡ is_start (operator_of n)
start_by_operator (Const w v) = refl
start_by_operator (Reg side r) = refl
start_by_operator (Entry r) = refl
start_by_operator (VecByte side r i) = refl
start_by_operator (Start side at) = refl
start_by_operator Probe = refl
start_by_operator (Add a b) = refl
start_by_operator (Sub a b) = refl
start_by_operator (Mul a b) = refl
start_by_operator (And a b) = refl
start_by_operator (Or a b) = refl
start_by_operator (Xor a b) = refl
start_by_operator (Not a) = refl
start_by_operator (Shl a k) = refl
start_by_operator (Shr a k) = refl
start_by_operator (Sar a k) = refl
start_by_operator (Cat high low) = refl
start_by_operator (Cut a k n) = refl
start_by_operator (Sx n a) = refl
start_by_operator (Eq a b) = refl
start_by_operator (Ult a b) = refl
start_by_operator (Slt a b) = refl
start_by_operator (If c a b) = refl

value_by_operator : (e : Environment) (widths values : ℕ → ℕ) (n : Node) → is_start n ≡ false
    → node_value e widths values n ≡ node_value e (at_place widths n) (at_place values n) (operator_of n)
value_by_operator e widths values (Const w v) h = refl
value_by_operator e widths values (Reg side r) h = refl
value_by_operator e widths values (Entry r) h = refl
value_by_operator e widths values (VecByte side r i) h = refl
value_by_operator e widths values (Start side at) h = absurd (both_ways true h refl)
value_by_operator e widths values Probe h = refl
value_by_operator e widths values (Add a b) h = refl
value_by_operator e widths values (Sub a b) h = refl
value_by_operator e widths values (Mul a b) h = refl
value_by_operator e widths values (And a b) h = refl
value_by_operator e widths values (Or a b) h = refl
value_by_operator e widths values (Xor a b) h = refl
value_by_operator e widths values (Not a) h = refl
value_by_operator e widths values (Shl a k) h = refl
value_by_operator e widths values (Shr a k) h = refl
value_by_operator e widths values (Sar a k) h = refl
value_by_operator e widths values (Cat high low) h = refl
value_by_operator e widths values (Cut a k n) h = refl
value_by_operator e widths values (Sx n a) h = refl
value_by_operator e widths values (Eq a b) h = refl
value_by_operator e widths values (Ult a b) h = refl
value_by_operator e widths values (Slt a b) h = refl
value_by_operator e widths values (If c a b) h = refl

-- a byte of memory, by its side and the value of its address
pub value_of_byte : (e : Environment) (widths values : ℕ → ℕ) (n : Node) → is_start n ≡ true
    → node_value e widths values n ≡ e.memory (side_of n) (values (address_of n)) % 2 ^ 8
value_of_byte e widths values (Const w v) h = absurd (both_ways false refl h)
value_of_byte e widths values (Reg side r) h = absurd (both_ways false refl h)
value_of_byte e widths values (Entry r) h = absurd (both_ways false refl h)
value_of_byte e widths values (VecByte side r i) h = absurd (both_ways false refl h)
value_of_byte e widths values (Start side at) h = refl
value_of_byte e widths values Probe h = absurd (both_ways false refl h)
value_of_byte e widths values (Add a b) h = absurd (both_ways false refl h)
value_of_byte e widths values (Sub a b) h = absurd (both_ways false refl h)
value_of_byte e widths values (Mul a b) h = absurd (both_ways false refl h)
value_of_byte e widths values (And a b) h = absurd (both_ways false refl h)
value_of_byte e widths values (Or a b) h = absurd (both_ways false refl h)
value_of_byte e widths values (Xor a b) h = absurd (both_ways false refl h)
value_of_byte e widths values (Not a) h = absurd (both_ways false refl h)
value_of_byte e widths values (Shl a k) h = absurd (both_ways false refl h)
value_of_byte e widths values (Shr a k) h = absurd (both_ways false refl h)
value_of_byte e widths values (Sar a k) h = absurd (both_ways false refl h)
value_of_byte e widths values (Cat high low) h = absurd (both_ways false refl h)
value_of_byte e widths values (Cut a k n) h = absurd (both_ways false refl h)
value_of_byte e widths values (Sx n a) h = absurd (both_ways false refl h)
value_of_byte e widths values (Eq a b) h = absurd (both_ways false refl h)
value_of_byte e widths values (Ult a b) h = absurd (both_ways false refl h)
value_of_byte e widths values (Slt a b) h = absurd (both_ways false refl h)
value_of_byte e widths values (If c a b) h = absurd (both_ways false refl h)

pub address_by_place : (values : ℕ → ℕ) (n : Node) → is_start n ≡ true → values (address_of n) ≡ at_place values n 0
address_by_place values (Const w v) h = absurd (both_ways false refl h)
address_by_place values (Reg side r) h = absurd (both_ways false refl h)
address_by_place values (Entry r) h = absurd (both_ways false refl h)
address_by_place values (VecByte side r i) h = absurd (both_ways false refl h)
address_by_place values (Start side at) h = refl
address_by_place values Probe h = absurd (both_ways false refl h)
address_by_place values (Add a b) h = absurd (both_ways false refl h)
address_by_place values (Sub a b) h = absurd (both_ways false refl h)
address_by_place values (Mul a b) h = absurd (both_ways false refl h)
address_by_place values (And a b) h = absurd (both_ways false refl h)
address_by_place values (Or a b) h = absurd (both_ways false refl h)
address_by_place values (Xor a b) h = absurd (both_ways false refl h)
address_by_place values (Not a) h = absurd (both_ways false refl h)
address_by_place values (Shl a k) h = absurd (both_ways false refl h)
address_by_place values (Shr a k) h = absurd (both_ways false refl h)
address_by_place values (Sar a k) h = absurd (both_ways false refl h)
address_by_place values (Cat high low) h = absurd (both_ways false refl h)
address_by_place values (Cut a k n) h = absurd (both_ways false refl h)
address_by_place values (Sx n a) h = absurd (both_ways false refl h)
address_by_place values (Eq a b) h = absurd (both_ways false refl h)
address_by_place values (Ult a b) h = absurd (both_ways false refl h)
address_by_place values (Slt a b) h = absurd (both_ways false refl h)
address_by_place values (If c a b) h = absurd (both_ways false refl h)

-- what is found to be an equality is one
pub is_equality : (n : Node) (p : Equation) → equation_in n ≡ Some p → n ≡ Eq p.left p.right
is_equality (Const w v) p h = absurd (none_some p h)
is_equality (Reg side r) p h = absurd (none_some p h)
is_equality (Entry r) p h = absurd (none_some p h)
is_equality (VecByte side r i) p h = absurd (none_some p h)
is_equality (Start side at) p h = absurd (none_some p h)
is_equality Probe p h = absurd (none_some p h)
is_equality (Add a b) p h = absurd (none_some p h)
is_equality (Sub a b) p h = absurd (none_some p h)
is_equality (Mul a b) p h = absurd (none_some p h)
is_equality (And a b) p h = absurd (none_some p h)
is_equality (Or a b) p h = absurd (none_some p h)
is_equality (Xor a b) p h = absurd (none_some p h)
is_equality (Not a) p h = absurd (none_some p h)
is_equality (Shl a k) p h = absurd (none_some p h)
is_equality (Shr a k) p h = absurd (none_some p h)
is_equality (Sar a k) p h = absurd (none_some p h)
is_equality (Cat high low) p h = absurd (none_some p h)
is_equality (Cut a k n) p h = absurd (none_some p h)
is_equality (Sx n a) p h = absurd (none_some p h)
is_equality (Eq a b) p h = by_parts (some_same (record { left = a; right = b }) p h)
  where
    by_parts : record { left = a; right = b } ≡ p → Eq a b ≡ Eq p.left p.right
    by_parts e = ap (λ (q : Equation). Eq q.left q.right) e
is_equality (Ult a b) p h = absurd (none_some p h)
is_equality (Slt a b) p h = absurd (none_some p h)
is_equality (If c a b) p h = absurd (none_some p h)

-- Two nodes of one operator, whose arguments have the same widths by place.
module _ (widths : ℕ → ℕ) (n m : Node) (one : operator_of n ≡ operator_of m)
    (same : (place : ℕ) → at_place widths n place ≡ at_place widths m place) where
  pub alike_widths : node_width widths n ≡ node_width widths m
  alike_widths =
      width_by_operator widths n ∙ (λ i. node_width (λ place. same place i) (one i)) ∙ sym (width_by_operator widths m)

  -- and the same values
  module _ (e : Environment) (values : ℕ → ℕ) (equal : (place : ℕ) → at_place values n place ≡ at_place values m place) where
    pub alike_values : is_start n ≡ false → node_value e widths values n ≡ node_value e widths values m
    alike_values h =
        let k : is_start m ≡ false = start_by_operator m ∙ ap is_start (sym one) ∙ sym (start_by_operator n) ∙ h in
        value_by_operator e widths values n h
        ∙ (λ i. node_value e (λ place. same place i) (λ place. equal place i) (one i))
        ∙ sym (value_by_operator e widths values m k)

    -- bytes of memory at one address
    pub alike_addresses : is_start n ≡ true → (values (address_of n) ≡ values (address_of m)) × (is_start m ≡ true)
    alike_addresses h =
        let k : is_start m ≡ true = start_by_operator m ∙ ap is_start (sym one) ∙ sym (start_by_operator n) ∙ h in
        (address_by_place values n h ∙ equal 0 ∙ sym (address_by_place values m k), k)

    pub alike_bytes : is_start n ≡ true → side_of n ≡ side_of m → node_value e widths values n ≡ node_value e widths values m
    alike_bytes h sides =
        let both = alike_addresses h in
        value_of_byte e widths values n h ∙ (λ i. e.memory (sides i) (both.0 i) % 2 ^ 8) ∙ sym (value_of_byte e widths values m both.1)
