-- The row of each operator says what the number of its node is.
use Rattle.std.proofs.Common.{◌≡◌, ℕ, ◌+◌, Bool, false, sym, ◌∙◌, ap, subst, arith, bit_and, bit_or, bit_xor}
use Rattle.insn_semantics.specs.Words as words
use Rattle.clause_words.specs.Numbers.{SayWithHelpers, word_value}
use Rattle.clause_words.proofs.Equalities.{equal_law}
use Rattle.clause_words.proofs.Numbers.{one_bit}
use Rattle.clause_words.proofs.Orders.{less_law, signed_law}
use Rattle.clause_words.proofs.ProductHelpers.{product_law}
use Rattle.clause_words.proofs.Sums.{difference_law, sum_law}
use Rattle.node_rows.specs.NodeRows.{helpers_of, node_clauses}
use Rattle.node_values.specs.declared.node.Node.{Node}
use Rattle.node_values.specs.declared.node.Node.TheVariants.{Const, Reg, Entry, VecByte, Start, Probe, Add, Sub, Mul, And, Or, Xor, Not, Shl, Shr, Sar, Cat, Cut, Sx, Eq, Ult, Slt, If}
use Rattle.node_values.specs.declared.node.NodeId.{NodeId}
use Rattle.node_values.specs.Nodes.{IsNode, node_width}
use Rattle.row_values.specs.RowValues.{ArgumentsHaveBits, ArgumentsStandBefore, RowsSayTheirValues, SaysItsValue, is_input}
use Rattle.row_values.proofs.PlainRows.{and_row, const_row, cut_row, extended_row, if_row, joined_row, left_row, not_row, or_row, right_row, signed_row, xor_row}

module _ (v : ℕ → Bool) (first widths : ℕ → ℕ) (n r : ℕ) where
  -- the width of a node, its number, and the number of so many bits of it
  abbrev W : NodeId → ℕ
  W a = widths a.0

  abbrev N : NodeId → ℕ
  N a = word_value v (W a) (first a.0)

  -- a fact of the second argument's number, at the width that it has itself
  at_width : (node : Node) (Fact : ℕ → Type 0) (a b : NodeId) → W a ≡ W b
      → SayWithHelpers v (r + node_width widths node) (helpers_of widths node) (node_clauses first widths r node) (Fact (word_value v (W a) (first b.0)))
      → SayWithHelpers v (r + node_width widths node) (helpers_of widths node) (node_clauses first widths r node) (Fact (N b))
  at_width node Fact a b e s =
      subst (λ (w : ℕ). SayWithHelpers v (r + node_width widths node) (helpers_of widths node) (node_clauses first widths r node) (Fact (word_value v w (first b.0)))) e s

  says : (node : Node) → IsNode widths n node → is_input node ≡ false → ArgumentsHaveBits widths node
      → ArgumentsStandBefore first widths r node → SaysItsValue v first widths r node
  says (Const w c) h i p s e = const_row v r w c h.2
  says (Reg side x) h i p s e = absurd (cc)
  says (Entry x) h i p s e = absurd (cc)
  says (VecByte side x k) h i p s e = absurd (cc)
  says (Start side at) h i p s e = absurd (cc)
  says Probe h i p s e = absurd (cc)
  says (Add a b) h i p s e =
      at_width (Add a b) (λ y. word_value v (W a) r ≡ words.plus (W a) (N a) y) a b h.2
      (sum_law v (W a) r (first a.0) (first b.0) (r + W a) (omega arith) (omega (arith, s.0)) (omega (arith, s.1.0, h.2)))
  says (Sub a b) h i p s e =
      at_width (Sub a b) (λ y. word_value v (W a) r ≡ words.minus (W a) (N a) y) a b h.2
      (difference_law v (W a) r (first a.0) (first b.0) (r + W a) (omega arith) (omega (arith, s.0)) (omega (arith, s.1.0, h.2)))
  says (Mul a b) h i p s e =
      at_width (Mul a b) (λ y. word_value v (W a) r ≡ words.times (W a) (N a) y) a b h.2
      (product_law v (W a) r (first a.0) (first b.0) (r + W a) p.0 (omega arith) (omega (arith, s.0)) (omega (arith, s.1.0, h.2)))
  says (And a b) h i p s e =
      at_width (And a b) (λ y. word_value v (W a) r ≡ bit_and (N a) y) a b h.2
      (and_row v r (W a) (first a.0) (first b.0) s.0 (omega (arith, s.1.0, h.2)))
  says (Or a b) h i p s e =
      at_width (Or a b) (λ y. word_value v (W a) r ≡ bit_or (N a) y) a b h.2
      (or_row v r (W a) (first a.0) (first b.0) s.0 (omega (arith, s.1.0, h.2)))
  says (Xor a b) h i p s e =
      at_width (Xor a b) (λ y. word_value v (W a) r ≡ bit_xor (N a) y) a b h.2
      (xor_row v r (W a) (first a.0) (first b.0) s.0 (omega (arith, s.1.0, h.2)))
  says (Not a) h i p s e = not_row v r (W a) (first a.0) s.0
  says (Shl a k) h i p s e = left_row v r (W a) (first a.0) s.0 k h.2
  says (Shr a k) h i p s e = right_row v r (W a) (first a.0) s.0 k h.2
  says (Sar a k) h i p s e = signed_row v r (W a) (first a.0) s.0 k h.1 h.2
  says (Cat high low) h i p s e = joined_row v r (W high) (W low) (first high.0) (first low.0) s.0 s.1.0
  says (Cut a k m) h i p s e = cut_row v r m (first a.0) (W a) k s.0 h.2
  says (Sx m a) h i p s e = extended_row v r m (first a.0) (W a) s.0 p.0 (omega (arith, h.1))
  says (Eq a b) h i p s e =
      at_width (Eq a b) (λ y. word_value v 1 r ≡ words.equal (N a) y) a b h.2
      (equal_law v (W a) r (first a.0) (first b.0) (r + 1) (omega arith) (omega (arith, s.0)) (omega (arith, s.1.0, h.2)))
  says (Ult a b) h i p s e =
      at_width (Ult a b) (λ y. word_value v 1 r ≡ words.below (N a) y) a b h.2
      (less_law v (W a) r (first a.0) (first b.0) (r + 1) p.0 (omega arith) (omega (arith, s.0)) (omega (arith, s.1.0, h.2)))
  says (Slt a b) h i p s e =
      at_width (Slt a b) (λ y. word_value v 1 r ≡ words.signed_below (W a) (N a) y) a b h.2
      (signed_law v (W a) r (first a.0) (first b.0) (r + 1) p.0 (omega arith) (omega (arith, s.0)) (omega (arith, s.1.0, h.2)))
  says (If c a b) h i p s e =
      at_width (If c a b) (λ y. word_value v (W a) r ≡ words.choice (N c) (N a) y) a b h.2.2
      (subst (λ (x : ℕ). SayWithHelpers v (r + W a) 0 (node_clauses first widths r (If c a b))
      (word_value v (W a) r ≡ words.choice x (N a) (word_value v (W a) (first b.0)))) (sym condition)
      (if_row v r (W a) (first a.0) (first b.0) s.1.0 (omega (arith, s.1.1.0, h.2.2)) (first c.0) (omega (arith, s.0, h.1))))
    where
      condition : N c ≡ words.bit (v (first c.0 + 0))
      condition = ap (λ (w : ℕ). word_value v w (first c.0)) h.1 ∙ one_bit (λ k. v (first c.0 + k))

pub rows_say : RowsSayTheirValues
rows_say v first widths n r node h i p s = says v first widths n r node h i p s
