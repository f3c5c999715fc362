-- The rules by which a node is built in a sheet: which node of the sheet it is, or which new node stands for it. They
-- are tried in this order, and the first that applies decides.
--
-- 1. Constant arguments give a constant, but for a byte of memory.
-- 2. A sum, `or` or `xor` with 0, a difference whose subtrahend is 0, and an `and` with all ones are the other
--    argument; an `and` with 0 is 0.
-- 3. `xor`, difference and both comparisons of a node with itself are 0, and so is `ult` with 0 behind; `and` and
--    `or` of a node with itself are the node.
-- 4. A cut of all is its argument; a cut of a cut is one cut; a cut within one part of a join is a cut of that part.
-- 5. A join of two adjacent cuts of one node is one cut of it.
-- 6. `if` of a constant is its branch, and `if` with two equal branches is the branch.
-- 7. `eq` of two nodes whose forms differ by a constant is 1 or 0.
-- 8. Of the arguments of a sum, product, `and`, `or`, `xor` and `eq` the one with the lower number stands first.
use Rattle.std.specs.Prelude.{ℕ, ◌+◌, ◌-◌, ◌^◌, ◌==◌, Bool, false, ◌&&◌, List, [], ◌∷◌, Option, Some, None, is_some, nat_le, slice_index, unwrap_or, if◌then◌else◌}
use Rattle.std.specs.List.{list_all}
use Rattle.insn_semantics.specs.Words.{bit, cut}
use Rattle.node_values.specs.declared.node.Node.{Node}
use Rattle.node_values.specs.declared.node.Node.TheVariants.{Const, Start, Add, Sub, Mul, And, Or, Xor, Cat, Cut, Eq, Ult, Slt, If}
use Rattle.node_values.specs.declared.node.NodeId.{NodeId}
use Rattle.node_values.specs.Nodes.{arguments, node_width}
use Rattle.node_values.specs.Values.{operation}
use Rattle.node_values.specs.Sheets.{from_lower, node_at, width_at}
use Rattle.node_forms.specs.Linearity.{constant_of}
use Rattle.node_forms.specs.Forms.{differ_by_constant, form_at}
use Rattle.terms.specs.declared.rules.Reduced.{Reduced}
use Rattle.terms.specs.declared.rules.Reduced.TheVariants.{Old, New}

-- constants of a list of nodes
abbrev pub is_constant : List Node → ℕ → Bool
is_constant ns i = is_some (constant_of (node_at ns i))

-- the number that a constant is, and 0 of another node
abbrev pub number_at : List Node → ℕ → ℕ
number_at ns i = unwrap_or (constant_of (node_at ns i)) 0

-- the node is the constant v
abbrev pub is_number : List Node → ℕ → ℕ → Bool
is_number ns v i = is_constant ns i && (number_at ns i == v)

-- rule 1: whether a node has arguments, and all are constants
abbrev pub are_constants : List Node → List ℕ → Bool
are_constants ns [] = false
are_constants ns (i ∷ is) = list_all (is_constant ns) (i ∷ is)

-- rule 1 applies: but for a byte of memory
abbrev pub is_folded : List Node → Node → Bool
is_folded ns (Start side at) = false
is_folded ns n = are_constants ns (arguments n)

-- rule 5: the node, the first bit and the number of bits that a cut cuts
abbrev pub cut_of : Node → Option (NodeId × ℕ × ℕ)
cut_of (Cut a k n) = Some (a, k, n)
cut_of _ = None

-- rule 8: of two nodes the one with the lower number, and the other
abbrev pub in_order : NodeId → NodeId → NodeId × NodeId
in_order a b = if nat_le a.0 b.0 then (a, b) else (b, a)

-- rule 8: the node of two arguments in order
abbrev pub ordered : (NodeId → NodeId → Node) → NodeId → NodeId → Reduced
ordered operator a b = New (operator (in_order a b).0 (in_order a b).1)

-- the rules in a list of nodes of these widths
module _ (ns : List Node) (widths : ℕ → ℕ) where
  -- rule 1: the constant that a node of constants is
  abbrev pub folded : Node → Node
  folded n =
      Const (node_width widths n)
      (operation widths n
      (number_at ns (slice_index (arguments n) 0))
      (number_at ns (slice_index (arguments n) 1))
      (number_at ns (slice_index (arguments n) 2)))

  -- rule 4: what a cut of a node is a cut of, where it is a cut of a cut or within one part of a join
  abbrev pub inner : Node → ℕ → ℕ → Option (NodeId × ℕ)
  inner (Cut a j m) k n = Some (a, j + k)
  inner (Cat high low) k n =
      if nat_le (k + n) (widths low.0) then Some (low, k)
      else (if nat_le (widths low.0) k then Some (high, k - widths low.0) else None)
  inner _ k n = None

  -- the n bits of node i from bit k on, from the cuts of lower nodes, by the rules 1 and 4
  abbrev pub cut_by_inner : (ℕ → ℕ → ℕ → Reduced) → ℕ → ℕ → ℕ → Option (NodeId × ℕ) → Reduced
  cut_by_inner cuts i k n None = New (Cut (record { 0 = i }) k n)
  cut_by_inner cuts i k n (Some part) = cuts part.0.0 part.1 n

  abbrev pub cut_made : (ℕ → ℕ → ℕ → Reduced) → ℕ → ℕ → ℕ → Reduced
  cut_made cuts i k n =
      if is_constant ns i then New (Const n (cut (number_at ns i) k n))
      else (if (k == 0) && (n == widths i) then Old (record { 0 = i })
      else cut_by_inner cuts i k n (inner (node_at ns i) k n))

  unfoldable pub cut_at : ℕ → ℕ → ℕ → Reduced
  cut_at i k n = from_lower (λ k m. Old (record { 0 = 0 })) cut_made i k n

  -- rule 5: the node, the first bit and the number of bits that a node is a cut of; a node is the cut of all of it
  abbrev pub part_by : NodeId → Option (NodeId × ℕ × ℕ) → NodeId × ℕ × ℕ
  part_by at None = (at, 0, widths at.0)
  part_by at (Some part) = part

  abbrev pub part_of : NodeId → Node → NodeId × ℕ × ℕ
  part_of at n = part_by at (cut_of n)

  abbrev pub joined : NodeId → NodeId → NodeId × ℕ × ℕ → NodeId × ℕ × ℕ → Reduced
  joined high low h l = if (h.0.0 == l.0.0) && (h.1 == l.1 + l.2) then cut_at l.0.0 l.1 (l.2 + h.2) else New (Cat high low)

  abbrev pub zero_of : NodeId → Reduced
  zero_of a = New (Const (widths a.0) 0)

  -- the rules behind the first
  abbrev pub unfolded : Node → Reduced
  unfolded (Add a b) = if is_number ns 0 b.0 then Old a else (if is_number ns 0 a.0 then Old b else ordered Add a b)
  unfolded (Sub a b) = if is_number ns 0 b.0 then Old a else (if a.0 == b.0 then zero_of a else New (Sub a b))
  unfolded (Mul a b) = ordered Mul a b
  unfolded (And a b) =
      if is_number ns (2 ^ widths b.0 - 1) b.0 then Old a
      else (if is_number ns (2 ^ widths a.0 - 1) a.0 then Old b
      else (if is_number ns 0 b.0 then Old b
      else (if is_number ns 0 a.0 then Old a else (if a.0 == b.0 then Old a else ordered And a b))))
  unfolded (Or a b) =
      if is_number ns 0 b.0 then Old a
      else (if is_number ns 0 a.0 then Old b else (if a.0 == b.0 then Old a else ordered Or a b))
  unfolded (Xor a b) =
      if is_number ns 0 b.0 then Old a
      else (if is_number ns 0 a.0 then Old b else (if a.0 == b.0 then zero_of a else ordered Xor a b))
  unfolded (Cat high low) = joined high low (part_of high (node_at ns high.0)) (part_of low (node_at ns low.0))
  unfolded (Cut a k n) = cut_at a.0 k n
  unfolded (Eq a b) =
      if differ_by_constant ns (widths a.0) a.0 b.0
      then New (Const 1 (bit ((form_at ns (widths a.0) a.0).constant == (form_at ns (widths a.0) b.0).constant)))
      else ordered Eq a b
  unfolded (Ult a b) = if a.0 == b.0 then New (Const 1 0) else (if is_number ns 0 b.0 then New (Const 1 0) else New (Ult a b))
  unfolded (Slt a b) = if a.0 == b.0 then New (Const 1 0) else New (Slt a b)
  unfolded (If c a b) =
      if is_constant ns c.0 then (if number_at ns c.0 == 0 then Old b else Old a)
      else (if a.0 == b.0 then Old a else New (If c a b))
  unfolded n = New n

  abbrev pub by_rules : Node → Reduced
  by_rules n = if is_folded ns n then New (folded n) else unfolded n

-- which node of a list a node is, or which new one stands for it
unfoldable pub reduced : List Node → Node → Reduced
reduced ns n = by_rules ns (width_at ns) n
