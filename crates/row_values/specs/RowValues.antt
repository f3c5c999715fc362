-- What the row of a node says, and which variables it speaks of, whichever operator the node has.
use Rattle.std.specs.Prelude.{◌≡◌, ℕ, ◌+◌, ◌<◌, ◌≤◌, Bool, true, false}
use Rattle.std.specs.List.{AllByRecursion}
use Rattle.clauses.specs.Assignments.{MeetsAll}
use Rattle.clause_words.specs.Numbers.{SayWithHelpers, StandsBefore, word_value}
use Rattle.node_rows.specs.NodeRows.{helpers_of, node_clauses}
use Rattle.node_values.specs.declared.node.Node.{Node}
use Rattle.node_values.specs.declared.node.Node.TheVariants.{Reg, Entry, VecByte, Start, Probe}
use Rattle.node_values.specs.Nodes.{IsNode, arguments, node_width}
use Rattle.node_values.specs.Values.{Environment, node_value}

-- whether a node reads the environment: all others are operators on their arguments
abbrev pub is_input : Node → Bool
is_input (Reg side r) = true
is_input (Entry r) = true
is_input (VecByte side r i) = true
is_input (Start side at) = true
is_input Probe = true
is_input _ = false

-- the arguments of a node have their bits before a variable
abbrev pub ArgumentsStandBefore : (ℕ → ℕ) → (ℕ → ℕ) → ℕ → Node → Type 0
ArgumentsStandBefore first widths r node = AllByRecursion (λ a. StandsBefore r (widths a) (first a)) (arguments node)

-- each argument of a node has bits
abbrev pub ArgumentsHaveBits : (ℕ → ℕ) → Node → Type 0
ArgumentsHaveBits widths node = AllByRecursion (λ a. 0 < widths a) (arguments node)

-- For some values of its helpers, and for one alone, the row of a node is met exactly where the number of its bits is
-- what its operator makes of the numbers of its arguments.
abbrev pub SaysItsValue : (ℕ → Bool) → (ℕ → ℕ) → (ℕ → ℕ) → ℕ → Node → Type 0
SaysItsValue v first widths r node =
    (e : Environment) → SayWithHelpers v (r + node_width widths node) (helpers_of widths node)
    (node_clauses first widths r node)
    (word_value v (node_width widths node) r ≡ node_value e widths (λ a. word_value v (widths a) (first a)) node)

-- So it is for each operator over any nodes that have bits.
abbrev pub RowsSayTheirValues : Type 0
RowsSayTheirValues =
    (v : ℕ → Bool) (first widths : ℕ → ℕ) (n r : ℕ) (node : Node) → IsNode widths n node → is_input node ≡ false
    → ArgumentsHaveBits widths node → ArgumentsStandBefore first widths r node → SaysItsValue v first widths r node

-- two assignments agree at so many variables from one on
abbrev pub AgreeFrom : (ℕ → Bool) → (ℕ → Bool) → ℕ → ℕ → Type 0
AgreeFrom v u first n = (x : ℕ) → first ≤ x → x < first + n → v x ≡ u x

-- Two assignments that agree at the bits and the helpers of a node and at the bits of its arguments meet its row alike.
abbrev pub RowsStayInPlace : Type 0
RowsStayInPlace =
    (v u : ℕ → Bool) (first widths : ℕ → ℕ) (n r : ℕ) (node : Node) → IsNode widths n node → ArgumentsHaveBits widths node
    → AgreeFrom v u r (node_width widths node + helpers_of widths node)
    → AllByRecursion (λ a. AgreeFrom v u (first a) (widths a)) (arguments node)
    → MeetsAll v (node_clauses first widths r node) → MeetsAll u (node_clauses first widths r node)
