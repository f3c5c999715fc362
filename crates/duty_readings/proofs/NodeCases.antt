-- Nodes by their operators: bytes of memory, inputs, and what memory changes.
use Rattle.std.proofs.Common.{◌≡◌, ℕ, ◌%◌, ◌^◌, Bool, true, false, [], ◌∷◌, refl, subst}
use Rattle.insn_ops.specs.declared.side.Side.{Side}
use Rattle.clauses.specs.Assignments.{MeetsAll}
use Rattle.node_rows.specs.NodeRows.{node_clauses}
use Rattle.node_values.specs.declared.node.Node.{Node}
use Rattle.node_values.specs.declared.node.Node.TheVariants.{Const, Reg, Entry, VecByte, Start, Probe, Add, Sub, Mul, And, Or, Xor, Not, Shl, Shr, Sar, Cat, Cut, Sx, Eq, Ult, Slt, If}
use Rattle.node_values.specs.Nodes.{IsNode, arguments, node_width}
use Rattle.node_values.specs.Values.{Environment, node_value}
use Rattle.duty_claims.specs.Needs.{address_of, is_start, side_of}
use Rattle.row_values.specs.RowValues.{is_input}
use Rattle.duty_readings.specs.ReadEnvironment.{with_memory}

-- a byte of memory, by its side and its address
pub start_is : (node : Node) → is_start node ≡ true → node ≡ Start (side_of node) (record { 0 = address_of node })
start_is (Const w c) h = absurd (cc)
start_is (Reg side r) h = absurd (cc)
start_is (Entry r) h = absurd (cc)
start_is (VecByte side r k) h = absurd (cc)
start_is (Start side at) h = refl
start_is Probe h = absurd (cc)
start_is (Add a b) h = absurd (cc)
start_is (Sub a b) h = absurd (cc)
start_is (Mul a b) h = absurd (cc)
start_is (And a b) h = absurd (cc)
start_is (Or a b) h = absurd (cc)
start_is (Xor a b) h = absurd (cc)
start_is (Not a) h = absurd (cc)
start_is (Shl a k) h = absurd (cc)
start_is (Shr a k) h = absurd (cc)
start_is (Sar a k) h = absurd (cc)
start_is (Cat a b) h = absurd (cc)
start_is (Cut a k m) h = absurd (cc)
start_is (Sx m a) h = absurd (cc)
start_is (Eq a b) h = absurd (cc)
start_is (Ult a b) h = absurd (cc)
start_is (Slt a b) h = absurd (cc)
start_is (If c a b) h = absurd (cc)

-- the row of an input has no clauses
pub input_met : (v : ℕ → Bool) (first widths : ℕ → ℕ) (r : ℕ) (node : Node) → is_input node ≡ true → MeetsAll v (node_clauses first widths r node)
input_met v first widths q (Const w c) h = absurd (cc)
input_met v first widths q (Reg side r) h = tt
input_met v first widths q (Entry r) h = tt
input_met v first widths q (VecByte side r k) h = tt
input_met v first widths q (Start side at) h = tt
input_met v first widths q Probe h = tt
input_met v first widths q (Add a b) h = absurd (cc)
input_met v first widths q (Sub a b) h = absurd (cc)
input_met v first widths q (Mul a b) h = absurd (cc)
input_met v first widths q (And a b) h = absurd (cc)
input_met v first widths q (Or a b) h = absurd (cc)
input_met v first widths q (Xor a b) h = absurd (cc)
input_met v first widths q (Not a) h = absurd (cc)
input_met v first widths q (Shl a k) h = absurd (cc)
input_met v first widths q (Shr a k) h = absurd (cc)
input_met v first widths q (Sar a k) h = absurd (cc)
input_met v first widths q (Cat a b) h = absurd (cc)
input_met v first widths q (Cut a k m) h = absurd (cc)
input_met v first widths q (Sx m a) h = absurd (cc)
input_met v first widths q (Eq a b) h = absurd (cc)
input_met v first widths q (Ult a b) h = absurd (cc)
input_met v first widths q (Slt a b) h = absurd (cc)
input_met v first widths q (If c a b) h = absurd (cc)

-- only bytes of memory read the memory
pub unread_memory : (e : Environment) (memory other : Side → ℕ → ℕ) (widths values : ℕ → ℕ) (node : Node) → is_start node ≡ false
    → node_value (with_memory e memory) widths values node ≡ node_value (with_memory e other) widths values node
unread_memory e memory other widths values (Const w c) h = refl
unread_memory e memory other widths values (Reg side r) h = refl
unread_memory e memory other widths values (Entry r) h = refl
unread_memory e memory other widths values (VecByte side r k) h = refl
unread_memory e memory other widths values (Start side at) h = absurd (cc)
unread_memory e memory other widths values Probe h = refl
unread_memory e memory other widths values (Add a b) h = refl
unread_memory e memory other widths values (Sub a b) h = refl
unread_memory e memory other widths values (Mul a b) h = refl
unread_memory e memory other widths values (And a b) h = refl
unread_memory e memory other widths values (Or a b) h = refl
unread_memory e memory other widths values (Xor a b) h = refl
unread_memory e memory other widths values (Not a) h = refl
unread_memory e memory other widths values (Shl a k) h = refl
unread_memory e memory other widths values (Shr a k) h = refl
unread_memory e memory other widths values (Sar a k) h = refl
unread_memory e memory other widths values (Cat a b) h = refl
unread_memory e memory other widths values (Cut a k m) h = refl
unread_memory e memory other widths values (Sx m a) h = refl
unread_memory e memory other widths values (Eq a b) h = refl
unread_memory e memory other widths values (Ult a b) h = refl
unread_memory e memory other widths values (Slt a b) h = refl
unread_memory e memory other widths values (If c a b) h = refl

-- the word that an input but a byte of memory reads, before it is cut to its width
abbrev pub IsRead : Environment → (Node → ℕ) → Type 0
IsRead e read =
    ((side : Side) (r : ℕ) → e.regs side r ≡ read (Reg side r)) × ((r : ℕ) → e.entry r ≡ read (Entry r))
    × ((side : Side) (r k : ℕ) → e.vecs side r k ≡ read (VecByte side r k)) × (e.probe ≡ read Probe)

pub input_value : (e : Environment) (read : Node → ℕ) → IsRead e read → (widths values : ℕ → ℕ) (node : Node) → is_input node ≡ true
    → is_start node ≡ false → node_value e widths values node ≡ read node % 2 ^ node_width widths node
input_value e read h widths values (Const w c) p q = absurd (cc)
input_value e read h widths values (Reg side r) p q = λ i. h.0 side r i % 2 ^ 64
input_value e read h widths values (Entry r) p q = λ i. h.1 r i % 2 ^ 64
input_value e read h widths values (VecByte side r k) p q = λ i. h.2 side r k i % 2 ^ 8
input_value e read h widths values (Start side at) p q = absurd (cc)
input_value e read h widths values Probe p q = λ i. h.3 i % 2 ^ 64
input_value e read h widths values (Add a b) p q = absurd (cc)
input_value e read h widths values (Sub a b) p q = absurd (cc)
input_value e read h widths values (Mul a b) p q = absurd (cc)
input_value e read h widths values (And a b) p q = absurd (cc)
input_value e read h widths values (Or a b) p q = absurd (cc)
input_value e read h widths values (Xor a b) p q = absurd (cc)
input_value e read h widths values (Not a) p q = absurd (cc)
input_value e read h widths values (Shl a k) p q = absurd (cc)
input_value e read h widths values (Shr a k) p q = absurd (cc)
input_value e read h widths values (Sar a k) p q = absurd (cc)
input_value e read h widths values (Cat a b) p q = absurd (cc)
input_value e read h widths values (Cut a k m) p q = absurd (cc)
input_value e read h widths values (Sx m a) p q = absurd (cc)
input_value e read h widths values (Eq a b) p q = absurd (cc)
input_value e read h widths values (Ult a b) p q = absurd (cc)
input_value e read h widths values (Slt a b) p q = absurd (cc)
input_value e read h widths values (If c a b) p q = absurd (cc)

pub start_arguments : (node : Node) → is_start node ≡ true → arguments node ≡ address_of node ∷ []
start_arguments node h = λ i. arguments (start_is node h i)

pub start_width : (widths : ℕ → ℕ) (node : Node) → is_start node ≡ true → node_width widths node ≡ 8
start_width widths node h = λ i. node_width widths (start_is node h i)

pub start_value : (e : Environment) (widths values : ℕ → ℕ) (node : Node) → is_start node ≡ true
    → node_value e widths values node ≡ e.memory (side_of node) (values (address_of node)) % 2 ^ 8
start_value e widths values node h = λ i. node_value e widths values (start_is node h i)

pub start_address : (widths : ℕ → ℕ) (n : ℕ) (node : Node) → IsNode widths n node → is_start node ≡ true → widths (address_of node) ≡ 64
start_address widths n node h s = (subst (IsNode widths n) (start_is node s) h).1
