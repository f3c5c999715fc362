-- The environment that an assignment gives: its registers and its memories are read off the nodes of the reach.
use Rattle.std.specs.Prelude.{ℕ, zero, suc, ◌+◌, ◌==◌, ◌&&◌, ◌||◌, Bool, true, false, length, nat_le, if◌then◌else◌}
use Rattle.std.specs.List.{list_all}
use Rattle.insn_ops.specs.declared.side.Side.{Side}
use Rattle.insn_ops.specs.declared.side.Side.TheVariants.{Left, Right}
use Rattle.insn_semantics.specs.Words as words
use Rattle.clause_words.specs.Numbers.{word_value}
use Rattle.node_values.specs.declared.node.Node.{Node}
use Rattle.node_values.specs.declared.node.Node.TheVariants.{Reg, Entry, VecByte, Probe}
use Rattle.node_values.specs.declared.node.NodeId.{NodeId}
use Rattle.node_values.specs.Sheets.{node_at, value_at, width_at}
use Rattle.node_values.specs.Values.{Environment}
use Rattle.terms.specs.Made.{is_same_node}
use Rattle.duty_claims.specs.declared.duty.Duty.{Duty}
use Rattle.duty_claims.specs.Needs.{address_of, is_start, side_of}
use Rattle.clause_rows.specs.Numbering.{first_variable}
use Rattle.clause_rows.specs.Reach.{is_in_reach}

-- the number of the bits of node i
abbrev pub number_at : Duty → (ℕ → Bool) → ℕ → ℕ
number_at d v i = word_value v (width_at d.sheet.now i) (first_variable d i)

-- what the first number that passes a test has, of so many numbers from one on; 0 where none passes
unfoldable pub first_value : (ℕ → Bool) → (ℕ → ℕ) → ℕ → ℕ → ℕ
first_value test values i zero = 0
first_value test values i (suc n) = if test i then values i else first_value test values (i + 1) n

-- whether node k is this node, and in the reach
abbrev pub is_reached_node : Duty → Node → ℕ → Bool
is_reached_node d node k = is_in_reach d k && is_same_node node (node_at d.sheet.now k)

-- the number of the bits of a node, 0 where it is not in the reach
unfoldable pub read_number : Duty → (ℕ → Bool) → Node → ℕ
read_number d v node = first_value (is_reached_node d node) (number_at d v) 0 (length d.sheet.now)

-- the registers, vector bytes and probe, with memories of zeros
abbrev pub registers_read : Duty → (ℕ → Bool) → Environment
registers_read d v = record {
  regs = λ side r. read_number d v (Reg side r);
  entry = λ r. read_number d v (Entry r);
  vecs = λ side r i. read_number d v (VecByte side r i);
  memory = λ side address. 0;
  probe = read_number d v Probe;
}

-- whether an address lies outside a scratch line: the nodes of these need no memory
abbrev pub is_off_line : Duty → (ℕ → Bool) → ℕ → NodeId × NodeId → Bool
is_off_line d v address line =
    nat_le (value_at (registers_read d v) d.sheet.now line.1.0)
    (words.minus 64 address (value_at (registers_read d v) d.sheet.now line.0.0))

-- whether an address lies outside all scratch lines
abbrev pub is_off_lines : Duty → (ℕ → Bool) → ℕ → Bool
is_off_lines d v address = list_all (is_off_line d v address) d.scratch.now

-- whether two sides are one
unfoldable pub is_side : Side → Side → Bool
is_side Left Left = true
is_side Left Right = false
is_side Right Left = false
is_side Right Right = true

-- whether node k is a byte of memory of the reach at an address, and of a side or outside the scratch lines
abbrev pub is_byte_at : Duty → (ℕ → Bool) → Side → ℕ → ℕ → Bool
is_byte_at d v side address k =
    is_in_reach d k && (is_start (node_at d.sheet.now k)
    && ((number_at d v (address_of (node_at d.sheet.now k)) == address)
    && (is_side side (side_of (node_at d.sheet.now k)) || is_off_lines d v address)))

-- the byte of a side at an address: that of the first node that is one there
unfoldable pub byte_read : Duty → (ℕ → Bool) → Side → ℕ → ℕ
byte_read d v side address = first_value (is_byte_at d v side address) (number_at d v) 0 (length d.sheet.now)

-- an environment with other memories
abbrev pub with_memory : Environment → (Side → ℕ → ℕ) → Environment
with_memory e memory = record { regs = e.regs; entry = e.entry; vecs = e.vecs; memory = memory; probe = e.probe }

-- the environment
abbrev pub environment_read : Duty → (ℕ → Bool) → Environment
environment_read d v = with_memory (registers_read d v) (byte_read d v)
