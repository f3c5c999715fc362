-- The nodes of a byte that is read: the newest byte that was written at its address, and else the byte of the start.
--
-- The tests are built first, from the newest written byte to older ones, each behind the written address, up to the
-- first that is the constant 1; where none is, the byte of the start comes next; then the choices, from the oldest
-- test outwards.
use Rattle.std.specs.Prelude.{ℕ, zero, suc, ◌==◌, List, [], ◌∷◌, ◌++◌, Option, Some, None, if◌then◌else◌, reverse}
use Rattle.insn_ops.specs.declared.side.Side.{Side}
use Rattle.insn_semantics.specs.Words.{bit}
use Rattle.node_values.specs.declared.node.Node.{Node}
use Rattle.node_values.specs.declared.node.Node.TheVariants.{Const, Start, Add, If}
use Rattle.node_values.specs.declared.node.NodeId.{NodeId}
use Rattle.terms.specs.Made.{Made, made}
use Rattle.terms.specs.Rules.{is_number}
use Rattle.duty_claims.specs.declared.duty.Fixed.{Fixed}
use Rattle.duty_claims.specs.declared.duty.Relation.{Relation}
use Rattle.address_nodes.specs.Differences.{equality}
use Rattle.sym_memory.specs.declared.written.Place.{Place}
use Rattle.sym_memory.specs.declared.written.Written.{Written}
use Rattle.sym_memory.specs.Writes.{PathMemory, is_same_byte, relation_of}

-- the address of byte b of an access
unfoldable pub byte_address : List Node → NodeId → ℕ → Made
byte_address ns at b =
    if b == 0 then record { nodes = ns; id = at }
    else (let number = made ns (Const 64 b) in made number.nodes (Add at number.id))

-- whether a written byte is the byte that is read: under a fixed relation a constant, else that the addresses are equal
abbrev pub test_by : Place → Written → List Node → Option Relation → Made
test_by place w ns None = let address = byte_address ns w.at w.byte in equality address.nodes place.address address.id
test_by place w ns (Some relation) = made ns (Const 1 (bit (is_same_byte relation place.byte w.byte)))

-- whether a written byte is the byte that is read, under the relation that is fixed for their accesses
unfoldable pub test : List Fixed → Place → Written → List Node → Made
test fixed place w ns = test_by place w ns (relation_of fixed w.access place.access)

-- the byte that is read at a place, of written bytes that stand newest first
unfoldable pub byte_read : Side → List Fixed → Place → List Written → List Node → Made
byte_read side fixed place [] ns = made ns (Start side place.address)
byte_read side fixed place (w ∷ older) ns =
    let t = test fixed place w ns in
    if is_number t.nodes 1 t.id.0 then record { nodes = t.nodes; id = w.value }
    else (let rest = byte_read side fixed place older t.nodes in made rest.nodes (If t.id w.value rest.id))

-- a sheet, and the nodes of the bytes that were read, lowest first
pub record ReadBytes : Type 0 where
  pub nodes : List Node
  pub bytes : List NodeId

-- the first n bytes of an access that reads
unfoldable pub bytes_read : PathMemory → List Fixed → ℕ → NodeId → ℕ → List Node → ReadBytes
bytes_read m fixed access at zero ns = record { nodes = ns; bytes = [] }
bytes_read m fixed access at (suc n) ns =
    let before = bytes_read m fixed access at n ns in
    let address = byte_address before.nodes at n in
    let place : Place = record { access = access; byte = n; address = address.id } in
    let read = byte_read m.side fixed place (reverse m.written) address.nodes in
    record { nodes = read.nodes; bytes = before.bytes ++ read.id ∷ [] }

-- the byte at an address that is of no access
abbrev pub probed : PathMemory → NodeId → List Node → Made
probed m at ns = byte_read m.side [] (record { access = 0; byte = 0; address = at }) (reverse m.written) ns
