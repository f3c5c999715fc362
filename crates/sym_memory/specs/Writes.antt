-- The written bytes of a side's memory, and which of them a fixed relation says a byte that is read is.
use Rattle.std.specs.Prelude.{ℕ, ◌+◌, ◌^◌, ◌<◌, ◌==◌, Bool, false, ◌&&◌, List, [], ◌∷◌, Option, Some, None, pos, ◌+ℤ◌, if◌then◌else◌}
use Rattle.std.specs.List.{AllByRecursion}
use Rattle.std.specs.Ordering.{int_eq}
use Rattle.insn_ops.specs.declared.side.Side.{Side}
use Rattle.node_values.specs.declared.node.Node.{Node}
use Rattle.node_values.specs.declared.node.NodeId.{NodeId}
use Rattle.duty_claims.specs.declared.duty.Fixed.{Fixed}
use Rattle.duty_claims.specs.declared.duty.Relation.{Relation}
use Rattle.duty_claims.specs.declared.duty.Relation.TheVariants.{Apart, Offset}
use Rattle.address_nodes.specs.Multiples.{IsAddress, IsOfWidth}
use Rattle.sym_memory.specs.declared.written.Written.{Written}

-- a side's memory along a path: the bytes that were written, oldest first
pub record PathMemory : Type 0 where
  pub side : Side
  pub written : List Written

-- the bytes that an access writes, from byte b on
abbrev pub written_bytes : ℕ → NodeId → ℕ → List NodeId → List Written
written_bytes access at b [] = []
written_bytes access at b (value ∷ values) =
    record { access = access; at = at; byte = b; value = value } ∷ written_bytes access at (b + 1) values

-- written bytes over a sheet: their accesses have addresses, and they have values of 8 bits
abbrev pub AreWritten : List Node → List Written → Type 0
AreWritten ns = AllByRecursion (λ w. IsAddress ns w.at × IsOfWidth ns 8 w.value × (w.byte < 2 ^ 32))

-- the relation that is fixed first for accesses i and j
abbrev pub relation_of : List Fixed → ℕ → ℕ → Option Relation
relation_of [] i j = None
relation_of (f ∷ fs) i j = if (f.i == i) && (f.j == j) then Some f.rel else relation_of fs i j

-- whether byte b of the second access is byte c of the first
abbrev pub is_same_byte : Relation → ℕ → ℕ → Bool
is_same_byte Apart b c = false
is_same_byte (Offset d) b c = int_eq (pos b +ℤ d) (pos c)
