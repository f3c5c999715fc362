-- What is tried of the bytes of memory of a duty.
use Rattle.std.specs.Prelude.{◌≡◌, ◌⊎◌, ◌↔◌, ℕ, ◌<◌, List, [], ◌∷◌, ◌++◌, IsTrue, length}
use Rattle.insn_semantics.specs.Words as words
use Rattle.node_values.specs.declared.node.Node.{Node}
use Rattle.node_values.specs.declared.node.NodeId.{NodeId}
use Rattle.node_values.specs.Sheets.{node_at, value_at}
use Rattle.node_values.specs.Values.{Environment}
use Rattle.duty_claims.specs.Needs.{Needs, address_of, is_start}
use Rattle.duty_claims.specs.Truth.{IsOutsideLines}
use Rattle.duty_claims.specs.Whole.{IsNodeOf}

-- a sheet after a node was built that has this number now: the node was there, or it stands behind the others
abbrev pub IsGrown : List Node → List Node → NodeId → Type 0
IsGrown old new id = ((new ≡ old) × (id.0 < length old)) ⊎ ((id.0 ≡ length old) × (new ≡ old ++ node_at new id.0 ∷ []))

-- a node needs no byte of memory but those that a and b need
abbrev pub NeedsOnlyOfTwo : List Node → ℕ → ℕ → ℕ → Type 0
NeedsOnlyOfTwo ns a b node = (k : ℕ) → IsTrue (is_start (node_at ns k)) → Needs ns node k → Needs ns a k ⊎ Needs ns b k

-- a and b need no byte of memory
abbrev pub NeedsNoByte : List Node → ℕ → ℕ → Type 0
NeedsNoByte ns a b = (k : ℕ) → Needs ns a k ⊎ Needs ns b k → IsTrue (is_start (node_at ns k)) → ⊥

-- a node of the sheet is the byte of memory at this address, which has 64 bits
pub record IsByteAt (ns : List Node) (node : NodeId) (at : NodeId) : Type 0 where
  pub inside : node.0 < length ns
  pub address : address_of (node_at ns node.0) ≡ at.0
  pub whole : IsNodeOf ns 64 at

-- a node says whether a and b are equal
abbrev pub SaysEquality : List Node → ℕ → ℕ → ℕ → Type 0
SaysEquality ns a b node = (e : Environment) → value_at e ns node ≡ words.equal (value_at e ns a) (value_at e ns b)

-- a node says whether an address lies in a scratch line
abbrev pub SaysInLines : List Node → List (NodeId × NodeId) → ℕ → ℕ → Type 0
SaysInLines ns lines address node =
    (e : Environment) → (value_at e ns node ≡ 0) ↔ IsOutsideLines e ns lines (value_at e ns address)
