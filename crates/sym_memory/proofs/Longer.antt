-- What is built over a sheet keeps the older nodes, so what was too long still is.
use Rattle.std.proofs.Common.{◌≡◌, ℕ, ◌<◌, ◌==◌, List, [], ◌∷◌, Option, Some, None, length, sym, subst, inl, inr}
use Rattle.std.proofs.lemmas.Bool.{cases_Bool}
use Rattle.insn_ops.specs.declared.side.Side.{Side}
use Rattle.insn_semantics.specs.Words.{bit}
use Rattle.node_values.specs.declared.node.Node.{Node}
use Rattle.node_values.specs.declared.node.Node.TheVariants.{Const, Start, Add, If}
use Rattle.node_values.specs.declared.node.NodeId.{NodeId}
use Rattle.node_values.specs.Sheets.{Extends, IsSheet}
use Rattle.terms.specs.Made.{Made, made}
use Rattle.terms.specs.Rules.{is_number}
use Rattle.duty_claims.specs.declared.duty.Fixed.{Fixed}
use Rattle.duty_claims.specs.declared.duty.Relation.{Relation}
use Rattle.address_nodes.specs.Multiples.{IsOfWidth}
use Rattle.address_nodes.specs.Differences.{equality}
use Rattle.address_nodes.proofs.Growing as growing
use Rattle.sym_memory.specs.declared.written.Place.{Place}
use Rattle.sym_memory.specs.declared.written.Written.{Written}
use Rattle.sym_memory.specs.Writes.{is_same_byte, relation_of}
use Rattle.sym_memory.specs.Reads.{byte_address, byte_read, test, test_by}
use Rattle.sym_memory.specs.Choices.{with_choices}

pub made_longer : (ns : List Node) → 65536 < length ns → (n : Node) → 65536 < length (made ns n).nodes
made_longer = growing.made_longer

pub stays : (ns : List Node) → IsSheet ns → (later : List Node) → Extends ns later → (w : ℕ) (a : NodeId) → IsOfWidth ns w a → IsOfWidth later w a
stays = growing.stays

pub extends_trans : (ns ms ls : List Node) → Extends ns ms → Extends ms ls → Extends ns ls
extends_trans = growing.extends_trans

pub address_extends : (ns : List Node) (at : NodeId) (b : ℕ) → Extends ns (byte_address ns at b).nodes
unfolding byte_address
address_extends ns at b =
    let number : Made = made ns (Const 64 b) in
    elim (cases_Bool (b == 0)) [
      | inl t ↦ rw t (growing.same_extends ns)
      | inr f ↦ rw f (growing.made_twice ns number.nodes (Add at number.id) (growing.made_extends ns (Const 64 b)))
    ]

pub equality_extends : (ns : List Node) (a b : NodeId) → Extends ns (equality ns a b).nodes
equality_extends = growing.equality_extends

pub equality_longer : (ns : List Node) → 65536 < length ns → (a b : NodeId) → 65536 < length (equality ns a b).nodes
equality_longer ns h a b = growing.still_longer ns (equality ns a b).nodes (equality_extends ns a b) h

pub by_extends : (place : Place) (w : Written) (ns : List Node) (relation : Option Relation) → Extends ns (test_by place w ns relation).nodes
by_extends place w ns None =
    let address : Made = byte_address ns w.at w.byte in
    growing.extends_trans ns address.nodes (equality address.nodes place.address address.id).nodes (address_extends ns w.at w.byte) (equality_extends address.nodes place.address address.id)
by_extends place w ns (Some relation) = growing.made_extends ns (Const 1 (bit (is_same_byte relation place.byte w.byte)))

pub test_extends : (fixed : List Fixed) (place : Place) (w : Written) (ns : List Node) → Extends ns (test fixed place w ns).nodes
unfolding test
test_extends fixed place w ns = by_extends place w ns (relation_of fixed w.access place.access)

-- a test is as long as under the relation that is fixed
pub test_longer : (fixed : List Fixed) (place : Place) (w : Written) (ns : List Node) (relation : Option Relation) → relation ≡ relation_of fixed w.access place.access
    → 65536 < length (test_by place w ns relation).nodes → 65536 < length (test fixed place w ns).nodes
unfolding test
test_longer fixed place w ns relation is h = subst (λ r. 65536 < length (test_by place w ns r).nodes) is h

pub read_extends : (side : Side) (fixed : List Fixed) (place : Place) (ws : List Written) (ns : List Node) → Extends ns (byte_read side fixed place ws ns).nodes
unfolding byte_read
read_extends side fixed place [] ns = growing.made_extends ns (Start side place.address)
read_extends side fixed place (w ∷ older) ns =
    let t : Made = test fixed place w ns in
    let rest : Made = byte_read side fixed place older t.nodes in
    elim (cases_Bool (is_number t.nodes 1 t.id.0)) [
      | inl one ↦ rw one (test_extends fixed place w ns)
      | inr other ↦
          rw other
          (growing.made_twice ns rest.nodes (If t.id w.value rest.id)
          (growing.extends_trans ns t.nodes rest.nodes (test_extends fixed place w ns) (read_extends side fixed place older t.nodes)))
    ]

pub choices_extend : (cs : List (NodeId × NodeId)) (m : Made) → Extends m.nodes (with_choices cs m).nodes
choices_extend [] m = growing.same_extends m.nodes
choices_extend (c ∷ cs) m =
    let rest : Made = with_choices cs m in
    growing.made_twice m.nodes rest.nodes (If c.0 c.1 rest.id) (choices_extend cs m)

pub choices_longer : (cs : List (NodeId × NodeId)) (m : Made) → 65536 < length m.nodes → 65536 < length (with_choices cs m).nodes
choices_longer cs m h = growing.still_longer m.nodes (with_choices cs m).nodes (choices_extend cs m) h

-- a read is as long as its choices
pub chosen_longer : (side : Side) (fixed : List Fixed) (place : Place) (ws : List Written) (ns : List Node) (cs : List (NodeId × NodeId)) (m : Made)
    → byte_read side fixed place ws ns ≡ with_choices cs m → 65536 < length (with_choices cs m).nodes → 65536 < length (byte_read side fixed place ws ns).nodes
chosen_longer side fixed place ws ns cs m is h = subst (λ b. 65536 < length b.nodes) (sym is) h
