-- What is built over a sheet keeps the older nodes, so what was too long still is.
use Rattle.std.proofs.Common.{◌≡◌, ℕ, ◌<◌, List, Option, Some, None, length}
use Rattle.node_values.specs.declared.node.Node.{Node}
use Rattle.node_values.specs.declared.node.NodeId.{NodeId}
use Rattle.node_values.specs.Sheets.{Extends, IsSheet, value_at}
use Rattle.node_values.specs.Values.{Environment}
use Rattle.terms.specs.Made.{Made, made}
use Rattle.address_nodes.specs.Multiples.{IsOfWidth, multiple}
use Rattle.address_nodes.proofs.Growing as growing

pub made_longer : (ns : List Node) → 65536 < length ns → (n : Node) → 65536 < length (made ns n).nodes
made_longer = growing.made_longer

pub multiple_longer : (ns : List Node) → 65536 < length ns → (w q : ℕ) (a : NodeId) → 65536 < length (multiple ns w q a).nodes
multiple_longer ns h w q a = growing.still_longer ns (multiple ns w q a).nodes (growing.multiple_extends ns w q a) h

pub same_extends : (ns : List Node) → Extends ns ns
same_extends = growing.same_extends

pub stays : (ns : List Node) → IsSheet ns → (later : List Node) → Extends ns later → (w : ℕ) (a : NodeId) → IsOfWidth ns w a → IsOfWidth later w a
stays = growing.stays

pub extends_trans : (ns ms ls : List Node) → Extends ns ms → Extends ms ls → Extends ns ls
extends_trans = growing.extends_trans

pub later_value : (ns : List Node) → IsSheet ns → (later : List Node) → Extends ns later → (e : Environment) (i : ℕ) → i < length ns → value_at e later i ≡ value_at e ns i
later_value = growing.later_value
