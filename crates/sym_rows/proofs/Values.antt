-- What is built is built with its value.
use Rattle.std.proofs.Common.{◌≡◌, ℕ, List, sym, subst, Result, Ok, Err, IfOk}
use Rattle.insn_semantics.specs.Exprs.{Expr}
use Rattle.node_values.specs.declared.node.Node.{Node}
use Rattle.node_values.specs.declared.node.NodeId.{NodeId}
use Rattle.terms.specs.declared.sheet.SheetFull.{SheetFull}
use Rattle.terms.specs.Building.{HasValue, built}
use Rattle.insn_semantics.specs.Formed.{IsFormed}
use Rattle.node_values.specs.Sheets.{IsSheet, width_at}
use Rattle.terms.proofs.Built.{has_value}
use Rattle.sym_rows.specs.Leaves.{AreLeaves}

pub ok_has_value : (ns later : List Node) (leaves : ℕ → NodeId) (x : Expr) (r : Result NodeId SheetFull)
    → IfOk r (λ id. built ns leaves x ≡ record { nodes = later; id = id })
    → HasValue ns leaves x (built ns leaves x)
    → IfOk r (λ id. HasValue ns leaves x (record { nodes = later; id = id }))
ok_has_value ns later leaves x (Ok id) e h = subst (HasValue ns leaves x) e h
ok_has_value ns later leaves x (Err why) e h = tt

-- over leaves of one width
pub leaves_have_value : (w : ℕ) (ns : List Node) (leaves : ℕ → NodeId) (x : Expr) → IsSheet ns → AreLeaves w ns leaves
    → IsFormed (λ i. w) x → HasValue ns leaves x (built ns leaves x)
leaves_have_value w ns leaves x sheet are formed =
    let same : (λ i. w) ≡ (λ i. width_at ns (leaves i).0) = λ t. λ i. sym (are.widths i) t in
    has_value ns leaves x sheet are.inside (subst (λ l. IsFormed l x) same formed)
