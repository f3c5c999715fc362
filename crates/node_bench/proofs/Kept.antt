-- Nodes of a sheet stay when more are built.
use Rattle.std.proofs.Common.{◌≡◌, ℕ, ◌<◌, ◌++◌, List, length, sym, subst, arith, length-append}
use Rattle.node_values.specs.declared.node.Node.{Node}
use Rattle.node_values.specs.Sheets.{Extends, IsSheet, width_at}
use Rattle.node_values.proofs.SheetLaws.{width_at-append}

-- a node of 64 bits of the sheet is one of the longer sheet
pub stays : (before after : List Node) (i : ℕ) → IsSheet before → Extends before after → (i < length before) × (width_at before i ≡ 64)
    → (i < length after) × (width_at after i ≡ 64)
stays before after i sheet more h =
    let Stays : List Node → Type 0 = λ ns. (i < length ns) × (width_at ns i ≡ 64) in
    let inside : i < length before = h.0 in
    let longer : i < length (before ++ more.0) = omega (arith, length-append before more.0) in
    subst Stays (sym more.1) (longer, subst (λ w. w ≡ 64) (width_at-append before sheet more.0 i h.0) h.1)
