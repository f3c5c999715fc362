-- Older nodes keep their widths in a later sheet.
use Rattle.std.proofs.Common.{◌≡◌, ℕ, ◌<◌, ◌≤◌, ◌^◌, List, ◌++◌, length, zero, suc, sym, ◌∙◌, ap, arith, length-append, append_assoc}
use Rattle.std.proofs.lemmas.Nat.{pow_pos}
use Rattle.node_values.specs.declared.node.Node.{Node}
use Rattle.node_values.specs.Sheets.{Extends, IsSheet, width_at}
use Rattle.node_values.proofs.SheetLaws.{width_at-append}

pub kept_length : (ns later : List Node) → Extends ns later → length ns ≤ length later
kept_length ns later ext = omega (arith, ap length ext.1, length-append ns ext.0)

pub kept_width : (ns later : List Node) → IsSheet ns → Extends ns later → (i : ℕ) → i < length ns → width_at later i ≡ width_at ns i
kept_width ns later sheet ext i b = ap (λ l. width_at l i) ext.1 ∙ sym (width_at-append ns sheet ext.0 i b)

-- 0 and 1 are words of each width
pub small_word : (w v : ℕ) → 0 < w → v ≤ 1 → v < 2 ^ w
small_word zero v h k = absurd (nothing_below h)
  where
    nothing_below : 0 < 0 → ⊥
    nothing_below h = omega (arith, h)
small_word (suc w) v h k = let some : 0 < 2 ^ w = pow_pos w in omega (arith, some, k)

-- what extends an extension of a sheet extends it
pub extends_through : (ns mid later : List Node) → Extends ns mid → Extends mid later → Extends ns later
extends_through ns mid later h k = (h.0 ++ k.0, k.1 ∙ ap (λ l. l ++ k.0) h.1 ∙ append_assoc ns h.0 k.0)
