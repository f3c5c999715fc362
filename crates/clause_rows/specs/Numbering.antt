-- The variables of a duty's nodes, numbered from 1 over the reach in order of nodes: the bits of a node, the lowest
-- first, then its helpers.
use Rattle.std.specs.Prelude.{◌≡◌, ℕ, ◌+◌, ◌^◌, ◌<◌, ◌≤◌, Bool, List, IsTrue, length, map, slice_index, if◌then◌else◌}
use Rattle.std.specs.List.{range_with_len}
use Rattle.node_forms.specs.Forms.{sum_to}
use Rattle.node_reach.specs.Reached.{is_marked}
use Rattle.node_rows.specs.NodeRows.{helpers_of}
use Rattle.node_values.specs.Nodes.{AreWordWidths}
use Rattle.node_values.specs.Sheets.{node_at, width_at}
use Rattle.duty_claims.specs.declared.duty.Duty.{Duty}
use Rattle.clause_rows.specs.Reach.{is_in_reach}
use Rattle.clause_rows.specs.declared.numbering.Numbering.{Numbering}

-- how many variables node i has: its width and its helpers, and none outside the reach
abbrev pub variable_count : Duty → ℕ → ℕ
variable_count d i =
    if is_in_reach d i
    then width_at d.sheet.now i + helpers_of (width_at d.sheet.now) (node_at d.sheet.now i)
    else 0

-- the variable of the lowest bit of node i
abbrev pub first_variable : Duty → ℕ → ℕ
first_variable d i = 1 + sum_to (variable_count d) i

-- widths of marked nodes: those of a duty's sheet, and all of 1 to 64 bits
pub record AreReachWidths (d : Duty) (marks : List Bool) (widths : List ℕ) : Type 0 where
  pub len : length widths ≡ length marks
  pub marked : (k : ℕ) → IsTrue (is_marked marks k) → slice_index widths k ≡ width_at d.sheet.now k
  pub words : AreWordWidths widths

-- the numbering of a duty, by number of node up to the last of the reach: a mark for each node of the reach, the variables
-- of the lowest bits, and the widths of the marked nodes
pub record IsNumberingOf (d : Duty) (numbering : Numbering) : Type 0 where
  pub reach : (k : ℕ) → is_marked numbering.reach.items k ≡ is_in_reach d k
  pub firsts : numbering.firsts.items ≡ map (first_variable d) (range_with_len 0 (length numbering.reach.items))
  pub widths : AreReachWidths d numbering.reach.items numbering.widths.items

-- each of these variables has room for the bits and the helpers of a node
abbrev pub HaveRowRoom : List ℕ → Type 0
HaveRowRoom firsts = (i : ℕ) → i < length firsts → slice_index firsts i + 12416 ≤ 2 ^ 32
