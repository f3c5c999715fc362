-- Where a function is not plain: at its first instruction that is neither a plain move nor a return, or that stands behind
-- a return.
use Rattle.std.specs.Prelude.{◌≡◌, ◌⊎◌, ℕ, ◌<◌, List, slice_get, Some}
use Rattle.insn_table.specs.declared.insn.Insn.{Insn}
use Rattle.plain_functions.specs.Plain.{IsPlainMove, IsReturn}

-- the instruction at this place is a plain move or a return, and stands behind no return
pub record IsPlainAt (insns : List Insn) (place : ℕ) : Type 0 where
  pub insn : Insn
  pub there : slice_get insns place ≡ Some insn
  pub plain : IsPlainMove insn ⊎ IsReturn insn
  pub unreturned : (k : ℕ) (i : Insn) → k < place → slice_get insns k ≡ Some i → IsReturn i → ⊥

-- the line of the first instruction that is not
pub record IsFirstUnplain (insns : List Insn) (line : ℕ) : Type 0 where
  pub place : ℕ
  pub insn : Insn
  pub there : slice_get insns place ≡ Some insn
  pub unplain : IsPlainAt insns place → ⊥
  pub first : (k : ℕ) → k < place → IsPlainAt insns k
  pub line_is : line ≡ insn.line
