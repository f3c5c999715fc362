-- The reports of the short form of `decide`: their texts, and what they say of two plain functions.
use Rattle.std.specs.Prelude.{◌≡◌, ℕ, ◌+◌, ◌==◌, List, [], ◌∷◌, ◌++◌, length, codes, decimal, unwrap_or, slice_get, if◌then◌else◌}
use Rattle.insn_ops.specs.declared.side.Side.{Side}
use Rattle.insn_ops.specs.declared.side.Side.TheVariants.{Left, Right}
use Rattle.insn_table.specs.declared.insn.Insn.{Insn}
use Rattle.register_names.specs.Names.{register_names}
use Rattle.plain_functions.specs.Verdict.{AreEquivalentWithin, ReturnDifferently}
use Rattle.text_parts.specs.Numbers.{value_text}

-- the report of functions that are equivalent within a bound
unfoldable pub equivalent_report : ℕ → List ℕ
equivalent_report bound = codes "equivalent\nnodes 2\nedges 1\nbound " ++ decimal bound ++ codes "\ntests none\n"

-- the line of a register that isn't 0; one that is 0 has none
unfoldable pub register_line : List ℕ → ℕ → List ℕ
register_line name v = if v == 0 then [] else codes "reg " ++ name ++ codes " " ++ value_text v ++ codes "\n"

-- the lines of registers, by number from n on
unfoldable pub register_lines : ℕ → List ℕ → List ℕ
register_lines n [] = []
register_lines n (v ∷ vs) = register_line (unwrap_or (slice_get (register_names 64) n) []) v ++ register_lines (n + 1) vs

-- what reports call a side
abbrev pub side_name : Side → List ℕ
side_name Left = codes "left"
side_name Right = codes "right"

-- how many steps a side took
unfoldable pub returned_line : Side → ℕ → List ℕ
returned_line side steps = side_name side ++ codes " returned " ++ decimal steps ++ codes "\n"

-- the values in which the ends differ
unfoldable pub differs_line : ℕ → ℕ → List ℕ
differs_line left right = codes "differs %rax " ++ value_text left ++ codes " " ++ value_text right ++ codes "\n"

-- the steps of both sides, the values that differ, and the registers of the state
unfoldable pub different_report : ℕ → ℕ → ℕ → ℕ → List ℕ → List ℕ
different_report left_steps right_steps left_value right_value regs =
    codes "different\nsource found\n" ++ returned_line Left left_steps ++ returned_line Right right_steps
    ++ differs_line left_value right_value ++ codes "state\n" ++ register_lines 0 regs

-- The report says that the functions are equivalent within a bound, and they are.
pub record ReportsEquivalent (left right : List Insn) (report : List ℕ) : Type 0 where
  pub bound : ℕ
  pub equivalent : AreEquivalentWithin bound left right
  pub report_is : report ≡ equivalent_report bound

-- The report names a start state from which both return with different %rax, and that is so.
pub record ReportsDifferent (left right : List Insn) (report : List ℕ) : Type 0 where
  pub regs : List ℕ
  pub left_value : ℕ
  pub right_value : ℕ
  pub different : ReturnDifferently regs left right left_value right_value
  pub report_is : report ≡ different_report (length left) (length right) left_value right_value regs
