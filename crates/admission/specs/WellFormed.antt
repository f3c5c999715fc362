-- What an admission must be: within the limits, with numbers, registers and widths that there are.
use Rattle.std.specs.Prelude.{ℕ, ◌≡◌, ◌<◌, ◌≤◌, ◌%◌, ◌^◌, false, length, List, [], ◌∷◌, IfSome}
use Rattle.std.specs.List.{AllByRecursion}
use Rattle.insn_ops.specs.Outputs.{IsOutput}
use Rattle.admission.specs.declared.expr.Term.{Term}
use Rattle.admission.specs.declared.expr.Expr.{Expr}
use Rattle.admission.specs.declared.admission.Need.{Need}
use Rattle.admission.specs.declared.admission.Need.TheVariants.{Compare, Modulo}
use Rattle.admission.specs.declared.admission.RegionLine.{RegionLine}
use Rattle.admission.specs.declared.admission.Admission.{Admission}

-- a number of 64 bits, and one of the sixteen registers, if any
pub record IsTerm (t : Term) : Type 0 where
  pub number : t.c < 2 ^ 64
  pub register : IfSome t.reg (λ n. n < 16)

-- the first term is added
abbrev pub IsFirstAdded : List Term → Type 0
IsFirstAdded [] = Unit {0}
IsFirstAdded (t ∷ ts) = t.minus ≡ false

-- one to eight terms, of which the first is added
pub record IsExpr (e : Expr) : Type 0 where
  pub some : 0 < length e.terms
  pub few : length e.terms ≤ 8
  pub first : IsFirstAdded e.terms
  pub each : AllByRecursion IsTerm e.terms

-- a power of two from 2 to 4,096
abbrev pub IsModulus : ℕ → Type 0
IsModulus m = (k : ℕ) × (0 < k) × (k ≤ 12) × (m ≡ 2 ^ k)

-- what an admission may need of the entry registers
abbrev pub IsNeed : Need → Type 0
IsNeed (Compare a rel b) = IsExpr a × IsExpr b
IsNeed (Modulo a m r) = IsExpr a × IsModulus m × (r < m)

-- a base and a length
abbrev pub AreBounds : Expr → Expr → Type 0
AreBounds base len = IsExpr base × IsExpr len

-- within the limits, and each part is one that there is
pub record IsWellFormed (a : Admission) : Type 0 where
  pub few_regions : length a.regions ≤ 8
  pub few_needs : length a.needs ≤ 32
  pub few_aparts : length a.aparts ≤ 28
  pub few_scratch : length a.scratch ≤ 4
  pub few_live : length a.live ≤ 16
  pub regions : AllByRecursion (λ (r : RegionLine). AreBounds r.base r.len) a.regions
  pub needs : AllByRecursion IsNeed a.needs
  pub aparts : AllByRecursion (λ (p : ℕ × ℕ). (p.0 < length a.regions) × (p.1 < length a.regions)) a.aparts
  pub scratch : AllByRecursion (λ (s : Expr × Expr). AreBounds s.0 s.1) a.scratch
  pub live : AllByRecursion IsOutput a.live
  pub stack_words : a.stack % 8 ≡ 0
  pub stack_small : a.stack ≤ 4096
