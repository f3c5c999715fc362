-- The lines of a refutation, and the ranges of what stands in them.
use Rattle.std.specs.Prelude.{ℕ, ◌≤◌, false, if◌then◌else◌, List, ◌∷◌, ◌++◌, codes, ℤ}
use Rattle.std.specs.List.{AllByRecursion}
use Rattle.clauses.specs.declared.clause.Lit.{Lit}
use Rattle.refutations.specs.declared.step.Step.{Step}
use Rattle.refutations.specs.declared.step.Step.TheVariants.{Chain, Equal, Same, Holds, Fails, Both}
use Rattle.text_codes.specs.Lists.{end_before, line_of, until}
use Rattle.certificate_file.specs.Numbers.{space, newline, number_text, integer_text, IsU32, IsU64, IsI64, row_text, AreCounted}

-- a literal: its variable, with a minus sign where it is negated
abbrev pub lit_text : Lit → List ℕ
lit_text l = if l.neg then 45 ∷ number_text space l.var else number_text space l.var

-- what ends a list of literals: 0
abbrev pub no_literal : Lit
no_literal = record { var = 0; neg = false }

-- a literal with its variable in its range
abbrev pub LitFits : Lit → Type 0
LitFits l = (1 ≤ l.var) × IsU32 l.var

-- a pivot and a clause
abbrev pub pair_text : ℕ → ℕ × ℕ → List ℕ
pair_text end p = number_text space p.0 ++ number_text end p.1

-- a clause and a pivot in their ranges
abbrev pub PairFits : ℕ × ℕ → Type 0
PairFits p = IsU32 p.0 × IsU32 p.1

-- a coefficient and a named equation
abbrev pub part_text : ℕ → ℕ × ℤ → List ℕ
part_text end p = number_text space p.0 ++ integer_text end p.1

-- a part of a combination in its range
abbrev pub PartFits : ℕ × ℤ → Type 0
PartFits p = IsU64 p.0 × IsI64 p.1

-- the line of a step
abbrev pub step_text : Step → List ℕ
step_text (Chain lits first next) =
    codes "r " ++ (until lit_text no_literal lits ++ (number_text (end_before next) first ++ line_of pair_text next))
step_text (Equal i j parts) = codes "e " ++ (number_text space i.0 ++ (number_text space j.0 ++ row_text part_text parts))
step_text (Same i j clause) = codes "g " ++ (number_text space i.0 ++ (number_text space j.0 ++ number_text newline clause))
step_text (Holds i parts) = codes "t " ++ (number_text space i.0 ++ row_text part_text parts)
step_text (Fails i parts) = codes "n " ++ (number_text space i.0 ++ row_text part_text parts)
step_text (Both i j unit parts) =
    codes "q " ++ (number_text space i.0 ++ (number_text space j.0 ++ (number_text space unit ++ row_text part_text parts)))

-- a step with each field in its range
abbrev pub StepFits : Step → Type 0
StepFits (Chain lits first next) = AllByRecursion LitFits lits × (IsU32 first × AllByRecursion PairFits next)
StepFits (Equal i j parts) = IsU32 i.0 × (IsU32 j.0 × AreCounted PartFits parts)
StepFits (Same i j clause) = IsU32 i.0 × (IsU32 j.0 × IsU32 clause)
StepFits (Holds i parts) = IsU32 i.0 × AreCounted PartFits parts
StepFits (Fails i parts) = IsU32 i.0 × AreCounted PartFits parts
StepFits (Both i j unit parts) = IsU32 i.0 × (IsU32 j.0 × (IsU64 unit × AreCounted PartFits parts))
