-- The value of an expression over the entry registers: a sum of terms, modulo 2^64.
use Rattle.std.specs.Prelude.{ℕ, ◌+◌, ◌-◌, ◌*◌, ◌%◌, ◌^◌, List, [], ◌∷◌, Option, Some, None, slice_index, if◌then◌else◌}
use Rattle.admission.specs.declared.expr.Term.{Term}
use Rattle.admission.specs.declared.expr.Expr.{Expr}

-- what a term's number is multiplied by: the value of its register, 1 where it names none
abbrev pub factor : List ℕ → Option ℕ → ℕ
factor regs None = 1
factor regs (Some n) = slice_index regs n

-- the number of a term times its factor
abbrev pub amount : List ℕ → Term → ℕ
amount regs t = t.c * factor regs t.reg

-- what a term adds: its amount, or what makes up for it where it is subtracted
abbrev pub added : List ℕ → Term → ℕ
added regs t = (if t.minus then 2 ^ 64 - amount regs t % 2 ^ 64 else amount regs t) % 2 ^ 64

-- the sum of terms
abbrev pub sum_of : List ℕ → List Term → ℕ
sum_of regs [] = 0
sum_of regs (t ∷ ts) = (added regs t + sum_of regs ts) % 2 ^ 64

-- the value of an expression
abbrev pub value_of : List ℕ → Expr → ℕ
value_of regs e = sum_of regs e.terms
