-- Conditions: which flags each reads, and its value as an expression of them. Leaf 0 is the carry flag, 1 parity,
-- 2 zero, 3 sign and 4 overflow.
use Rattle.std.specs.Prelude.{ℕ, zero, suc, ◌==◌, Bool, false, List, [], ◌∷◌, Option, Some, None, ◌||◌, is_some, unwrap_or, if◌then◌else◌}
use Rattle.std.specs.List.{list_all}
use Rattle.insn_ops.specs.declared.op.Cond.{Cond}
use Rattle.insn_ops.specs.declared.op.Cond.TheVariants as conds
use Rattle.insn_ops.specs.declared.op.Flags.{Flags}
use Rattle.insn_semantics.specs.Words.{bit}
use Rattle.insn_semantics.specs.Exprs.{Expr, Leaf, Two, Not, Or, Xor, value}

-- the flag of this number: carry, parity, zero, sign and overflow from 0 on
abbrev pub flag_at : Flags → ℕ → Option Bool
flag_at f zero = f.cf
flag_at f (suc zero) = f.pf
flag_at f (suc (suc zero)) = f.zf
flag_at f (suc (suc (suc zero))) = f.sf
flag_at f (suc (suc (suc (suc i)))) = f.of

-- below by the sign: sign and overflow differ
abbrev pub is_less : Expr
is_less = Two Xor 1 (Leaf 3) (Leaf 4)

-- a condition as an expression over the flags' numbers
abbrev pub cond_expr : Cond → Expr
cond_expr conds.E = Leaf 2
cond_expr conds.Ne = Not 1 (Leaf 2)
cond_expr conds.B = Leaf 0
cond_expr conds.Ae = Not 1 (Leaf 0)
cond_expr conds.Be = Two Or 1 (Leaf 0) (Leaf 2)
cond_expr conds.A = Not 1 (Two Or 1 (Leaf 0) (Leaf 2))
cond_expr conds.L = is_less
cond_expr conds.Ge = Not 1 is_less
cond_expr conds.Le = Two Or 1 (Leaf 2) is_less
cond_expr conds.G = Not 1 (Two Or 1 (Leaf 2) is_less)
cond_expr conds.S = Leaf 3
cond_expr conds.Ns = Not 1 (Leaf 3)
cond_expr conds.O = Leaf 4
cond_expr conds.No = Not 1 (Leaf 4)
cond_expr conds.P = Leaf 1
cond_expr conds.Np = Not 1 (Leaf 1)

-- the flags of the condition's expression, by number
abbrev pub cond_reads : Cond → List ℕ
cond_reads conds.E = 2 ∷ []
cond_reads conds.Ne = 2 ∷ []
cond_reads conds.B = 0 ∷ []
cond_reads conds.Ae = 0 ∷ []
cond_reads conds.Be = 0 ∷ 2 ∷ []
cond_reads conds.A = 0 ∷ 2 ∷ []
cond_reads conds.L = 3 ∷ 4 ∷ []
cond_reads conds.Ge = 3 ∷ 4 ∷ []
cond_reads conds.Le = 2 ∷ 3 ∷ 4 ∷ []
cond_reads conds.G = 2 ∷ 3 ∷ 4 ∷ []
cond_reads conds.S = 3 ∷ []
cond_reads conds.Ns = 3 ∷ []
cond_reads conds.O = 4 ∷ []
cond_reads conds.No = 4 ∷ []
cond_reads conds.P = 1 ∷ []
cond_reads conds.Np = 1 ∷ []

-- a flag as a word of one bit
abbrev pub flag_word : Flags → ℕ → ℕ
flag_word f i = bit (unwrap_or (flag_at f i) false)

-- whether the condition holds, where each flag that it reads is set
abbrev pub cond_of : Cond → Flags → Option Bool
cond_of c f = if list_all (λ i. is_some (flag_at f i)) (cond_reads c) then Some (value (flag_word f) (cond_expr c) == 1) else None

-- the condition that holds where this one does not
abbrev pub opposite : Cond → Cond
opposite conds.E = conds.Ne
opposite conds.Ne = conds.E
opposite conds.B = conds.Ae
opposite conds.Ae = conds.B
opposite conds.Be = conds.A
opposite conds.A = conds.Be
opposite conds.L = conds.Ge
opposite conds.Ge = conds.L
opposite conds.Le = conds.G
opposite conds.G = conds.Le
opposite conds.S = conds.Ns
opposite conds.Ns = conds.S
opposite conds.O = conds.No
opposite conds.No = conds.O
opposite conds.P = conds.Np
opposite conds.Np = conds.P

-- whether one of two conditions holds, where both have a value
abbrev pub either : Option Bool → Option Bool → Option Bool
either (Some x) (Some y) = Some (x || y)
either _ _ = None
