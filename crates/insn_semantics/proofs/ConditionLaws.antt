-- What conditions have to do with one another, and with the flags.
use Rattle.std.proofs.Common.{◌≡◌, ℕ, zero, suc, ◌<◌, ◌==◌, Bool, true, false, Option, Some, None, refl, sym, ◌∙◌, ap, arith}
use Rattle.std.specs.Prelude.{◌&&◌, ◌||◌, bit_or, bit_xor, is_some, not, unwrap_or, if◌then◌else◌}
use Rattle.std.specs.Option.{option_map}
use Rattle.std.proofs.lemmas.Nat.{or_lt, xor_lt}
use Rattle.insn_ops.specs.declared.op.Cond.{Cond}
use Rattle.insn_ops.specs.declared.op.Cond.TheVariants as conds
use Rattle.insn_ops.specs.declared.op.Flags.{Flags}
use Rattle.insn_semantics.specs.Conditions.{cond_expr, cond_of, cond_reads, either, flag_word, opposite}
use Rattle.insn_semantics.specs.Exprs.{leaves_of, value}
use Rattle.insn_semantics.specs.Words.{bit, complement}

-- the flags that a condition reads are those that its formula names
pub reads_are_leaves : (c : Cond) → cond_reads c ≡ leaves_of (cond_expr c)
reads_are_leaves conds.E = refl
reads_are_leaves conds.Ne = refl
reads_are_leaves conds.B = refl
reads_are_leaves conds.Ae = refl
reads_are_leaves conds.Be = refl
reads_are_leaves conds.A = refl
reads_are_leaves conds.L = refl
reads_are_leaves conds.Ge = refl
reads_are_leaves conds.Le = refl
reads_are_leaves conds.G = refl
reads_are_leaves conds.S = refl
reads_are_leaves conds.Ns = refl
reads_are_leaves conds.O = refl
reads_are_leaves conds.No = refl
reads_are_leaves conds.P = refl
reads_are_leaves conds.Np = refl

-- bits
bit_below : (b : Bool) → bit b < 2
bit_below true = omega arith
bit_below false = omega arith

or_below : (x y : ℕ) → x < 2 → y < 2 → bit_or x y < 2
or_below x y h k = or_lt 1 x y h k

xor_below : (x y : ℕ) → x < 2 → y < 2 → bit_xor x y < 2
xor_below x y h k = xor_lt 1 x y h k

turned_bit : (x : ℕ) → x < 2 → (complement 1 x == 1) ≡ not (x == 1)
turned_bit zero h = refl
turned_bit (suc zero) h = refl
turned_bit (suc (suc x)) h = absurd (omega arith)

or_bits : (x y : ℕ) → x < 2 → y < 2 → (bit_or x y == 1) ≡ ((x == 1) || (y == 1))
or_bits zero zero h k = refl
or_bits zero (suc zero) h k = refl
or_bits (suc zero) zero h k = refl
or_bits (suc zero) (suc zero) h k = refl
or_bits (suc (suc x)) y h k = absurd (omega arith)
or_bits x (suc (suc y)) h k = absurd (omega arith)

not_not : (b : Bool) → b ≡ not (not b)
not_not true = refl
not_not false = refl

-- a test, with a formula, with its negation, and the other way round
negation : (t : Bool) (x : ℕ) → x < 2 → (if t then Some (complement 1 x == 1) else None) ≡ option_map not (if t then Some (x == 1) else None)
negation true x h = ap Some (turned_bit x h)
negation false x h = refl

negated : (t : Bool) (x : ℕ) → x < 2 → (if t then Some (x == 1) else None) ≡ option_map not (if t then Some (complement 1 x == 1) else None)
negated true x h = ap Some (not_not _ ∙ ap not (sym (turned_bit x h)))
negated false x h = refl

or_of_two : (t u : Bool) (x y : ℕ) → x < 2 → y < 2
    → (if t && (u && true) then Some (bit_or x y == 1) else None) ≡ either (if t && true then Some (x == 1) else None) (if u && true then Some (y == 1) else None)
or_of_two false u x y h k = refl
or_of_two true false x y h k = refl
or_of_two true true x y h k = ap Some (or_bits x y h k)

or_of_more : (t u : Bool) (x y : ℕ) → x < 2 → y < 2
    → (if t && u then Some (bit_or x y == 1) else None) ≡ either (if t && true then Some (x == 1) else None) (if u then Some (y == 1) else None)
or_of_more false u x y h k = refl
or_of_more true false x y h k = refl
or_of_more true true x y h k = ap Some (or_bits x y h k)

flag_itself : (a : Option Bool) → (if is_some a && true then Some (bit (unwrap_or a false) == 1) else None) ≡ a
flag_itself None = refl
flag_itself (Some true) = refl
flag_itself (Some false) = refl

-- the five conditions that are a flag
pub flag_conditions : (f : Flags)
    → (cond_of conds.B f ≡ f.cf) × (cond_of conds.P f ≡ f.pf) × (cond_of conds.E f ≡ f.zf) × (cond_of conds.S f ≡ f.sf) × (cond_of conds.O f ≡ f.of)
flag_conditions f = (flag_itself f.cf, flag_itself f.pf, flag_itself f.zf, flag_itself f.sf, flag_itself f.of)

-- the formulas that are not negations are bits
bit_of_be : (f : Flags) → value (flag_word f) (cond_expr conds.Be) < 2
bit_of_be f = or_below _ _ (bit_below _) (bit_below _)

bit_of_l : (f : Flags) → value (flag_word f) (cond_expr conds.L) < 2
bit_of_l f = xor_below _ _ (bit_below _) (bit_below _)

bit_of_le : (f : Flags) → value (flag_word f) (cond_expr conds.Le) < 2
bit_of_le f = or_below _ _ (bit_below _) (bit_of_l f)

-- a condition and its opposite have values at the same flags, and differ there
pub opposites_differ : (c : Cond) (f : Flags) → cond_of (opposite c) f ≡ option_map not (cond_of c f)
opposites_differ conds.E f = negation _ _ (bit_below _)
opposites_differ conds.B f = negation _ _ (bit_below _)
opposites_differ conds.Be f = negation _ _ (bit_of_be f)
opposites_differ conds.L f = negation _ _ (bit_of_l f)
opposites_differ conds.Le f = negation _ _ (bit_of_le f)
opposites_differ conds.S f = negation _ _ (bit_below _)
opposites_differ conds.O f = negation _ _ (bit_below _)
opposites_differ conds.P f = negation _ _ (bit_below _)
opposites_differ conds.Ne f = negated _ _ (bit_below _)
opposites_differ conds.Ae f = negated _ _ (bit_below _)
opposites_differ conds.A f = negated _ _ (bit_of_be f)
opposites_differ conds.Ge f = negated _ _ (bit_of_l f)
opposites_differ conds.G f = negated _ _ (bit_of_le f)
opposites_differ conds.Ns f = negated _ _ (bit_below _)
opposites_differ conds.No f = negated _ _ (bit_below _)
opposites_differ conds.Np f = negated _ _ (bit_below _)

-- `be` is `b` or `e`, and `le` is `e` or `l`
pub be_is_either : (f : Flags) → cond_of conds.Be f ≡ either (cond_of conds.B f) (cond_of conds.E f)
be_is_either f = or_of_two _ _ _ _ (bit_below _) (bit_below _)

pub le_is_either : (f : Flags) → cond_of conds.Le f ≡ either (cond_of conds.E f) (cond_of conds.L f)
le_is_either f = or_of_more _ _ _ _ (bit_below _) (bit_of_l f)

pub ruleset condition_laws = (reads_are_leaves, flag_conditions, opposites_differ, be_is_either, le_is_either)
