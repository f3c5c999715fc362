-- From sums to verdicts: plain functions whose sums agree are equivalent, and registers that tell the sums apart
-- make a state from which the functions end differently.
use Rattle.std.proofs.Common.{◌≡◌, inl, inr, ⊎_elim, ℕ, zero, suc, ◌*◌, ◌≤◌, ◌<◌, List, [], Some, slice_get, length, set, replicate, get_or, refl, sym, ap, subst, ◌∙◌, max, slice_index, arith}
use Rattle.std.proofs.Math.ListN.{length-set}
use Rattle.std.proofs.lemmas.Bool.{cases_lt}
use Rattle.plain_functions.specs.Plain.{IsPlain}
use Rattle.insn_table.specs.declared.insn.Insn.{Insn}
use Rattle.runs.specs.Run.{Run}
use Rattle.runs.specs.declared.ends.RunEnd.{RunEnd}
use Rattle.machine.specs.Machine.{AreRegs, AreVecs, Machine, rax}
use Rattle.plain_functions.specs.ShortForm.{IsPlainStart}
use Rattle.plain_functions.specs.Straight.{regs_through}
use Rattle.plain_functions.proofs.PlainLaws.{plain_end, plain_end-regs, plain_ends, plain_moves, plain_never_faults, plain-equivalent}
use Rattle.plain_functions.specs.declared.sums.Sum.{Sum}
use Rattle.plain_functions.specs.Verdict.{AgreeFrom, AreEquivalentWithin, IsShownState, ReturnApart, ReturnDifferently, ReturnTheSame, ReturnsFrom}
use Rattle.plain_functions.specs.Shown.{no_register, one_register, start_at}
use Rattle.plain_functions.specs.Sums.{LeavesInRax, TellsApart, sum_value}

-- a function leaves the value of its sum
leaves : (f : List Insn) (p : IsPlain f) (a : Sum) (regs : List ℕ) → LeavesInRax f a → AreRegs regs → slice_index (regs_through p.moves regs) 0 ≡ sum_value a regs
leaves f p a regs h are = rw (plain_moves f p) (sym (h regs are))

-- functions whose sums have the same values
pub sums_agree : (f g : List Insn) (a b : Sum) (bound : ℕ) → IsPlain f → IsPlain g → LeavesInRax f a → LeavesInRax g b
    → ((regs : List ℕ) → sum_value a regs ≡ sum_value b regs) → bound ≡ 2 * max (length f) (length g) → length f ≤ 4096 → length g ≤ 4096
    → AreEquivalentWithin bound f g
sums_agree f g a b bound p q left right same is few few_too = record {
  bound_is = is;
  small = omega arith;
  equivalent = rw is (plain-equivalent f g [] [] p q (λ s start.
      let are = start.start.valid.regs in leaves f p a s.regs left are ∙ same s.regs ∙ sym (leaves g q b s.regs right are)));
  left_never_faults = plain_never_faults f [] p;
  right_never_faults = plain_never_faults g [] q;
}

at_most_one : (k n j : ℕ) → get_or (set (replicate k 0) n 1) j 0 ≤ 1
at_most_one zero n j = omega arith
at_most_one (suc k) zero zero = omega arith
at_most_one (suc k) zero (suc j) = none k j
  where
    none : (k j : ℕ) → get_or (replicate k 0) j 0 ≤ 1
    none zero j = omega arith
    none (suc k) zero = omega arith
    none (suc k) (suc j) = none k j
at_most_one (suc k) (suc n) zero = omega arith
at_most_one (suc k) (suc n) (suc j) = at_most_one k n j

-- registers that are shown are registers
none_are : AreRegs no_register
none_are = record { sixteen = refl; below = λ n. omega (arith, at_most_one 16 16 n) }

one_are : (n : ℕ) → AreRegs (one_register n)
one_are n = record { sixteen = length-set no_register n 1; below = λ j. omega (arith, at_most_one 16 n j) }

replicated : (k n : ℕ) (x v : List ℕ) → slice_get (replicate k x) n ≡ Some v → v ≡ x
replicated zero n x v e = cc
replicated (suc k) zero x v e = cc
replicated (suc k) (suc n) x v e = replicated k n x v e

zeros_below : (k j : ℕ) → get_or (replicate k 0) j 0 < 256
zeros_below zero j = omega arith
zeros_below (suc k) zero = omega arith
zeros_below (suc k) (suc j) = zeros_below k j

zero_vecs : AreVecs (replicate 16 (replicate 32 0))
zero_vecs = record {
  sixteen = refl;
  each = λ n v e. rw (replicated 16 n (replicate 32 0) v e) (refl, zeros_below 32);
}

start_from : (regs : List ℕ) → AreRegs regs → IsPlainStart (start_at regs)
start_from regs are = record {
  start = record {
    valid = record { regs = are; entry = are; vecs = zero_vecs; memory = λ at. omega arith };
    first = refl;
    entered = refl;
    unset = refl;
  };
  no_region = refl;
  no_stack = refl;
}

returns_from : (f : List Insn) (p : IsPlain f) (a : Sum) (regs : List ℕ) (value : ℕ) → LeavesInRax f a → AreRegs regs → value ≡ sum_value a regs → ReturnsFrom regs f value
returns_from f p a regs value h are is = (
  plain_end [] p (start_at regs),
  plain_ends f [] p (start_at regs) (start_from regs are),
  ap (λ (after : List ℕ). slice_index after 0) (plain_end-regs [] p (start_at regs)) ∙ leaves f p a regs h are ∙ sym is,
)

agree_from : (f g : List Insn) (a b : Sum) (regs : List ℕ) → IsPlain f → IsPlain g → LeavesInRax f a → LeavesInRax g b → AreRegs regs
    → sum_value a regs ≡ sum_value b regs → AgreeFrom regs f g
agree_from f g a b regs p q left right are same = (sum_value a regs, returns_from f p a regs (sum_value a regs) left are refl, returns_from g q b regs (sum_value a regs) right are same)

-- the shown registers, and that they are registers
shown_regs : (f g : List Insn) (a b : Sum) (regs : List ℕ) → IsPlain f → IsPlain g → LeavesInRax f a → LeavesInRax g b → TellsApart a b regs
    → AreRegs regs × IsShownState f g regs
shown_regs f g a b regs p q left right apart =
    ⊎_elim {C = AreRegs regs × IsShownState f g regs}
    (λ none. (rw none none_are, inl none))
    (λ one. (
      rw one.2 (one_are one.0),
      inr (
        one.0,
        one.1,
        one.2,
        agree_from f g a b no_register p q left right none_are one.3,
        λ m h. agree_from f g a b (one_register m) p q left right (one_are m) (one.4 m h),
      ),
    ))
    apart.1

-- functions whose sums are told apart
pub sums_differ : (f g : List Insn) (a b : Sum) (regs : List ℕ) (left_value right_value : ℕ) → IsPlain f → IsPlain g
    → LeavesInRax f a → LeavesInRax g b → TellsApart a b regs → left_value ≡ sum_value a regs → right_value ≡ sum_value b regs
    → ReturnDifferently regs f g left_value right_value
sums_differ f g a b regs left_value right_value p q left right apart left_is right_is =
    let shown = shown_regs f g a b regs p q left right apart in
    record {
      start = start_from regs shown.0;
      shown = shown.1;
      left_returns = returns_from f p a regs left_value left shown.0 left_is;
      right_returns = returns_from g q b regs right_value right shown.0 right_is;
      differ = λ e. apart.0 (sym left_is ∙ e ∙ right_is);
    }

-- functions that return differently do not return the same everywhere
pub differently-same : (regs : List ℕ) (left right : List Insn) (left_value right_value : ℕ) → ReturnDifferently regs left right left_value right_value
    → ReturnTheSame left right → ⊥
differently-same regs left right left_value right_value d same =
    let value : Run Machine → ℕ = λ run. rax run.0 in
    let how : Run Machine → RunEnd = λ run. run.1 in
    let l = d.left_returns in
    let r = d.right_returns in
    d.differ (sym l.2 ∙ ap value (sym l.1)
    ∙ same (start_at regs) d.start (length left) (length right) (length left) (length right) (ap how l.1) (ap how r.1)
    ∙ ap value r.1 ∙ r.2)

-- equivalent functions do not return apart
pub equivalent-apart : (bound : ℕ) (left right : List Insn) → AreEquivalentWithin bound left right → ReturnApart left right → ⊥
equivalent-apart bound left right e a =
    a.differ (e.equivalent.same a.start a.is_start a.left_steps a.right_steps a.left_number a.right_number a.left_returns a.right_returns)

-- from a state a function returns with one %rax at most
returns-once : (regs : List ℕ) (f : List Insn) (a b : ℕ) → ReturnsFrom regs f a → ReturnsFrom regs f b → a ≡ b
returns-once regs f a b x y = sym x.2 ∙ ap (λ (run : Run Machine). rax run.0) (sym x.1 ∙ y.1) ∙ y.2

agree-differ : (regs : List ℕ) (left right : List Insn) (a b : ℕ) → ReturnDifferently regs left right a b → AgreeFrom regs left right → ⊥
agree-differ regs left right a b d agree =
    d.differ (returns-once regs left a agree.0 d.left_returns agree.1 ∙ returns-once regs right agree.0 b agree.2 d.right_returns)

shown-once : (left right : List Insn) (p q : List ℕ) → IsShownState left right p → IsShownState left right q
    → (AgreeFrom p left right → ⊥) → (AgreeFrom q left right → ⊥) → p ≡ q
shown-once left right p q (inl x) (inl y) differ other = x ∙ sym y
shown-once left right p q (inl x) (inr y) differ other = absurd (differ (subst (λ (regs : List ℕ). AgreeFrom regs left right) (sym x) y.3))
shown-once left right p q (inr x) (inl y) differ other = absurd (other (subst (λ (regs : List ℕ). AgreeFrom regs left right) (sym y) x.3))
shown-once left right p q (inr x) (inr y) differ other =
    ⊎_elim {C = p ≡ q}
    (λ less. absurd (differ (subst (λ (regs : List ℕ). AgreeFrom regs left right) (sym x.2) (y.4 x.0 less))))
    (λ no_less. ⊎_elim {C = p ≡ q}
    (λ more. absurd (other (subst (λ (regs : List ℕ). AgreeFrom regs left right) (sym y.2) (x.4 y.0 more))))
    (λ no_more. let same : x.0 ≡ y.0 = omega arith in x.2 ∙ ap one_register same ∙ sym y.2)
    (cases_lt y.0 x.0))
    (cases_lt x.0 y.0)

-- two functions return differently from one shown state at most
pub differently-once : (p q : List ℕ) (left right : List Insn) (a b c d : ℕ) → ReturnDifferently p left right a b → ReturnDifferently q left right c d → p ≡ q
differently-once p q left right a b c d x y =
    shown-once left right p q x.shown y.shown (agree-differ p left right a b x) (agree-differ q left right c d y)

-- and with one %rax on each side
pub differently-left : (regs : List ℕ) (left right : List Insn) (a b c d : ℕ) → ReturnDifferently regs left right a b → ReturnDifferently regs left right c d → a ≡ c
differently-left regs left right a b c d x y = returns-once regs left a c x.left_returns y.left_returns

pub differently-right : (regs : List ℕ) (left right : List Insn) (a b c d : ℕ) → ReturnDifferently regs left right a b → ReturnDifferently regs left right c d → b ≡ d
differently-right regs left right a b c d x y = returns-once regs right b d x.right_returns y.right_returns
