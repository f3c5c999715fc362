-- What assembling and building check is so: registers and scales that there are, and closed functions.
use Rattle.std.proofs.Common.{◌≡◌, ℕ, zero, suc, ◌-◌, ◌<◌, ◌==◌, Bool, true, false, ◌&&◌, ◌||◌, if◌then◌else◌, List, [], ◌∷◌, length, Option, Some, None, Ok, slice_get, is_some, ◌≤◌, IfSome, refl, subst, inl, inr, ⊎_elim, arith}
use Rattle.std.specs.List.{list_all, AllByRecursion}
use Rattle.std.proofs.lemmas.Bool.Decides.{Decides-eqb, Decides-ltb, nat_tests}
use Rattle.std.proofs.lemmas.Bool.{and_parts, or_cases}
use Rattle.insn_ops.specs.declared.op.Op.{Op}
use Rattle.insn_ops.specs.declared.op.Op.TheVariants.{Jmp, Ret}
use Rattle.insn_table.specs.declared.insn.Operand.{Operand}
use Rattle.insn_table.specs.declared.insn.Operand.TheVariants.{Reg, Mem, Vec, Target}
use Rattle.insn_table.specs.declared.insn.Insn.{Insn}
use Rattle.insn_spellings.specs.declared.shape.Shape.{Shape}
use Rattle.insn_table.specs.declared.build_error.BuildError.TheVariants.{Empty, TargetOutside, FallsOff}
use Rattle.insn_spellings.specs.Rows.{named}
use Rattle.insn_spellings.specs.Spellings.{table_rows}
use Rattle.insn_table.specs.Forms.{fits_of}
use Rattle.insn_table.specs.Closed.{IsClosed, IsInside, IsLeaving}
use Rattle.insn_table.specs.Table.{HasRegisters, IsScale, IsTableInsn}
use Rattle.insn_table.specs.Building.{four_of, is_known, is_scale, has_registers, is_inside, goes_inside, is_leaving, leaves, fault_of, IsDraft}
use Rattle.insn_table.proofs.ClosedLists.{closed_list}
use Rattle.insn_table.proofs.TableInsns.{fitted-insn}

-- what a test that each passes says of each
pub all-pass : {X : Type 0} (p : X → Bool) (P : X → Type 0) → ((x : X) → p x ≡ true → P x) → (xs : List X) → list_all p xs ≡ true → AllByRecursion P xs
all-pass p P says [] h = tt
all-pass p P says (x ∷ xs) h = let both = and_parts (p x) (list_all p xs) h in (says x both.0, all-pass p P says xs both.1)

-- registers and scales

known-below : (n : Option ℕ) → is_known n ≡ true → IfSome n (λ k. k < 16)
known-below None h = tt
known-below (Some n) h = (Decides-ltb n 16).0 h

scale-known : (s : ℕ) → is_scale s ≡ true → IsScale s
scale-known s h =
    ⊎_elim (λ (e : (s == 1) ≡ true). inl ((Decides-eqb s 1).0 e))
    (λ (e : (s == 2 || (s == 4 || s == 8)) ≡ true). inr (
    ⊎_elim (λ (f : (s == 2) ≡ true). inl ((Decides-eqb s 2).0 f))
    (λ (f : (s == 4 || s == 8) ≡ true). inr (
    ⊎_elim (λ (g : (s == 4) ≡ true). inl ((Decides-eqb s 4).0 g)) (λ (g : (s == 8) ≡ true). inr ((Decides-eqb s 8).0 g))
    (or_cases (s == 4) (s == 8) f)))
    (or_cases (s == 2) (s == 4 || s == 8) e)))
    (or_cases (s == 1) (s == 2 || (s == 4 || s == 8)) h)

registers-known : (a : Operand) → has_registers a ≡ true → HasRegisters a
registers-known (Reg n w) h = (Decides-ltb n 16).0 h
registers-known (Vec n w) h = (Decides-ltb n 16).0 h
registers-known (Mem base index scale disp) h =
    let first = and_parts (is_known base) (is_known index && is_scale scale) h in
    let rest = and_parts (is_known index) (is_scale scale) first.1 in
    record { 0 = known-below base first.0; 1 = known-below index rest.0; 2 = scale-known scale rest.1 }
registers-known _ h = tt

-- what fits makes, with registers that there are, is an instruction of the table
pub made_of_table : (mnemonic : List ℕ) (shape : Shape) (args : List Operand) (line : ℕ) (i : Insn)
    → named table_rows mnemonic ≡ Some shape → fits_of shape args line ≡ Ok i → list_all has_registers i.args ≡ true → IsTableInsn i
made_of_table mnemonic shape args line i names fits known = fitted-insn mnemonic shape args line i names fits (all-pass has_registers HasRegisters registers-known i.args known)

-- closed functions

inside-known : (n : ℕ) (a : Operand) → is_inside n a ≡ true → IsInside n a
inside-known n (Target place) h = (Decides-ltb place n).0 h
inside-known n _ h = tt

leaving-known : (op : Op) → is_leaving op ≡ true → IsLeaving op
leaving-known Ret h = tt
leaving-known Jmp h = tt
leaving-known _ h = cc

-- what a list in which no fault was found passed
record Passes (insns : List Insn) : Type 0 where
  some : 0 < length insns
  inside : list_all (goes_inside (length insns)) insns ≡ true
  last : leaves (slice_get insns (length insns - 1)) ≡ true

no_fault-passed : (a b c : Bool) → (if a then Some Empty else if b then (if c then None else Some FallsOff) else Some TargetOutside) ≡ None
    → (a ≡ false) × (b ≡ true) × (c ≡ true)
no_fault-passed true b c h = cc
no_fault-passed false true true h = (refl, refl, refl)
no_fault-passed false true false h = cc
no_fault-passed false false c h = cc

no_fault-found : (a b c : Bool) → a ≡ false → b ≡ true → c ≡ true
    → (if a then Some Empty else if b then (if c then None else Some FallsOff) else Some TargetOutside) ≡ None
no_fault-found a b c h k l = rw (h, k, l) refl

above_zero : (n : ℕ) → (n == 0) ≡ false → 0 < n
above_zero n h = grind (arith, nat_tests)

no_fault-passes : (insns : List Insn) → fault_of insns ≡ None → Passes insns
no_fault-passes insns h =
    let passed = no_fault-passed (length insns == 0) (list_all (goes_inside (length insns)) insns) (leaves (slice_get insns (length insns - 1))) h in
    record { some = above_zero (length insns) passed.0; inside = passed.1; last = passed.2 }

-- instructions of the table in which no fault is found are a closed function
pub draft-closed : (insns : List Insn) → IsDraft insns → fault_of insns ≡ None → IsClosed insns
draft-closed insns draft none =
    let passes = no_fault-passes insns none in
    closed_list insns (length insns) refl passes.some draft.few draft.table
    (all-pass (goes_inside (length insns)) (λ i. AllByRecursion (IsInside (length insns)) i.args) (λ i h. all-pass (is_inside (length insns)) (IsInside (length insns)) (inside-known (length insns)) i.args h) insns passes.inside)
    (λ i at. leaving-known i.op (subst (λ (o : Option Insn). leaves o ≡ true) at passes.last))

-- a test that each item passes is passed by all
all-from_each : {X : Type 0} (p : X → Bool) (xs : List X) → ((k : ℕ) (x : X) → slice_get xs k ≡ Some x → p x ≡ true) → list_all p xs ≡ true
all-from_each p [] each = refl
all-from_each p (x ∷ xs) each = rw (each zero x refl) (all-from_each p xs (λ k y at. each (suc k) y at))

all-from_facts : {X : Type 0} (p : X → Bool) (P : X → Type 0) → ((x : X) → P x → p x ≡ true) → (xs : List X) → AllByRecursion P xs → list_all p xs ≡ true
all-from_facts p P tests [] each = refl
all-from_facts p P tests (x ∷ xs) each = rw (tests x each.0) (all-from_facts p P tests xs each.1)

inside-tested : (n : ℕ) (a : Operand) → IsInside n a → is_inside n a ≡ true
inside-tested n (Target place) h = (Decides-ltb place n).1 h
inside-tested n _ h = refl

leaving-tested : (op : Op) → IsLeaving op → is_leaving op ≡ true
leaving-tested Ret h = refl
leaving-tested Jmp h = refl
leaving-tested _ h = absurd h

last-leaves : (insns : List Insn) (k : ℕ) → k < length insns → ((i : Insn) → slice_get insns k ≡ Some i → IsLeaving i.op) → leaves (slice_get insns k) ≡ true
last-leaves [] k h last = absurd (omega (arith, h))
last-leaves (i ∷ is) zero h last = leaving-tested i.op (last i refl)
last-leaves (i ∷ is) (suc k) h last = last-leaves is k (omega (arith, h)) (λ j at. last j at)

-- in a closed function no fault is found
pub closed-no_fault : (insns : List Insn) → IsClosed insns → fault_of insns ≡ None
closed-no_fault [] closed = absurd (omega (arith, closed.some))
closed-no_fault (i ∷ is) closed =
    let insns : List Insn = i ∷ is in
    let some : (length (i ∷ is) == 0) ≡ false = grind (arith, nat_tests) in
    let inside : list_all (goes_inside (length (i ∷ is))) (i ∷ is) ≡ true =
    all-from_each (goes_inside (length (i ∷ is))) (i ∷ is) (λ k j at.
    all-from_facts (is_inside (length (i ∷ is))) (IsInside (length (i ∷ is))) (inside-tested (length (i ∷ is))) j.args (closed.targets k j at)) in
    let ends : leaves (slice_get (i ∷ is) (length (i ∷ is) - 1)) ≡ true = last-leaves (i ∷ is) (length (i ∷ is) - 1) (omega (arith, closed.some)) closed.last in
    no_fault-found (length (i ∷ is) == 0) (list_all (goes_inside (length (i ∷ is))) (i ∷ is)) (leaves (slice_get (i ∷ is) (length (i ∷ is) - 1))) some inside ends

-- operands

-- four operands and fewer are four, with nothing behind them
pub at-most_four : (args : List Operand) → length args ≤ 4 → is_some (four_of args) ≡ true
at-most_four [] few = refl
at-most_four (a ∷ []) few = refl
at-most_four (a ∷ b ∷ []) few = refl
at-most_four (a ∷ b ∷ c ∷ []) few = refl
at-most_four (a ∷ b ∷ c ∷ d ∷ []) few = refl
at-most_four (a ∷ b ∷ c ∷ d ∷ e ∷ more) few = absurd (omega arith)

pub ruleset four_operands = (at-most_four)
