-- What is allowed lies in spans.
use Rattle.std.proofs.Common.{◌≡◌, inl, inr, ℕ, ◌+◌, ◌-◌, ◌/◌, ◌%◌, ◌^◌, ◌<◌, ◌≤◌, Bool, true, false, not, nat_lt, ◌&&◌, ◌||◌, List, [], ◌∷◌, refl, subst, arith}
use Rattle.std.specs.List.{AllByRecursion, list_all, list_any}
use Rattle.std.proofs.lemmas.Bool.Decides.{nat_tests}
use Rattle.std.proofs.lemmas.Bool.{and_parts, or_cases}
use Rattle.insn_ops.specs.declared.op.Op.{Op}
use Rattle.insn_ops.specs.declared.op.Op.TheVariants as ops
use Rattle.insn_table.specs.declared.insn.Insn.{Insn}
use Rattle.insn_table.specs.declared.insn.Operand.{Operand}
use Rattle.insn_table.specs.declared.insn.Operand.TheVariants.{Reg, Imm, Mem, Vec, Pool, Target, Nothing}
use Rattle.memory_spans.specs.declared.region.Region.{Region}
use Rattle.machine.specs.Access.{Access, access_of, accesses, are_aligned, arity, holds_access, is_allowed, is_on_stack, operand_accesses, target_width, writes}
use Rattle.machine.specs.Kept.{IsKept, Kept, pure_of}
use Rattle.memory_spans.specs.Spans.{is_spanned}
use Rattle.memory_spans.specs.Memory.{offset_from}
use Rattle.machine.specs.Machine.{entry_pointer, stack_base}
use Rattle.memory_spans.specs.Regions.{IsPlaced}
use Rattle.machine.specs.Operands.{effective_address, operand}
use Rattle.machine.specs.Runnable.{IsGeneralRegister}
use Rattle.machine.specs.Spanned.{AreSpanned, IsSpanned}
use Rattle.machine.specs.Step.{target_operand}
use Rattle.machine.specs.declared.operands.Family.TheVariants.{OnVectors}
use Rattle.machine.specs.Family.{family_of}
use Rattle.machine.specs.Vectors.{last_operand}
use Rattle.machine.proofs.VectorFamilies.{IsOfWords, vectors_write, words_width}
use Rattle.machine.proofs.Writing.{written_allowed}

-- the j-th of n bytes that lie within len ones from a base on
within_region : (base len at n j : ℕ) → base + len ≤ 2 ^ 64 → at < 2 ^ 64
    → (not (nat_lt len n) && not (nat_lt (len - n) (offset_from base at))) ≡ true → j < n
    → (base ≤ (at + j) % 2 ^ 64) × ((at + j) % 2 ^ 64 < base + len)
within_region base len at n j fits small h low =
    let bounds : (n ≤ len) × (offset_from base at ≤ len - n) = grind (arith, nat_tests) in
    (omega (arith, bounds.0, bounds.1), omega (arith, bounds.0, bounds.1))

-- the test of one region
region_test : (w r h : Bool) → (not w || r) && h ≡ true → h ≡ true
region_test w r true e = refl
region_test w r false e = grind arith

region_spanned : (k : Kept) (a : Access) (rs : List Region) (at n j : ℕ) → a.at ≡ at → a.bytes ≡ n → at < 2 ^ 64
    → AllByRecursion (IsPlaced (entry_pointer (pure_of k)) k.stack) rs
    → AllByRecursion (λ r. (x : ℕ) → r.base ≤ x → x < r.base + r.len → is_spanned k.spans x ≡ true) rs
    → list_any (λ r. (not a.write || r.write) && holds_access r a) rs ≡ true → j < n → is_spanned k.spans ((at + j) % 2 ^ 64) ≡ true
region_spanned k a [] at n j same bytes small each spanned h low = cc
region_spanned k a (r ∷ rs) at n j same bytes small each spanned h low =
    elim (or_cases ((not a.write || r.write) && holds_access r a) (list_any (λ r. (not a.write || r.write) && holds_access r a) rs) h) [
      | inl here ↦
          let register_or_zero : holds_access r a ≡ true = (and_parts (not a.write || r.write) (holds_access r a) here).1 in
          let bounds = within_region r.base r.len at n j each.0.fits small (rw (same, bytes) at register_or_zero) low in
          spanned.0 ((at + j) % 2 ^ 64) bounds.0 bounds.1
      | inr there ↦ region_spanned k a rs at n j same bytes small each.1 spanned.1 there low
    ]

-- the bytes of an allowed access lie in spans
pub allowed_spanned : (k : Kept) (at n : ℕ) (w : Bool) → at < 2 ^ 64 → IsKept k
    → is_allowed (pure_of k) (record { at = at; bytes = n; write = w }) ≡ true → AreSpanned k at n
allowed_spanned k at n w small h allowed j low =
    region_spanned k (record { at = at; bytes = n; write = w }) k.regions at n j refl refl small h.regions h.spanned allowed low

-- eight bytes among the declared stack bytes
pub stack_spanned : (k : Kept) (at : ℕ) → at < 2 ^ 64 → IsKept k → is_on_stack (pure_of k) at ≡ true → AreSpanned k at 8
stack_spanned k at small h on j low =
    h.stack_spanned ((at + j) % 2 ^ 64) (omega arith) (stack_offset (stack_base (pure_of k)) k.stack at j low on h.small)
  where
    stack_offset : (base stack at j : ℕ) → j < 8 → (not (nat_lt stack 8) && not (nat_lt (stack - 8) (offset_from base at))) ≡ true → stack ≤ 4096
        → offset_from base ((at + j) % 2 ^ 64) < stack + 8
    stack_offset base stack at j low h small =
        let bounds : (8 ≤ stack) × (offset_from base at ≤ stack - 8) = grind (arith, nat_tests) in
        omega (arith, bounds.0, bounds.1)

-- an operand that may be written is spanned
operand_spanned : (k : Kept) (o : Operand) (w : ℕ) → IsKept k → list_all (is_allowed (pure_of k)) (access_of (pure_of k) o w true) ≡ true → IsSpanned k w o
operand_spanned k (Mem base index scale disp) w h e =
    allowed_spanned k (effective_address k.regs base index scale disp) (w / 8) true (omega arith) h
    (and_parts (is_allowed (pure_of k) (record { at = effective_address k.regs base index scale disp; bytes = w / 8; write = true })) true e).0
operand_spanned k (Reg n v) w h e = tt
operand_spanned k (Imm v) w h e = tt
operand_spanned k (Vec n v) w h e = tt
operand_spanned k (Pool n) w h e = tt
operand_spanned k (Target n) w h e = tt
operand_spanned k Nothing w h e = tt

target_by : (op : Op) (i : Insn) (k : Kept) → IsSpanned k i.w (operand i (arity i - 1)) → IsSpanned k i.w (target_operand op i)
target_by ops.Cltq i k h = tt
target_by _ i k h = h

-- what a row of words writes is spanned, where its accesses are allowed
pub target_spanned : (i : Insn) (k : Kept) → IsOfWords (family_of i.op) → IsKept k → list_all (is_allowed (pure_of k)) (operand_accesses i (pure_of k)) ≡ true → writes i.op ≡ true
    → IsSpanned k i.w (target_operand i.op i)
target_spanned i k words h allowed w =
    target_by i.op i k (operand_spanned k (operand i (arity i - 1)) i.w h
    (subst (λ (n : ℕ). list_all (is_allowed (pure_of k)) (access_of (pure_of k) (operand i (arity i - 1)) n true) ≡ true) (words_width i.op i.w words) (written_allowed i (pure_of k) w allowed)))

-- what an operation on vectors writes is spanned, where its tests hold
pub vector_spanned : (i : Insn) (k : Kept) → family_of i.op ≡ OnVectors → IsKept k
    → (list_all (is_allowed (pure_of k)) (accesses OnVectors i (pure_of k)) && are_aligned i (pure_of k)) ≡ true
    → IsSpanned k (target_width i.op i.w) (last_operand i)
vector_spanned i k f h allowed =
    operand_spanned k (last_operand i) (target_width i.op i.w) h
    (written_allowed i (pure_of k) (vectors_write i.op f) (and_parts _ _ allowed).0)

-- a register is no memory
pub register_spanned : (k : Kept) (w : ℕ) (o : Operand) → IsGeneralRegister o → IsSpanned k w o
register_spanned k w (Reg n v) is = tt
register_spanned k w (Mem base index scale disp) is = absurd is
register_spanned k w (Imm v) is = absurd is
register_spanned k w (Vec n v) is = absurd is
register_spanned k w (Pool n) is = absurd is
register_spanned k w (Target n) is = absurd is
register_spanned k w Nothing is = absurd is
