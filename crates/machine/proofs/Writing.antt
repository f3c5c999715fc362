-- What an instruction writes, where its accesses are allowed.
use Rattle.std.proofs.Common.{◌≡◌, ℕ, ◌+◌, ◌-◌, ◌==◌, Bool, true, false, ◌&&◌, List, ◌++◌, if◌then◌else◌, refl, sym, ◌∙◌, subst}
use Rattle.std.specs.List.{list_all}
use Rattle.std.proofs.lemmas.List.Folds.{list_all-append}
use Rattle.std.proofs.lemmas.Bool.{and_parts}
use Rattle.insn_ops.specs.declared.op.Op.{Op}
use Rattle.insn_ops.specs.declared.op.Op.TheVariants as ops
use Rattle.insn_table.specs.declared.insn.Insn.{Insn}
use Rattle.insn_table.specs.declared.insn.Operand.{Operand}
use Rattle.insn_table.specs.declared.insn.Operand.TheVariants.{Reg, Imm, Mem, Vec, Pool, Target, Nothing}
use Rattle.insn_table.specs.Classes.{is_addressed, is_nothing}
use Rattle.machine.specs.Access.{Access, access_at, access_of, accesses, arity, is_allowed, operand_accesses, source_width, target_width, writes}
use Rattle.machine.specs.Family.{family_of}
use Rattle.machine.proofs.VectorFamilies.{IsOfWords, vectors_not}
use Rattle.machine.specs.Machine.{Machine}
use Rattle.machine.specs.Operands.{operand}
use Rattle.machine.specs.Step.{target_operand}

no_access : (s : Machine) (w : ℕ) (o : Operand) → is_addressed o ≡ false → list_all (is_allowed s) (access_of s o w true) ≡ true
no_access s w (Mem base index scale disp) h = absurd (cc)
no_access s w (Reg n width) h = refl
no_access s w (Imm v) h = refl
no_access s w (Vec n width) h = refl
no_access s w (Pool n) h = refl
no_access s w (Target n) h = refl
no_access s w Nothing h = refl

nothing_addressed : (o : Operand) → is_nothing o ≡ true → is_addressed o ≡ false
nothing_addressed (Mem base index scale disp) h = absurd (cc)
nothing_addressed (Reg n width) h = refl
nothing_addressed (Imm v) h = refl
nothing_addressed (Vec n width) h = refl
nothing_addressed (Pool n) h = refl
nothing_addressed (Target n) h = refl
nothing_addressed Nothing h = refl

-- the access of operand k of so many, where the operation writes
abbrev access_with : Insn → Machine → ℕ → ℕ → Bool → List Access
access_with i s k operands writing =
    access_of s (operand i k) (if (k + 1) == operands then target_width i.op i.w else source_width i.op i.w) (((k + 1) == operands) && writing)

abbrev count_of : Bool → Bool → Bool → Bool → ℕ
count_of first second third fourth = if first then 0 else (if second then 1 else (if third then 2 else (if fourth then 3 else 4)))

-- the last operand is among those of which each access is allowed
last_allowed : (i : Insn) (s : Machine) (first second third fourth : Bool) → is_nothing (operand i 0) ≡ first
    → list_all (is_allowed s) (access_with i s 0 (count_of first second third fourth) true) ≡ true
    → list_all (is_allowed s) (access_with i s 1 (count_of first second third fourth) true) ≡ true
    → list_all (is_allowed s) (access_with i s 2 (count_of first second third fourth) true) ≡ true
    → list_all (is_allowed s) (access_with i s 3 (count_of first second third fourth) true) ≡ true
    → list_all (is_allowed s) (access_of s (operand i (count_of first second third fourth - 1)) (target_width i.op i.w) true) ≡ true
last_allowed i s true second third fourth none a b c d = no_access s (target_width i.op i.w) (operand i 0) (nothing_addressed (operand i 0) none)
last_allowed i s false true third fourth none a b c d = a
last_allowed i s false false true fourth none a b c d = b
last_allowed i s false false false true none a b c d = c
last_allowed i s false false false false none a b c d = d

two_parts : (p : Access → Bool) (xs ys : List Access) → list_all p (xs ++ ys) ≡ true → (list_all p xs ≡ true) × (list_all p ys ≡ true)
two_parts p xs ys h = and_parts (list_all p xs) (list_all p ys) (sym (list_all-append p xs ys) ∙ h)

-- what the last operand writes is allowed where each access is
pub written_allowed : (i : Insn) (s : Machine) → writes i.op ≡ true → list_all (is_allowed s) (operand_accesses i s) ≡ true
    → list_all (is_allowed s) (access_of s (operand i (arity i - 1)) (target_width i.op i.w) true) ≡ true
written_allowed i s writing h =
    let three = two_parts (is_allowed s) (access_at i s 0 ++ access_at i s 1 ++ access_at i s 2) (access_at i s 3) h in
    let two = two_parts (is_allowed s) (access_at i s 0 ++ access_at i s 1) (access_at i s 2) three.0 in
    let one = two_parts (is_allowed s) (access_at i s 0) (access_at i s 1) two.0 in
    let with_k = λ (k : ℕ) (g : list_all (is_allowed s) (access_at i s k) ≡ true).
    subst (λ (b : Bool). list_all (is_allowed s) (access_with i s k (arity i) b) ≡ true) writing g
    in
    last_allowed i s (is_nothing (operand i 0)) (is_nothing (operand i 1)) (is_nothing (operand i 2)) (is_nothing (operand i 3)) refl
    (with_k 0 one.0) (with_k 1 one.1) (with_k 2 two.1) (with_k 3 three.1)

-- what a row writes may be written, where its accesses are allowed and `lea` writes no memory
pub row_allowed : (o : Op) (i : Insn) (s : Machine) → writes i.op ≡ true → target_width i.op i.w ≡ i.w → IsOfWords (family_of o) → (o ≡ ops.Lea → is_addressed (target_operand ops.Lea i) ≡ false)
    → list_all (is_allowed s) (accesses (family_of o) i s) ≡ true → list_all (is_allowed s) (access_of s (target_operand o i) i.w true) ≡ true
row_allowed ops.Cltq i s writing width words lea h = refl
row_allowed ops.Lea i s writing width words lea h = no_access s i.w (target_operand ops.Lea i) (lea refl)
row_allowed (ops.Vector op) i s writing width words lea h = absurd (vectors_not op words)
row_allowed _ i s writing width words lea h =
    subst (λ (w : ℕ). list_all (is_allowed s) (access_of s (operand i (arity i - 1)) w true) ≡ true) width (written_allowed i s writing h)
