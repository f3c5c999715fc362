-- The functions that texts spell are closed.
use Rattle.std.proofs.Common.{◌≡◌, ℕ, zero, suc, ◌-◌, ◌<◌, ◌≤◌, min, Bool, true, false, cond, ltb, not, inr, List, [], ◌∷◌, ◌++◌, length, Some, Result, Ok, Err, IfOk, slice_get, refl, sym, ap, ◌∙◌, subst, append-nil, append_assoc, arith}
use Rattle.std.specs.List.{count_by, filter, AllZip, AllByRecursion}
use Rattle.std.proofs.lemmas.Bool.{ltb-true, ltb-false}
use Rattle.std.proofs.lemmas.Option.{same_Some, slice_get_within}
use Rattle.std.proofs.lemmas.List.Sums.{length-filter}
use Rattle.std.proofs.lemmas.Slice.Zip.{AllZip-long}
use Rattle.outcomes.specs.Answering.{Answers}
use Rattle.outcomes.specs.Firsts.{HasFault}
use Rattle.outcomes.proofs.FirstFaults.{fault-here, fault-later}
use Rattle.insn_table.specs.declared.insn.Insn.{Insn}
use Rattle.insn_table.specs.Table.{IsTableInsn}
use Rattle.insn_table.specs.Closed.{IsInside, IsLeaving, IsClosed}
use Rattle.text_lines.specs.declared.refusal.ReadKind.{ReadKind}
use Rattle.text_lines.specs.declared.refusal.ReadKind.TheVariants.{TooManyInsns}
use Rattle.text_lines.specs.Lines.{Item, Label, Statement}
use Rattle.text_lines.specs.Kinds.{line_number, out_of_memory}
use Rattle.att_bodies.specs.Body.{is_directive, is_code, IsTarget}
use Rattle.att_bodies.specs.Faults.{Fault, fault, IsItemFault}
use Rattle.att_bodies.specs.Functions.{Spells, AreInsns, IsFunction}
use Rattle.att_bodies.proofs.Counts.{count-cons, count-append, count-push, any-counted}
use Rattle.att_statements.specs.Statements.{IsInsnText, IsBadStatement}
use Rattle.insn_table.specs.declared.insn.Function.{Function}
use Rattle.text_lines.specs.declared.refusal.ReadRefusal.{ReadRefusal}
use Rattle.att_reader.specs.FunctionText.{IsFunctionText, IsFunctionRefusal}
use Rattle.att_reader.proofs.ClosedInsns.{insn-closed}

few_code : (IsBad : List ℕ → ReadKind → Type 0) (before : List Item) (x : List ℕ) (k : ℕ) (is : List Item) → is_directive x ≡ false
    → ((e : Fault) → HasFault (IsItemFault IsBad) before (Statement x k ∷ is) e → ⊥) → (t : Bool) → ltb (count_by is_code before) 4096 ≡ t → count_by is_code before < 4096
few_code IsBad before x k is code sound true e = ltb-true (count_by is_code before) 4096 e
few_code IsBad before x k is code sound false e =
    absurd (sound (fault k TooManyInsns)
    (fault-here (IsItemFault IsBad) before (Statement x k) is (fault k TooManyInsns) (inr (inr (refl, code, ltb-false (count_by is_code before) 4096 e)))))

statement_counts : (before : List Item) (x : List ℕ) (k : ℕ) (t : Bool) → is_directive x ≡ t → count_by is_code before ≤ 4096 → (t ≡ false → count_by is_code before < 4096)
    → count_by is_code (before ++ Statement x k ∷ []) ≤ 4096
statement_counts before x k true d few less =
    let none : ◌≡◌ {A = ℕ} (cond (is_code (Statement x k)) 1 0) 0 = ap (λ (t : Bool). cond {A = ℕ} (not t) 1 0) d in omega (arith, count-push is_code before (Statement x k))
statement_counts before x k false d few less =
    let one : ◌≡◌ {A = ℕ} (cond (is_code (Statement x k)) 1 0) 1 = ap (λ (t : Bool). cond {A = ℕ} (not t) 1 0) d in
    omega (arith, count-push is_code before (Statement x k), less refl)

few_next : (IsBad : List ℕ → ReadKind → Type 0) (before : List Item) (i : Item) (is : List Item) → ((e : Fault) → HasFault (IsItemFault IsBad) before (i ∷ is) e → ⊥)
    → count_by is_code before ≤ 4096 → count_by is_code (before ++ i ∷ []) ≤ 4096
few_next IsBad before (Label name k) is sound few = omega (arith, count-push is_code before (Label name k))
few_next IsBad before (Statement x k) is sound few =
    statement_counts before x k (is_directive x) refl few (λ code. few_code IsBad before x k is code sound (ltb (count_by is_code before) 4096) refl)

-- a body without faults has at most 4,096 instructions
few-code : (IsBad : List ℕ → ReadKind → Type 0) (before body : List Item) → ((e : Fault) → HasFault (IsItemFault IsBad) before body e → ⊥) → count_by is_code before ≤ 4096
    → count_by is_code (before ++ body) ≤ 4096
few-code IsBad before [] sound few = subst (λ (x : List Item). count_by is_code x ≤ 4096) (sym (append-nil before)) few
few-code IsBad before (i ∷ is) sound few =
    let next = few_next IsBad before i is sound few in
    subst (λ (x : List Item). count_by is_code x ≤ 4096) (append_assoc before (i ∷ []) is)
    (few-code IsBad (before ++ i ∷ []) is (λ e h. sound e (fault-later (IsItemFault IsBad) before i is e h)) next)

-- there are as many instructions as statements that are instructions
insns-long : (IsInsn : List ℕ → ℕ → Insn → Type 0) (body : List Item) (insns : List Insn) → AreInsns IsInsn body insns → length insns ≡ count_by is_code body
insns-long IsInsn body insns read = AllZip-long (Spells IsInsn) (filter is_code body) insns read ∙ length-filter is_code body

min-le : (a b : ℕ) → min a b ≤ a
min-le a b = omega arith

-- labels lead to instructions of the body
target-inside : (body : List Item) (name : List ℕ) (place : ℕ) → IsTarget body name place → place < count_by is_code body
target-inside body name place h =
    let whole : count_by is_code body ≡ count_by is_code (h.before ++ h.label ∷ h.after) = ap (count_by is_code) h.there in
    omega (arith, h.number, count-append is_code h.before (h.label ∷ h.after), count-cons is_code h.label h.after, any-counted is_code h.after h.carried)

-- what holds of what each item spells
pub spelled-each : (IsInsn : List ℕ → ℕ → Insn → Type 0) (P : Insn → Type 0) → ((x : List ℕ) (line : ℕ) (i : Insn) → IsInsn x line i → P i)
    → (items : List Item) (insns : List Insn) → AllZip (Spells IsInsn) items insns → (k : ℕ) (i : Insn) → slice_get insns k ≡ Some i → P i
spelled-each IsInsn P each [] [] read k i there = cc
spelled-each IsInsn P each [] (j ∷ js) read k i there = absurd read
spelled-each IsInsn P each (item ∷ items) [] read k i there = absurd read
spelled-each IsInsn P each (Label name line ∷ items) (j ∷ js) read k i there = absurd read.0
spelled-each IsInsn P each (Statement x line ∷ items) (j ∷ js) read zero i there =
    subst P (same_Some j i there) (each x (line_number line) j read.0)
spelled-each IsInsn P each (Statement x line ∷ items) (j ∷ js) read (suc k) i there = spelled-each IsInsn P each items js read.1 k i there

-- a function that items spell is closed
pub function-closed : (name : List ℕ) (items : List Item) (insns : List Insn) → IsFunction IsBadStatement IsInsnText name items insns → IsClosed insns
function-closed name items insns f =
    let long = insns-long (IsInsnText (IsTarget f.body)) f.body insns f.read in
    let few : count_by is_code f.body ≤ 4096 = few-code (IsBadStatement (IsTarget f.body)) [] f.body f.sound (omega arith) in
    let right = spelled-each (IsInsnText (IsTarget f.body)) (λ i. IsTableInsn i × AllByRecursion (IsInside (length insns)) i.args)
    (λ x line i is. insn-closed (length insns) (IsTarget f.body) x line i (λ n place leads. omega (arith, long, target-inside f.body n place leads)) is)
    (filter is_code f.body) insns f.read in
    record {
      some = omega (arith, slice_get_within insns (length insns - 1) f.leaves.last f.leaves.there);
      few = omega (arith, long, few);
      each = λ k i there. (right k i there).0;
      targets = λ k i there. (right k i there).1;
      last = λ i there. subst (λ (x : Insn). IsLeaving x.op) (same_Some f.leaves.last i (sym f.leaves.there ∙ there)) f.leaves.leaves;
    }

-- whatever is read is closed
pub reads-closed : (text name : List ℕ) (r : Result Function ReadRefusal) → Answers out_of_memory (IsFunctionText text name) (IsFunctionRefusal text name) r → IfOk r (λ f. IsClosed f.insns)
reads-closed text name (Ok f) h = function-closed name h.items f.insns h.function
reads-closed text name (Err e) h = tt

-- a function that items spell has at most 4,096 instructions
pub function-few : (name : List ℕ) (items : List Item) (insns : List Insn) → IsFunction IsBadStatement IsInsnText name items insns → length insns ≤ 4096
function-few name items insns f =
    let long = insns-long (IsInsnText (IsTarget f.body)) f.body insns f.read in
    let few : count_by is_code f.body ≤ 4096 = few-code (IsBadStatement (IsTarget f.body)) [] f.body f.sound (omega arith) in
    omega (arith, long, few)
