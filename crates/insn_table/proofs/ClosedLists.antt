-- A list of instructions of the table that go to places of the list, with one behind them that leaves, is closed.
use Rattle.std.proofs.Common.{◌≡◌, ℕ, zero, suc, ◌+◌, ◌-◌, ◌<◌, ◌^◌, List, [], ◌∷◌, ◌++◌, length, slice_get, Some, refl, sym, ◌∙◌, ap, subst, length-append, arith}
use Rattle.std.specs.List.{AllByRecursion}
use Rattle.insn_table.specs.declared.insn.Insn.{Insn}
use Rattle.insn_table.specs.Closed.{IsClosed, IsInside, IsLeaving}
use Rattle.insn_table.specs.Table.{IsTableInsn}

each_at : (P : Insn → Type 0) (insns : List Insn) (k : ℕ) (i : Insn) → AllByRecursion P insns → slice_get insns k ≡ Some i → P i
each_at P [] k i each h = absurd (cc)
each_at P (m ∷ ms) zero i each h = let same : m ≡ i = cc in subst P same each.0
each_at P (m ∷ ms) (suc k) i each h = each_at P ms k i each.1 h

with_last : (P : Insn → Type 0) (body : List Insn) (last : Insn) → AllByRecursion P body → P last → AllByRecursion P (body ++ last ∷ [])
with_last P [] last each end = (end, tt)
with_last P (m ∷ ms) last each end = (each.0, with_last P ms last each.1 end)

last_at : (body : List Insn) (last : Insn) → slice_get (body ++ last ∷ []) (length body) ≡ Some last
last_at [] last = refl
last_at (m ∷ ms) last = last_at ms last

-- a list of n instructions of the table that go to places of the list, of which the last one leaves, is closed
pub closed_list : (insns : List Insn) (n : ℕ) → length insns ≡ n → 0 < n → n < 2 ^ 32
    → AllByRecursion IsTableInsn insns → AllByRecursion (λ i. AllByRecursion (IsInside n) i.args) insns
    → ((i : Insn) → slice_get insns (n - 1) ≡ Some i → IsLeaving i.op) → IsClosed insns
closed_list insns n size some few each inside leaves = record {
  some = omega (arith, size, some);
  few = omega (arith, size, few);
  each = λ k i h. each_at IsTableInsn insns k i each h;
  targets = λ k i h.
      subst (λ (m : ℕ). AllByRecursion (IsInside m) i.args) (sym size) (each_at (λ j. AllByRecursion (IsInside n) j.args) insns k i inside h);
  last = λ i h. leaves i (ap (λ (m : ℕ). slice_get insns (m - 1)) (sym size) ∙ h);
}

-- the same of a list with one instruction behind it, which leaves
pub closed_by : (body : List Insn) (last : Insn) (n : ℕ) → length body + 1 ≡ n → n < 2 ^ 32
    → AllByRecursion IsTableInsn body → AllByRecursion (λ i. AllByRecursion (IsInside n) i.args) body
    → IsTableInsn last → AllByRecursion (IsInside n) last.args → IsLeaving last.op → IsClosed (body ++ last ∷ [])
closed_by body last n size few each inside end end_inside leaves =
    let count : length (body ++ last ∷ []) ≡ n = length-append body (last ∷ []) ∙ size in
    closed_list (body ++ last ∷ []) n count (omega (arith, size)) few (with_last IsTableInsn body last each end)
    (with_last (λ i. AllByRecursion (IsInside n) i.args) body last inside end_inside)
    (λ i h.
    let there : length body ≡ n - 1 = omega (arith, size) in
    let found : Some last ≡ Some i = sym (last_at body last) ∙ ap (slice_get (body ++ last ∷ [])) there ∙ h in
    let same : last ≡ i = cc in
    subst (λ (x : Insn). IsLeaving x.op) same leaves)
