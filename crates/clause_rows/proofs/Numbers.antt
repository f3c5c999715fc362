-- Variables numbered one node after another.
use Rattle.std.proofs.Common.{◌≡◌, ℕ, ◌+◌, ◌*◌, ◌^◌, ◌≤◌, List, [], ◌∷◌, ◌++◌, length, sym, ◌∙◌, subst, arith, inl, inr, add-one}
use Rattle.std.proofs.lemmas.Bool.{cases_lt}
use Rattle.std.proofs.lemmas.List.{get_or_append_left, get_or_push, length_push}
use Rattle.duty_claims.specs.declared.duty.Duty.{Duty}
use Rattle.clause_rows.specs.Numbering.{HaveRowRoom, first_variable, variable_count}

-- the next node's variables stand behind those of the node
pub variable_next : (d : Duty) (i next count : ℕ) → next ≡ first_variable d i → count ≡ variable_count d i → next + count ≡ first_variable d (i + 1)
variable_next d i next count e f = (λ j. e j + f j) ∙ rw add-one (omega arith)

-- one more with room
pub room_more : (xs ys : List ℕ) (x : ℕ) → ys ≡ xs ++ x ∷ [] → HaveRowRoom xs → x + 12416 ≤ 2 ^ 32 → HaveRowRoom ys
room_more xs ys x e room r = subst HaveRowRoom (sym e) there
  where
    there : HaveRowRoom (xs ++ x ∷ [])
    there i b = elim (cases_lt i (length xs)) [
      | inl before ↦ subst (λ v. v + 12416 ≤ 2 ^ 32) (sym (get_or_append_left xs (x ∷ []) 0 i before)) (room i before)
      | inr last ↦
          let e : length xs ≡ i = omega (arith, length_push xs x) in
          subst (λ v. v + 12416 ≤ 2 ^ 32) (sym (get_or_push xs x 0 i e)) r
    ]

-- the variables of all nodes are few, since none from 65,536 on has some
pub all_more : (i next count : ℕ) → next ≤ 1 + 12416 * i → next ≤ 1 + 12416 * 65536 → count ≤ 12416 → (65536 ≤ i → count ≡ 0)
    → next + count ≤ 1 + 12416 * 65536
all_more i next count few all one none = elim (cases_lt i 65536) [
  | inl inside ↦ omega arith
  | inr past ↦ let nothing : count ≡ 0 = none past in omega arith
]
