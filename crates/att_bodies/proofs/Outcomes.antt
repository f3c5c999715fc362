-- What is read of a body is right: its instructions, or its first fault.
use Rattle.std.proofs.Common.{◌≡◌, ℕ, ◌+◌, ◌<◌, ◌≤◌, Bool, true, false, cond, ltb, ◌⊎◌, inl, inr, List, [], ◌∷◌, ◌++◌, Result, Ok, Err, refl, sym, ap, ◌∙◌, subst, arith}
use Rattle.std.specs.List.{list_any, count_by, filter, AllZip}
use Rattle.std.proofs.lemmas.Bool.{both_ways, ltb-true, ltb-false}
use Rattle.outcomes.specs.Firsts.{◌>>=◌, HasFault}
use Rattle.outcomes.proofs.FirstFaults.{IsItem, AreAll, IsOutcome, ComesFirst, all-outcome}
use Rattle.insn_table.specs.declared.insn.Insn.{Insn}
use Rattle.text_lines.specs.declared.refusal.ReadKind.{ReadKind}
use Rattle.text_lines.specs.declared.refusal.ReadKind.TheVariants.{TwiceLabel, DataInBody, TooManyInsns}
use Rattle.text_lines.specs.Lines.{Item, Label, Statement}
use Rattle.text_lines.specs.Kinds.{rank, line_number}
use Rattle.text_lines.specs.Statements.{IsStatement, Reads}
use Rattle.text_lines.proofs.TextItems as order
use Rattle.att_bodies.specs.Body.{is_label, is_directive, is_code}
use Rattle.att_bodies.specs.Faults.{Fault, fault, is_data, IsItemFault, FaultPrecedes}
use Rattle.att_bodies.specs.Functions.{Spells, AreInsns}
use Rattle.att_bodies.specs.Reading.{at_line, counted, item_of, insns_of}

-- what is read of an item
abbrev pub IsRead : (List ℕ → ℕ → Insn → Type 0) → List Item → Item → List Insn → Type 0
IsRead IsInsn before (Label name k) found = found ≡ []
IsRead IsInsn before (Statement x k) found =
    ((is_directive x ≡ true) × (found ≡ [])) ⊎ ((is_directive x ≡ false) × ((i : Insn) × (found ≡ i ∷ []) × IsInsn x (line_number k) i))

-- two faults of one line and kind
same-precedes : (e other : Fault) (k : ℕ) (kind : ReadKind) → e ≡ fault k kind → other ≡ fault k kind → FaultPrecedes e other
same-precedes e other k kind one two =
    let line : e.line ≡ other.line = ap (λ (f : Fault). f.line) (one ∙ sym two) in
    let ranks : rank e.kind ≡ rank other.kind = ap (λ (f : Fault). rank f.kind) (one ∙ sym two) in
    inr (line, omega arith)

cases_le : (a b : ℕ) → a ≤ b → (a < b) ⊎ (a ≡ b)
cases_le a b h = elim (ltb a b) as (λ (t : Bool). ltb a b ≡ t → (a < b) ⊎ (a ≡ b)) [ true ↦ λ e. inl (ltb-true a b e) | false ↦ λ e. let g = ltb-false a b e in inr (omega arith) ] refl

module _ {r : List ℕ → ℕ → Result Insn ReadKind} {IsBad : List ℕ → ReadKind → Type 0} {IsInsn : List ℕ → ℕ → Insn → Type 0} (reads : Reads r IsBad IsInsn) where
  label-item : (before : List Item) (name : List ℕ) (k : ℕ) (t : Bool) → list_any (is_label name) before ≡ t
      → IsItem (IsItemFault IsBad) FaultPrecedes (IsRead IsInsn) before (Label name k) (cond t (Err (fault k TwiceLabel)) (Ok []))
  label-item before name k true e = ((refl, e), λ other h. same-precedes (fault k TwiceLabel) other k TwiceLabel refl h.0)
  label-item before name k false e = (refl, λ other h. both_ways (list_any (is_label name) before) e h.1)

  directive-item : (before : List Item) (x : List ℕ) (k : ℕ) (t : Bool) → is_directive x ≡ true → is_data x ≡ t
      → IsItem (IsItemFault IsBad) FaultPrecedes (IsRead IsInsn) before (Statement x k) (cond t (Err (fault k DataInBody)) (Ok []))
  directive-item before x k true d e = (
    inl (refl, d, e),
    λ other h. elim h [
      | inl data_too ↦ same-precedes (fault k DataInBody) other k DataInBody refl data_too.0
      | inr code ↦ elim code [ inl bad ↦ absurd (both_ways (is_directive x) bad.0 d) | inr many ↦ absurd (both_ways (is_directive x) many.1 d) ]
    ],
  )
  directive-item before x k false d e = (
    inl (d, refl),
    λ other h. elim h [
      | inl data_too ↦ both_ways (is_data x) e data_too.2
      | inr code ↦ elim code [ inl bad ↦ both_ways (is_directive x) bad.0 d | inr many ↦ both_ways (is_directive x) many.1 d ]
    ],
  )

  counted-item : (before : List Item) (x : List ℕ) (k : ℕ) (i : Insn) (t : Bool) → is_directive x ≡ false → IsStatement IsBad IsInsn x (line_number k) (Ok i)
      → ltb (count_by is_code before) 4096 ≡ t
      → IsItem (IsItemFault IsBad) FaultPrecedes (IsRead IsInsn) before (Statement x k) (cond t (Ok (i ∷ [])) (Err (fault k TooManyInsns)))
  counted-item before x k i true d out e = (
    inr (d, (i, refl, out.0)),
    λ other h. elim h [
      | inl data_too ↦ both_ways (is_directive x) d data_too.1
      | inr code ↦ elim code [ inl bad ↦ out.1 other.kind bad.2 | inr many ↦ absurd (omega (arith, ltb-true (count_by is_code before) 4096 e, many.2)) ]
    ],
  )
  counted-item before x k i false d out e = (
    inr (inr (refl, d, ltb-false (count_by is_code before) 4096 e)),
    λ other h. elim h [
      | inl data_too ↦ absurd (both_ways (is_directive x) d data_too.1)
      | inr code ↦ elim code [
        | inl bad ↦ absurd (out.1 other.kind bad.2)
        | inr many ↦ same-precedes (fault k TooManyInsns) other k TooManyInsns refl many.0
      ]
    ],
  )

  code-item : (before : List Item) (x : List ℕ) (k : ℕ) (found : Result Insn ReadKind) → is_directive x ≡ false → IsStatement IsBad IsInsn x (line_number k) found
      → IsItem (IsItemFault IsBad) FaultPrecedes (IsRead IsInsn) before (Statement x k) (at_line k found >>= counted (count_by is_code before) k)
  code-item before x k (Ok i) d out = counted-item before x k i (ltb (count_by is_code before) 4096) d out refl
  code-item before x k (Err kind) d out = (
    inr (inl (d, refl, out.0)),
    λ other h. elim h [
      | inl data_too ↦ absurd (both_ways (is_directive x) d data_too.1)
      | inr code ↦ elim code [
        | inl bad ↦ inr (sym bad.1, out.1 other.kind bad.2)
        | inr many ↦
            let line : k ≡ other.line = sym (ap (λ (f : Fault). f.line) many.0) in
            let ranks : rank other.kind ≡ rank TooManyInsns = ap (λ (f : Fault). rank f.kind) many.0 in
            inr (line, omega (arith, reads.known x kind out.0))
      ]
    ],
  )

  statement-item : (before : List Item) (x : List ℕ) (k : ℕ) (t : Bool) → is_directive x ≡ t
      → IsItem (IsItemFault IsBad) FaultPrecedes (IsRead IsInsn) before (Statement x k)
      (cond t (cond (is_data x) (Err (fault k DataInBody)) (Ok [])) (at_line k (r x (line_number k)) >>= counted (count_by is_code before) k))
  statement-item before x k true d = directive-item before x k (is_data x) d refl
  statement-item before x k false d = code-item before x k (r x (line_number k)) d (reads.outcome x (line_number k))

  item-outcome : (before : List Item) (i : Item) → IsItem (IsItemFault IsBad) FaultPrecedes (IsRead IsInsn) before i (item_of r before i)
  item-outcome before (Label name k) = label-item before name k (list_any (is_label name) before) refl
  item-outcome before (Statement x k) = statement-item before x k (is_directive x) refl

  -- faults stand on the line of their item, and are of kinds from TwiceLabel on
  fault-line : (before : List Item) (i : Item) (e : Fault) → IsItemFault IsBad before i e → e.line ≡ order.line_of i
  fault-line before (Label name k) e h = ap (λ (f : Fault). f.line) h.0
  fault-line before (Statement x k) e (inl data_there) = ap (λ (f : Fault). f.line) data_there.0
  fault-line before (Statement x k) e (inr (inl bad)) = bad.1
  fault-line before (Statement x k) e (inr (inr many)) = ap (λ (f : Fault). f.line) many.0

  fault-rank : (before : List Item) (i : Item) (e : Fault) → IsItemFault IsBad before i e → 4 ≤ rank e.kind
  fault-rank before (Label name k) e h = let same : rank e.kind ≡ 4 = ap (λ (f : Fault). rank f.kind) h.0 in omega arith
  fault-rank before (Statement x k) e (inl data_there) = let same : rank e.kind ≡ 5 = ap (λ (f : Fault). rank f.kind) data_there.0 in omega arith
  fault-rank before (Statement x k) e (inr (inl bad)) = omega (arith, reads.known x e.kind bad.2)
  fault-rank before (Statement x k) e (inr (inr many)) = let same : rank e.kind ≡ 11 = ap (λ (f : Fault). rank f.kind) many.0 in omega arith

  later-line : (front : List Item) (m : ℕ) (is : List Item) (e : Fault) → order.AreOrdered m is → HasFault (IsItemFault IsBad) front is e → m ≤ e.line
  later-line front m is e ordered h =
      let at = order.ordered-at m h.before h.item h.after (subst (order.AreOrdered m) h.there ordered) in
      omega (arith, fault-line (front ++ h.before) h.item e h.wrong)

  -- so every fault of a body is
  pub later-rank : (front is : List Item) (e : Fault) → HasFault (IsItemFault IsBad) front is e → 4 ≤ rank e.kind
  later-rank front is e h = fault-rank (front ++ h.before) h.item e h.wrong

  first_by_line : (e other : Fault) → e.line ≤ other.line → rank e.kind ≤ rank other.kind → FaultPrecedes e other
  first_by_line e other lines ranks =
      elim (cases_le e.line other.line lines) [ inl less ↦ inl less | inr same ↦ inr (same, ranks) ]

  comes-first : (m : ℕ) (front : List Item) (i : Item) (is : List Item) → order.AreOrdered m (i ∷ is) → ComesFirst (IsItemFault IsBad) FaultPrecedes front i is
  comes-first m front (Label name k) is ordered =
      λ e other h later.
      let line : e.line ≡ k = ap (λ (f : Fault). f.line) h.0 in
      let least : rank e.kind ≡ 4 = ap (λ (f : Fault). rank f.kind) h.0 in
      first_by_line e other
      (omega (arith, later-line (front ++ Label name k ∷ []) k is other ordered.1 later))
      (omega (arith, later-rank (front ++ Label name k ∷ []) is other later))
  comes-first m front (Statement x k) is ordered =
      λ e other h later.
      inl (omega (arith, fault-line front (Statement x k) e h, later-line (front ++ Statement x k ∷ []) (k + 1) is other ordered.1 later))

  -- what is read of ordered items is right
  pub insns-outcome : (m : ℕ) (body : List Item) → order.AreOrdered m body → IsOutcome (IsItemFault IsBad) FaultPrecedes (IsRead IsInsn) [] body (insns_of r body)
  insns-outcome m body ordered =
      all-outcome (IsItemFault IsBad) FaultPrecedes (IsRead IsInsn) (λ front is. (n : ℕ) × order.AreOrdered n is) (item_of r) item-outcome
      (λ front i is o. comes-first o.0 front i is o.1) (λ front i is o. (order.next_line i, o.1.1)) [] body (m, ordered)

  statement-read : (x : List ℕ) (k : ℕ) (is : List Item) (insns found rest : List Insn) → IsRead IsInsn [] (Statement x k) found → insns ≡ found ++ rest
      → AreInsns IsInsn is rest → AreInsns IsInsn (Statement x k ∷ is) insns
  statement-read x k is insns found rest (inl directive) whole more =
      let same : insns ≡ rest = whole ∙ ap (λ (y : List Insn). y ++ rest) directive.1 in
      rw directive.0 (subst (λ y. AllZip (Spells IsInsn) (filter is_code is) y) (sym same) more)
  statement-read x k is insns found rest (inr code) whole more =
      let same : insns ≡ code.1.0 ∷ rest = whole ∙ ap (λ (y : List Insn). y ++ rest) code.1.1 in
      rw code.0 (subst (λ y. AllZip (Spells IsInsn) (Statement x k ∷ filter is_code is) y) (sym same) (code.1.2, more))

  -- what was read of all items are the body's instructions
  pub insns-read : (front body : List Item) (insns : List Insn) → AreAll (IsRead IsInsn) front body insns → AreInsns IsInsn body insns
  insns-read front [] insns all = subst (λ x. AllZip (Spells IsInsn) [] x) (sym all) tt
  insns-read front (Label name k ∷ is) insns all =
      let more = insns-read (front ++ Label name k ∷ []) is all.1 all.3 in
      let same : insns ≡ all.1 = all.4 ∙ ap (λ (x : List Insn). x ++ all.1) all.2 in
      subst (λ x. AllZip (Spells IsInsn) (filter is_code is) x) (sym same) more
  insns-read front (Statement x k ∷ is) insns all =
      statement-read x k is insns all.0 all.1 all.2 all.4 (insns-read (front ++ Statement x k ∷ []) is all.1 all.3)
