-- The lines of a refutation are read rightly.
use Rattle.std.proofs.Common.{◌≡◌, ◌⊎◌, inl, inr, ℕ, suc, zero, ◌+◌, ◌-◌, ◌<◌, ◌≤◌, ◌^◌, Bool, true, false, ◌||◌, eqb, List, [], ◌∷◌, ◌++◌, length, refl, sym, ap, ◌∙◌, arith}
use Rattle.std.specs.Prelude.{decimal, codes, ◌==◌, ℤ, pos, negsuc}
use Rattle.std.specs.Char.{digit_value}
use Rattle.std.specs.List.{AllByRecursion}
use Rattle.std.proofs.lemmas.Bool.{eqb-true, ne_eqb, eq-eqb, or_cases, true≢false, false≢true}
use Rattle.std.proofs.lemmas.List.{length-append}
use Rattle.clauses.specs.declared.clause.Lit.{Lit}
use Rattle.node_values.specs.declared.node.NodeId.{NodeId}
use Rattle.refutations.specs.declared.step.Step.{Step}
use Rattle.refutations.specs.declared.step.Step.TheVariants.{Chain, Equal, Same, Holds, Fails, Both}
use Rattle.text_codes.specs.Codes.{Reads}
use Rattle.text_codes.specs.Endings.{may_end}
use Rattle.text_codes.specs.Lists.{end_before, line_of, until}
use Rattle.text_codes.specs.Numbers.{ended, IsEnded, signed_text, IsSigned}
use Rattle.text_codes.specs.Readers.{linked_at}
use Rattle.text_codes.specs.declared.numbers.Ending.TheVariants.{By, Either}
use Rattle.text_codes.proofs.Choices.{IsLetter, letters_reads}
use Rattle.text_codes.proofs.Combined.{made_reads, behind_reads, pair_reads, then_reads, refit}
use Rattle.text_codes.proofs.Ended.{signed_reads}
use Rattle.text_codes.proofs.Lines.{NoneEnds, linked_reads, until_reads}
use Rattle.text_codes.proofs.NumberReading as reading
use Rattle.text_codes.proofs.Ranges.{by_range, either_range}
use Rattle.certificate_file.specs.Numbers.{space, newline, number_text, integer_text, IsU32, IsU64, IsI64, row_text, AreCounted}
use Rattle.certificate_file.specs.Steps.{lit_text, no_literal, LitFits, pair_text, PairFits, part_text, PartFits, step_text, StepFits}
use Rattle.certificate_file.specs.ProductReading.{u32_at, u64_at}
use Rattle.certificate_file.specs.StepReading.{int_of, integer_at, lit_at, lits_at, clause_at, pair_of_at, clauses_at, chain_at, node_id_at, part_at, parts_at, equal_at, same_at, holds_at, fails_at, both_at, step_at}
use Rattle.certificate_file.proofs.FieldTexts.{u32_reads, u64_reads, row_reads}

-- signed numbers

-- from minus low up to high
abbrev pub IsBetween : ℕ → ℕ → ℤ → Type 0
IsBetween low high (pos n) = n < high + 1
IsBetween low high (negsuc n) = n < low

suc_less : (n : ℕ) → 1 ≤ n → suc (n - 1) ≡ n
suc_less n h = omega arith

pub integer_reads : (low high end : ℕ) → 9 ≤ low → low < 2 ^ 64 → 9 ≤ high → high < 2 ^ 64 → 10 ≤ digit_value end
    → Reads (integer_text end) (IsBetween low high) (integer_at low high end)
integer_reads low high end ll lh hl hh apart =
    made_reads (integer_text end) (IsBetween low high) signed_text (IsSigned (low + 1) (high + 1) (may_end (By end))) (λ (v : Bool × (ℕ × ℕ)). int_of v.0 v.1.0) _
    (record { text = λ u h. text u.0 u.1 h; fits = λ u h. fits u.0 u.1 h; from = from })
    (signed_reads (low + 1) (high + 1) (may_end (By end)) (by_range (low + 1) 1 end (omega arith) (omega arith) (omega arith) apart)
    (by_range (high + 1) 0 end (omega arith) (omega arith) (omega arith) apart))
  where
    text : (b : Bool) (v : ℕ × ℕ) → IsSigned (low + 1) (high + 1) (may_end (By end)) (b, v) → integer_text end (int_of b v.0) ≡ signed_text (b, v)
    text true v h = ap (λ (n : ℕ). 45 ∷ (decimal n ++ end ∷ [])) (suc_less v.0 h.least) ∙ ap (λ (c : ℕ). 45 ∷ (decimal v.0 ++ c ∷ [])) (sym (eqb-true v.1 end h.last))
    text false v h = ap (λ (c : ℕ). decimal v.0 ++ c ∷ []) (sym (eqb-true v.1 end h.last))

    fits : (b : Bool) (v : ℕ × ℕ) → IsSigned (low + 1) (high + 1) (may_end (By end)) (b, v) → IsBetween low high (int_of b v.0)
    fits true v h = omega (arith, h.least, h.below)
    fits false v h = h.below

    from : (z : ℤ) → IsBetween low high z → (u : Bool × (ℕ × ℕ)) × (IsSigned (low + 1) (high + 1) (may_end (By end)) u × (int_of u.0 u.1.0 ≡ z))
    from (pos n) h = ((false, (n, end)), (record { least = omega arith; below = h; last = eq-eqb end end refl }, refl))
    from (negsuc n) h = ((true, (suc n, end)), (record { least = omega arith; below = omega (arith, h); last = eq-eqb end end refl }, ap (λ (m : ℕ). negsuc m) (less n)))
      where
        less : (n : ℕ) → suc n - 1 ≡ n
        less n = omega arith

-- the literals of a chain

-- a literal, or 0
abbrev pub IsNumbered : Lit → Type 0
IsNumbered l = (l.neg ≡ true → 1 ≤ l.var) × IsU32 l.var

pub lit_reads : Reads lit_text IsNumbered lit_at
lit_reads =
    made_reads lit_text IsNumbered signed_text (IsSigned (2 ^ 32) (2 ^ 32) (may_end (By space))) (λ (v : Bool × (ℕ × ℕ)). record { var = v.1.0; neg = v.0 }) _
    (record { text = λ u h. text u.0 u.1 h; fits = λ u h. fits u.0 u.1 h; from = λ l h. ((l.neg, (l.var, 32)), (from l.neg l.var h, refl)) })
    (signed_reads (2 ^ 32) (2 ^ 32) (may_end (By space)) (by_range (2 ^ 32) 1 32 (omega arith) (omega arith) (omega arith) (omega arith))
    (by_range (2 ^ 32) 0 32 (omega arith) (omega arith) (omega arith) (omega arith)))
  where
    text : (b : Bool) (v : ℕ × ℕ) → IsSigned (2 ^ 32) (2 ^ 32) (may_end (By space)) (b, v) → lit_text (record { var = v.0; neg = b }) ≡ signed_text (b, v)
    text true v h = ap (λ (c : ℕ). 45 ∷ (decimal v.0 ++ c ∷ [])) (sym (eqb-true v.1 32 h.last))
    text false v h = ap (λ (c : ℕ). decimal v.0 ++ c ∷ []) (sym (eqb-true v.1 32 h.last))

    fits : (b : Bool) (v : ℕ × ℕ) → IsSigned (2 ^ 32) (2 ^ 32) (may_end (By space)) (b, v) → IsNumbered (record { var = v.0; neg = b })
    fits true v h = ((λ e. h.least), h.below)
    fits false v h = ((λ e. absurd (false≢true e)), h.below)

    from : (b : Bool) (n : ℕ) → IsNumbered (record { var = n; neg = b }) → IsSigned (2 ^ 32) (2 ^ 32) (may_end (By space)) (b, (n, 32))
    from true n h = record { least = h.0 refl; below = h.1; last = refl }
    from false n h = record { least = omega arith; below = h.1; last = refl }

all_along : {V : Type 0} (F G : V → Type 0) → ((v : V) → F v → G v) → (vs : List V) → AllByRecursion F vs → AllByRecursion G vs
all_along F G h [] all = tt
all_along F G h (v ∷ vs) all = (h v all.0, all_along F G h vs all.1)

some_text : (end n : ℕ) (front : List ℕ) → 0 < length (front ++ number_text end n)
some_text end n front = omega (arith, length-append front (number_text end n), length-append (decimal n) (end ∷ []))

pub lit_filled : (a : Lit) → IsNumbered a → 0 < length (lit_text a)
lit_filled a h = some (a.neg) a.var
  where
    some : (b : Bool) (n : ℕ) → 0 < length (lit_text (record { var = n; neg = b }))
    some true n = some_text 32 n (45 ∷ [])
    some false n = some_text 32 n []

lits_reads : Reads (until lit_text no_literal) (AllByRecursion LitFits) lits_at
lits_reads =
    refit (until lit_text no_literal) (until lit_text no_literal) (AllByRecursion LitFits) (NoneEnds lit_text IsNumbered (λ l. l.var == 0) no_literal lit_at) _ (λ v h. refl)
    (all_along LitFits (λ l. IsNumbered l × ((l.var == 0) ≡ false)) (λ l h. (((λ e. h.0), h.1), ne_eqb l.var 0 (λ e. omega (arith, h.0)))))
    (all_along (λ l. IsNumbered l × ((l.var == 0) ≡ false)) LitFits (λ l h. (above l.var h.1, h.0.1)))
    (until_reads lit_text IsNumbered (λ l. l.var == 0) no_literal lit_at lit_reads ((λ e. absurd (false≢true e)), omega arith) refl only lit_filled)
  where
    above : (n : ℕ) → (n == 0) ≡ false → 1 ≤ n
    above zero e = absurd (true≢false e)
    above (suc n) e = omega arith

    is : (b : Bool) (n : ℕ) → IsNumbered (record { var = n; neg = b }) → n ≡ 0 → ◌≡◌ {A = Lit} (record { var = n; neg = b }) no_literal
    is true n h e = absurd (let l = h.0 refl in omega (arith, l, e))
    is false n h e = ap (λ (m : ℕ). let l : Lit = record { var = m; neg = false } in l) e

    only : (v : Lit) → IsNumbered v → (v.var == 0) ≡ true → v ≡ no_literal
    only v h e = is v.neg v.var h (eqb-true v.var 0 e)

-- the clauses of a chain

clause_reads : Reads ended (IsEnded (2 ^ 32) 0 (may_end Either)) clause_at
clause_reads = reading.number_reads (2 ^ 32) 0 (may_end Either) (either_range (2 ^ 32) 0 (omega arith) (omega arith) (omega arith))

either_end : (n c : ℕ) → may_end Either n c ≡ true → (c ≡ 32) ⊎ (c ≡ 10)
either_end n c h = elim (or_cases (eqb c 32) (eqb c 10) h) [ inl a ↦ inl (eqb-true c 32 a) | inr b ↦ inr (eqb-true c 10 b) ]

may_be : (n c : ℕ) → (c ≡ 32) ⊎ (c ≡ 10) → may_end Either n c ≡ true
may_be n c h = elim h [ inl a ↦ ap (λ (d : ℕ). eqb d 32 || eqb d 10) a | inr b ↦ ap (λ (d : ℕ). eqb d 32 || eqb d 10) b ]

pub pair_item_reads : Reads (λ (v : (ℕ × ℕ) × ℕ). pair_text v.1 v.0) (λ (v : (ℕ × ℕ) × ℕ). PairFits v.0 × ((v.1 ≡ 32) ⊎ (v.1 ≡ 10))) pair_of_at
pair_item_reads =
    made_reads (λ (v : (ℕ × ℕ) × ℕ). pair_text v.1 v.0) (λ (v : (ℕ × ℕ) × ℕ). PairFits v.0 × ((v.1 ≡ 32) ⊎ (v.1 ≡ 10))) _ _
    (λ (p : ℕ × (ℕ × ℕ)). ((p.0, p.1.0), p.1.1)) _
    (record {
      text = λ u h. refl;
      fits = λ u h. ((h.0, h.1.below), either_end u.1.0 u.1.1 h.1.last);
      from = λ v h. ((v.0.0, (v.0.1, v.1)), ((h.0.0, record { least = omega arith; below = h.0.1; last = may_be v.0.1 v.1 h.1 }), refl));
    })
    (pair_reads (number_text space) IsU32 ended (IsEnded (2 ^ 32) 0 (may_end Either)) (u32_at space) clause_at (u32_reads space (omega arith)) clause_reads)

pub pair_filled : (v : (ℕ × ℕ) × ℕ) → PairFits v.0 × ((v.1 ≡ 32) ⊎ (v.1 ≡ 10)) → 0 < length (pair_text v.1 v.0)
pair_filled v h = some_text v.1 v.0.1 (number_text space v.0.0)

abbrev Linked : ℕ × ℕ → List (ℕ × ℕ) → Type 0
Linked first next = AllByRecursion PairFits next × (first.1 ≡ end_before next)

clauses_reads : Reads (λ (p : (ℕ × ℕ) × List (ℕ × ℕ)). ended p.0 ++ line_of pair_text p.1)
    (λ (p : (ℕ × ℕ) × List (ℕ × ℕ)). IsEnded (2 ^ 32) 0 (may_end Either) p.0 × Linked p.0 p.1) clauses_at
clauses_reads =
    then_reads ended (IsEnded (2 ^ 32) 0 (may_end Either)) (λ first. line_of pair_text) Linked clause_at
    (λ first rest. linked_at pair_of_at (suc (length rest)) first.1 rest) clause_reads
    (λ a h. linked_reads pair_text PairFits pair_of_at pair_item_reads pair_filled a.1 (either_end a.0 a.1 h.last))

-- steps

abbrev step_letter : Step → ℕ
step_letter (Chain lits first next) = 114
step_letter (Equal i j parts) = 101
step_letter (Same i j clause) = 103
step_letter (Holds i parts) = 116
step_letter (Fails i parts) = 110
step_letter (Both i j unit parts) = 113

-- what is behind the letter
abbrev step_body : Step → List ℕ
step_body (Chain lits first next) =
    codes " " ++ (until lit_text no_literal lits ++ (number_text (end_before next) first ++ line_of pair_text next))
step_body (Equal i j parts) = codes " " ++ (number_text space i.0 ++ (number_text space j.0 ++ row_text part_text parts))
step_body (Same i j clause) = codes " " ++ (number_text space i.0 ++ (number_text space j.0 ++ number_text newline clause))
step_body (Holds i parts) = codes " " ++ (number_text space i.0 ++ row_text part_text parts)
step_body (Fails i parts) = codes " " ++ (number_text space i.0 ++ row_text part_text parts)
step_body (Both i j unit parts) =
    codes " " ++ (number_text space i.0 ++ (number_text space j.0 ++ (number_text space unit ++ row_text part_text parts)))

abbrev Of : ℕ → Step → Type 0
Of letter s = StepFits s × (step_letter s ≡ letter)

abbrev node_text : NodeId → List ℕ
node_text i = number_text space i.0

abbrev IsNode : NodeId → Type 0
IsNode i = IsU32 i.0

node_id_reads : Reads node_text IsNode node_id_at
node_id_reads = made_reads node_text IsNode (number_text space) IsU32 (λ (n : ℕ). record { 0 = n }) (u32_at space)
    (record { text = λ u h. refl; fits = λ u h. h; from = λ i h. (i.0, (h, refl)) }) (u32_reads space (omega arith))

part_reads : (end : ℕ) → 10 ≤ digit_value end → Reads (part_text end) PartFits (part_at end)
part_reads end apart =
    refit (part_text end) (part_text end) PartFits (λ p. IsU64 p.0 × IsBetween (2 ^ 63) (2 ^ 63 - 1) p.1) (part_at end) (λ v h. refl)
    (λ v h. (h.0, there v.1 h.1)) (λ v h. (h.0, back v.1 h.1))
    (pair_reads (number_text space) IsU64 (integer_text end) (IsBetween (2 ^ 63) (2 ^ 63 - 1)) (u64_at space) (integer_at (2 ^ 63) (2 ^ 63 - 1) end)
    (u64_reads space (omega arith)) (integer_reads (2 ^ 63) (2 ^ 63 - 1) end (omega arith) (omega arith) (omega arith) (omega arith) apart))
  where
    there : (z : ℤ) → IsI64 z → IsBetween (2 ^ 63) (2 ^ 63 - 1) z
    there (pos n) h = h
    there (negsuc n) h = h

    back : (z : ℤ) → IsBetween (2 ^ 63) (2 ^ 63 - 1) z → IsI64 z
    back (pos n) h = h
    back (negsuc n) h = h

parts_reads : Reads (row_text part_text) (AreCounted PartFits) parts_at
parts_reads = row_reads part_text PartFits part_at (part_reads newline (omega arith)) (part_reads space (omega arith))

chain_reads : Reads step_body (Of 114) chain_at
chain_reads =
    made_reads step_body (Of 114) (λ (p : List Lit × ((ℕ × ℕ) × List (ℕ × ℕ))). codes " " ++ (until lit_text no_literal p.0 ++ (ended p.1.0 ++ line_of pair_text p.1.1)))
    (λ (p : List Lit × ((ℕ × ℕ) × List (ℕ × ℕ))). AllByRecursion LitFits p.0 × (IsEnded (2 ^ 32) 0 (may_end Either) p.1.0 × Linked p.1.0 p.1.1)) _ _
    (record {
      text = λ u h. ap (λ (c : ℕ). codes " " ++ (until lit_text no_literal u.0 ++ (number_text c u.1.0.0 ++ line_of pair_text u.1.1))) (sym h.1.1.1);
      fits = λ u h. ((h.0, (h.1.0.below, h.1.1.0)), refl);
      from = from;
    })
    (behind_reads (codes " ") _ _ _ (pair_reads (until lit_text no_literal) (AllByRecursion LitFits) _ _ lits_at clauses_at lits_reads clauses_reads))
  where
    end_is : (next : List (ℕ × ℕ)) → (end_before next ≡ 32) ⊎ (end_before next ≡ 10)
    end_is [] = inr refl
    end_is (p ∷ ps) = inl refl

    from : (s : Step) → Of 114 s → (p : List Lit × ((ℕ × ℕ) × List (ℕ × ℕ)))
        × ((AllByRecursion LitFits p.0 × (IsEnded (2 ^ 32) 0 (may_end Either) p.1.0 × Linked p.1.0 p.1.1)) × (Chain p.0 p.1.0.0 p.1.1 ≡ s))
    from (Chain lits first next) h =
        ((lits, ((first, end_before next), next)), ((h.0.0, (record { least = omega arith; below = h.0.1.0; last = may_be first (end_before next) (end_is next) }, (h.0.1.1, refl))), refl))
    from (Equal i j parts) h = absurd (omega (arith, h.1))
    from (Same i j clause) h = absurd (omega (arith, h.1))
    from (Holds i parts) h = absurd (omega (arith, h.1))
    from (Fails i parts) h = absurd (omega (arith, h.1))
    from (Both i j unit parts) h = absurd (omega (arith, h.1))

equal_reads : Reads step_body (Of 101) equal_at
equal_reads =
    made_reads step_body (Of 101) _ (λ (p : NodeId × (NodeId × List (ℕ × ℤ))). IsNode p.0 × (IsNode p.1.0 × AreCounted PartFits p.1.1))
    (λ (p : NodeId × (NodeId × List (ℕ × ℤ))). Equal p.0 p.1.0 p.1.1) _
    (record { text = λ u h. refl; fits = λ u h. (h, refl); from = from })
    (behind_reads (codes " ") _ _ _ (pair_reads node_text IsNode _ _ node_id_at _ node_id_reads
    (pair_reads node_text IsNode (row_text part_text) (AreCounted PartFits) node_id_at parts_at node_id_reads parts_reads)))
  where
    from : (s : Step) → Of 101 s → (p : NodeId × (NodeId × List (ℕ × ℤ)))
        × ((IsNode p.0 × (IsNode p.1.0 × AreCounted PartFits p.1.1)) × (Equal p.0 p.1.0 p.1.1 ≡ s))
    from (Equal i j parts) h = ((i, (j, parts)), (h.0, refl))
    from (Chain lits first next) h = absurd (omega (arith, h.1))
    from (Same i j clause) h = absurd (omega (arith, h.1))
    from (Holds i parts) h = absurd (omega (arith, h.1))
    from (Fails i parts) h = absurd (omega (arith, h.1))
    from (Both i j unit parts) h = absurd (omega (arith, h.1))

same_reads : Reads step_body (Of 103) same_at
same_reads =
    made_reads step_body (Of 103) _ (λ (p : NodeId × (NodeId × ℕ)). IsNode p.0 × (IsNode p.1.0 × IsU32 p.1.1))
    (λ (p : NodeId × (NodeId × ℕ)). Same p.0 p.1.0 p.1.1) _
    (record { text = λ u h. refl; fits = λ u h. (h, refl); from = from })
    (behind_reads (codes " ") _ _ _ (pair_reads node_text IsNode _ _ node_id_at _ node_id_reads
    (pair_reads node_text IsNode (number_text newline) IsU32 node_id_at (u32_at newline) node_id_reads (u32_reads newline (omega arith)))))
  where
    from : (s : Step) → Of 103 s → (p : NodeId × (NodeId × ℕ)) × ((IsNode p.0 × (IsNode p.1.0 × IsU32 p.1.1)) × (Same p.0 p.1.0 p.1.1 ≡ s))
    from (Same i j clause) h = ((i, (j, clause)), (h.0, refl))
    from (Chain lits first next) h = absurd (omega (arith, h.1))
    from (Equal i j parts) h = absurd (omega (arith, h.1))
    from (Holds i parts) h = absurd (omega (arith, h.1))
    from (Fails i parts) h = absurd (omega (arith, h.1))
    from (Both i j unit parts) h = absurd (omega (arith, h.1))

holds_reads : Reads step_body (Of 116) holds_at
holds_reads =
    made_reads step_body (Of 116) _ (λ (p : NodeId × List (ℕ × ℤ)). IsNode p.0 × AreCounted PartFits p.1)
    (λ (p : NodeId × List (ℕ × ℤ)). Holds p.0 p.1) _
    (record { text = λ u h. refl; fits = λ u h. (h, refl); from = from })
    (behind_reads (codes " ") _ _ _ (pair_reads node_text IsNode (row_text part_text) (AreCounted PartFits) node_id_at parts_at node_id_reads parts_reads))
  where
    from : (s : Step) → Of 116 s → (p : NodeId × List (ℕ × ℤ)) × ((IsNode p.0 × AreCounted PartFits p.1) × (Holds p.0 p.1 ≡ s))
    from (Holds i parts) h = ((i, parts), (h.0, refl))
    from (Chain lits first next) h = absurd (omega (arith, h.1))
    from (Equal i j parts) h = absurd (omega (arith, h.1))
    from (Same i j clause) h = absurd (omega (arith, h.1))
    from (Fails i parts) h = absurd (omega (arith, h.1))
    from (Both i j unit parts) h = absurd (omega (arith, h.1))

fails_reads : Reads step_body (Of 110) fails_at
fails_reads =
    made_reads step_body (Of 110) _ (λ (p : NodeId × List (ℕ × ℤ)). IsNode p.0 × AreCounted PartFits p.1)
    (λ (p : NodeId × List (ℕ × ℤ)). Fails p.0 p.1) _
    (record { text = λ u h. refl; fits = λ u h. (h, refl); from = from })
    (behind_reads (codes " ") _ _ _ (pair_reads node_text IsNode (row_text part_text) (AreCounted PartFits) node_id_at parts_at node_id_reads parts_reads))
  where
    from : (s : Step) → Of 110 s → (p : NodeId × List (ℕ × ℤ)) × ((IsNode p.0 × AreCounted PartFits p.1) × (Fails p.0 p.1 ≡ s))
    from (Fails i parts) h = ((i, parts), (h.0, refl))
    from (Chain lits first next) h = absurd (omega (arith, h.1))
    from (Equal i j parts) h = absurd (omega (arith, h.1))
    from (Same i j clause) h = absurd (omega (arith, h.1))
    from (Holds i parts) h = absurd (omega (arith, h.1))
    from (Both i j unit parts) h = absurd (omega (arith, h.1))

both_reads : Reads step_body (Of 113) both_at
both_reads =
    made_reads step_body (Of 113) _ (λ (p : NodeId × (NodeId × (ℕ × List (ℕ × ℤ)))). IsNode p.0 × (IsNode p.1.0 × (IsU64 p.1.1.0 × AreCounted PartFits p.1.1.1)))
    (λ (p : NodeId × (NodeId × (ℕ × List (ℕ × ℤ)))). Both p.0 p.1.0 p.1.1.0 p.1.1.1) _
    (record { text = λ u h. refl; fits = λ u h. (h, refl); from = from })
    (behind_reads (codes " ") _ _ _ (pair_reads node_text IsNode _ _ node_id_at _ node_id_reads (pair_reads node_text IsNode _ _ node_id_at _ node_id_reads
    (pair_reads (number_text space) IsU64 (row_text part_text) (AreCounted PartFits) (u64_at space) parts_at (u64_reads space (omega arith)) parts_reads))))
  where
    from : (s : Step) → Of 113 s → (p : NodeId × (NodeId × (ℕ × List (ℕ × ℤ))))
        × ((IsNode p.0 × (IsNode p.1.0 × (IsU64 p.1.1.0 × AreCounted PartFits p.1.1.1))) × (Both p.0 p.1.0 p.1.1.0 p.1.1.1 ≡ s))
    from (Both i j unit parts) h = ((i, (j, (unit, parts))), (h.0, refl))
    from (Chain lits first next) h = absurd (omega (arith, h.1))
    from (Equal i j parts) h = absurd (omega (arith, h.1))
    from (Same i j clause) h = absurd (omega (arith, h.1))
    from (Holds i parts) h = absurd (omega (arith, h.1))
    from (Fails i parts) h = absurd (omega (arith, h.1))

pub step_reads : Reads step_text StepFits step_at
step_reads =
    letters_reads step_text StepFits step_letter step_body text_is (Same (record { 0 = 0 }) (record { 0 = 0 }) 0) (omega arith, (omega arith, omega arith))
    (114, chain_at) ((101, equal_at) ∷ (103, same_at) ∷ (116, holds_at) ∷ (110, fails_at) ∷ (113, both_at) ∷ [])
    (chain_reads, (equal_reads, (same_reads, (holds_reads, (fails_reads, (both_reads, tt)))))) among
  where
    text_is : (s : Step) → StepFits s → step_text s ≡ step_letter s ∷ step_body s
    text_is (Chain lits first next) h = refl
    text_is (Equal i j parts) h = refl
    text_is (Same i j clause) h = refl
    text_is (Holds i parts) h = refl
    text_is (Fails i parts) h = refl
    text_is (Both i j unit parts) h = refl

    among : (s : Step) → StepFits s → IsLetter (step_letter s) ((114, chain_at) ∷ (101, equal_at) ∷ (103, same_at) ∷ (116, holds_at) ∷ (110, fails_at) ∷ (113, both_at) ∷ [])
    among (Chain lits first next) h = inl refl
    among (Equal i j parts) h = inr (inl refl)
    among (Same i j clause) h = inr (inr (inl refl))
    among (Holds i parts) h = inr (inr (inr (inl refl)))
    among (Fails i parts) h = inr (inr (inr (inr (inl refl))))
    among (Both i j unit parts) h = inr (inr (inr (inr (inr (inl refl)))))
