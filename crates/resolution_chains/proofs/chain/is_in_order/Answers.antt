use Rattle.std.proofs.Common.{◌≡◌, ℕ, ◌+◌, ◌-◌, ◌<◌, ◌≤◌, List, arith, length, get_or, map, false, inl, inr, subst, sym}
use Rattle.std.specs.Prelude.{slice_index}
use Rattle.std.proofs.lemmas.Bool.{cases_lt}
use Rattle.std.proofs.lemmas.List.{get_or-map, length-map}
use Rattle.clauses.specs.declared.clause.Lit.{Lit}
use Rattle.resolution_chains.proofs.chain.is_in_order.Goals as goal

abbrev no_lit : Lit
no_lit = record { var = 0; neg = false }

-- the variable at a place
at_place : (ls : List Lit) (k : ℕ) → k < length ls → slice_index (map (λ l. l.var) ls) k ≡ (get_or ls k no_lit).var
at_place ls k b = get_or-map (λ l. l.var) ls k no_lit 0 b

-- literals of which one is not below the next are no clause
falls : (ls : List Lit) (i k : ℕ) → i + 1 ≡ k → k < length ls → (get_or ls k no_lit).var ≤ (get_or ls i no_lit).var
    → slice_index (map (λ l. l.var) ls) i < slice_index (map (λ l. l.var) ls) (i + 1) → ⊥
falls ls i k e b falling rising =
    let low = at_place ls i (omega arith) in
    let high = at_place ls (i + 1) (omega arith) in
    let bound : (get_or ls (i + 1) no_lit).var ≤ (get_or ls i no_lit).var = subst (λ (n : ℕ). (get_or ls n no_lit).var ≤ (get_or ls i no_lit).var) (sym e) falling in
    omega arith

pub returns-then-lits-at : goal.returns-then-lits-at
returns-then-lits-at c = (
  λ h. cc,
  λ clause.
      let back : c.loop-at.at - 1 + 1 ≡ c.loop-at.at = omega arith in
      let rises = clause (c.loop-at.at - 1) (rw length-map (omega arith)) in
      absurd (falls c.args.lits.now (c.loop-at.at - 1) c.loop-at.at back c.loop-at-test.true c.if-lits-at.true rises),
)

pub loop-at-preserved : goal.loop-at-preserved
loop-at-preserved c = λ k b. elim (cases_lt (k + 1) c.loop-at.at) [
  | inl lower ↦ c.loop-at.invariant k lower
  | inr here ↦
      let e : k + 1 ≡ c.loop-at.at = omega arith in
      let f : k ≡ c.loop-at.at - 1 = omega arith in
      rw (at_place c.args.lits.now k (omega arith), at_place c.args.lits.now (k + 1) (omega arith)) (rw (e, f) c.if-lits-at.false)
]
