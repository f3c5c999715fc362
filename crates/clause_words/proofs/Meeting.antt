-- What an assignment that meets columns meets.
use Rattle.std.proofs.Common.{◌≡◌, ◌↔◌, ℕ, zero, suc, ◌<◌, ◌&&◌, Bool, List, [], ◌∷◌, ◌++◌, subst, arith, inl, inr, rules}
use Rattle.std.proofs.lemmas.Bool.{cases_lt}
use Rattle.clauses.specs.declared.clause.Lit.{Lit}
use Rattle.clauses.specs.Assignments.{MeetsAll, literal_value}
use Rattle.clause_gates.specs.Gates.{and_gate, copy_gate}
use Rattle.clause_words.specs.Rows.{columns}

module _ (v : ℕ → Bool) where
  pub met_append : (cs ds : List (List Lit)) → MeetsAll v cs → MeetsAll v ds → MeetsAll v (cs ++ ds)
  met_append [] ds m n = n
  met_append (c ∷ cs) ds m n = (m.0, met_append cs ds m.1 n)

  pub append_met : (cs ds : List (List Lit)) → MeetsAll v (cs ++ ds) → MeetsAll v cs × MeetsAll v ds
  append_met [] ds m = (tt, m)
  append_met (c ∷ cs) ds m = let rest : MeetsAll v cs × MeetsAll v ds = append_met cs ds m.1 in ((m.0, rest.0), rest.1)

  -- columns are met where each is
  pub columns_met : (clauses : ℕ → List (List Lit)) (w : ℕ) → ((k : ℕ) → k < w → MeetsAll v (clauses k)) → MeetsAll v (columns clauses w)
  columns_met clauses zero h = tt
  columns_met clauses (suc w) h =
      met_append (columns clauses w) (clauses w) (columns_met clauses w (λ k b. h k (omega arith))) (h w (omega arith))

  pub met_columns : (clauses : ℕ → List (List Lit)) (w : ℕ) → MeetsAll v (columns clauses w) → (k : ℕ) → k < w → MeetsAll v (clauses k)
  met_columns clauses zero m k b = absurd (omega arith)
  met_columns clauses (suc w) m k b =
      let both : MeetsAll v (columns clauses w) × MeetsAll v (clauses w) = append_met (columns clauses w) (clauses w) m in
      elim (cases_lt k w) [
        | inl lower ↦ met_columns clauses w both.0 k lower
        | inr upper ↦ let last : w ≡ k = omega arith in subst (λ (j : ℕ). MeetsAll v (clauses j)) last both.1
      ]

  pub and_says : (r a b : Lit) → MeetsAll v (and_gate r a b) ↔ (literal_value v r ≡ (literal_value v a && literal_value v b))
  and_says r a b = search (rules)

  pub copy_says : (r a : Lit) → MeetsAll v (copy_gate r a) ↔ (literal_value v r ≡ literal_value v a)
  copy_says r a = search (rules)
