-- The loops that add and subtract terms: one term more, from the last on.
use Rattle.std.proofs.Common.{◌≡◌, ℕ, zero, suc, ◌-◌, ◌<◌, ◌≤◌, List, [], ◌∷◌, true, false, length, drop, get_or, refl, sym, ◌∙◌, ap, subst, arith, inl, inr, if◌then◌else◌}
use Rattle.std.proofs.lemmas.Bool.{cases_Bool}
use Rattle.std.proofs.Math.Seq.{drop-cons}
use Rattle.node_values.specs.declared.node.Node.{Node}
use Rattle.terms.specs.Made.{Made}
use Rattle.address_nodes.specs.Multiples.{AreTerms, IsAddress, Sum, Term, added, is_added, minus_term, plus_term, subtracted, summed}
use Rattle.address_nodes.proofs.Growing.{minus_extends, plus_extends, still_longer}

-- no term
abbrev pub no_term : Term
no_term = (record { 0 = 0 }, 0)

-- the terms from one place on
pub one_more : (ps : List Term) (at : ℕ) (d : Term) → 0 < at → at ≤ length ps → drop (at - 1) ps ≡ get_or ps (at - 1) d ∷ drop at ps
one_more ps zero d some inside = absurd (omega arith)
one_more ps (suc at) d some inside = let e : suc at - 1 ≡ at = omega arith in rw e (drop-cons ps at d (omega arith))

pub term_at : (ns : List Node) (ps : List Term) (at : ℕ) (d : Term) → at < length ps → AreTerms ns ps → IsAddress ns (get_or ps at d).0
term_at ns [] at d b h = absurd (omega arith)
term_at ns (p ∷ ps) zero d b h = h.0.0
term_at ns (p ∷ ps) (suc at) d b h = term_at ns ps at d (omega arith) h.1

module _ (ns : List Node) where
  added_step : (p : Term) (ps : List Term) (s : Sum) → added ns ps ≡ s
      → added ns (p ∷ ps) ≡ (if is_added p then summed (plus_term s.nodes s.node p) else s)
  unfolding added
  added_step p ps s is = ap (λ t. if is_added p then summed (plus_term t.nodes t.node p) else t) is

  pub added_one : (ps : List Term) (at : ℕ) (d : Term) (s : Sum) (m : Made) → 0 < at → at ≤ length ps → added ns (drop at ps) ≡ s
      → is_added (get_or ps (at - 1) d) ≡ true → plus_term s.nodes s.node (get_or ps (at - 1) d) ≡ m → added ns (drop (at - 1) ps) ≡ summed m
  added_one ps at d s m some inside is t made =
      ap (added ns) (one_more ps at d some inside) ∙ added_step (get_or ps (at - 1) d) (drop at ps) s is
      ∙ ap (λ b. if b then summed (plus_term s.nodes s.node (get_or ps (at - 1) d)) else s) t ∙ ap summed made

  pub added_none : (ps : List Term) (at : ℕ) (d : Term) (s : Sum) → 0 < at → at ≤ length ps → added ns (drop at ps) ≡ s
      → is_added (get_or ps (at - 1) d) ≡ false → added ns (drop (at - 1) ps) ≡ s
  added_none ps at d s some inside is f =
      ap (added ns) (one_more ps at d some inside) ∙ added_step (get_or ps (at - 1) d) (drop at ps) s is
      ∙ ap (λ b. if b then summed (plus_term s.nodes s.node (get_or ps (at - 1) d)) else s) f

  added_cons_longer : (p : Term) (ps : List Term) → 65536 < length (added ns ps).nodes → 65536 < length (added ns (p ∷ ps)).nodes
  added_cons_longer p ps h =
      let s : Sum = added ns ps in
      subst (λ t. 65536 < length t.nodes) (sym (added_step p ps s refl))
      (elim (cases_Bool (is_added p)) [
        | inl t ↦ rw t (still_longer s.nodes (plus_term s.nodes s.node p).nodes (plus_extends s.nodes s.node p) h)
        | inr f ↦ rw f h
      ])

  added_from_longer : (ps : List Term) (at : ℕ) → 65536 < length (added ns (drop at ps)).nodes → 65536 < length (added ns ps).nodes
  added_from_longer [] zero h = h
  added_from_longer [] (suc at) h = h
  added_from_longer (p ∷ ps) zero h = h
  added_from_longer (p ∷ ps) (suc at) h = added_cons_longer p ps (added_from_longer ps at h)

  pub added_longer : (ps : List Term) (at : ℕ) (d : Term) (s : Sum) → 0 < at → at ≤ length ps → added ns (drop at ps) ≡ s
      → is_added (get_or ps (at - 1) d) ≡ true → 65536 < length (plus_term s.nodes s.node (get_or ps (at - 1) d)).nodes → 65536 < length (added ns ps).nodes
  added_longer ps at d s some inside is t h =
      added_from_longer ps (at - 1)
      (subst (λ a. 65536 < length a.nodes) (sym (added_one ps at d s (plus_term s.nodes s.node (get_or ps (at - 1) d)) some inside is t refl)) h)

module _ (start : Sum) where
  subtracted_step : (p : Term) (ps : List Term) (s : Sum) → subtracted start ps ≡ s
      → subtracted start (p ∷ ps) ≡ (if is_added p then s else summed (minus_term s.nodes s.node p))
  unfolding subtracted
  subtracted_step p ps s is = ap (λ t. if is_added p then t else summed (minus_term t.nodes t.node p)) is

  pub subtracted_one : (ps : List Term) (at : ℕ) (d : Term) (s : Sum) (m : Made) → 0 < at → at ≤ length ps → subtracted start (drop at ps) ≡ s
      → is_added (get_or ps (at - 1) d) ≡ false → minus_term s.nodes s.node (get_or ps (at - 1) d) ≡ m → subtracted start (drop (at - 1) ps) ≡ summed m
  subtracted_one ps at d s m some inside is f made =
      ap (subtracted start) (one_more ps at d some inside) ∙ subtracted_step (get_or ps (at - 1) d) (drop at ps) s is
      ∙ ap (λ b. if b then s else summed (minus_term s.nodes s.node (get_or ps (at - 1) d))) f ∙ ap summed made

  pub subtracted_none : (ps : List Term) (at : ℕ) (d : Term) (s : Sum) → 0 < at → at ≤ length ps → subtracted start (drop at ps) ≡ s
      → is_added (get_or ps (at - 1) d) ≡ true → subtracted start (drop (at - 1) ps) ≡ s
  subtracted_none ps at d s some inside is t =
      ap (subtracted start) (one_more ps at d some inside) ∙ subtracted_step (get_or ps (at - 1) d) (drop at ps) s is
      ∙ ap (λ b. if b then s else summed (minus_term s.nodes s.node (get_or ps (at - 1) d))) t

  subtracted_cons_longer : (p : Term) (ps : List Term) → 65536 < length (subtracted start ps).nodes → 65536 < length (subtracted start (p ∷ ps)).nodes
  subtracted_cons_longer p ps h =
      let s : Sum = subtracted start ps in
      subst (λ t. 65536 < length t.nodes) (sym (subtracted_step p ps s refl))
      (elim (cases_Bool (is_added p)) [
        | inl t ↦ rw t h
        | inr f ↦ rw f (still_longer s.nodes (minus_term s.nodes s.node p).nodes (minus_extends s.nodes s.node p) h)
      ])

  subtracted_from_longer : (ps : List Term) (at : ℕ) → 65536 < length (subtracted start (drop at ps)).nodes → 65536 < length (subtracted start ps).nodes
  subtracted_from_longer [] zero h = h
  subtracted_from_longer [] (suc at) h = h
  subtracted_from_longer (p ∷ ps) zero h = h
  subtracted_from_longer (p ∷ ps) (suc at) h = subtracted_cons_longer p ps (subtracted_from_longer ps at h)

  pub subtracted_loop_longer : (ps : List Term) (at : ℕ) (d : Term) (s : Sum) → 0 < at → at ≤ length ps → subtracted start (drop at ps) ≡ s
      → is_added (get_or ps (at - 1) d) ≡ false → 65536 < length (minus_term s.nodes s.node (get_or ps (at - 1) d)).nodes → 65536 < length (subtracted start ps).nodes
  subtracted_loop_longer ps at d s some inside is f h =
      subtracted_from_longer ps (at - 1)
      (subst (λ a. 65536 < length a.nodes) (sym (subtracted_one ps at d s (minus_term s.nodes s.node (get_or ps (at - 1) d)) some inside is f refl)) h)
