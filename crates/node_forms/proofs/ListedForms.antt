-- Forms as lists of atoms: their coefficients and constants are those of the definition.
use Rattle.std.proofs.Common.{◌≡◌, ℕ, ◌^◌, ◌<◌, ◌≤◌, ◌==◌, List, [], ◌∷◌, false, length, refl, ◌∙◌, ap, arith, inl, inr, if◌then◌else◌}
use Rattle.std.proofs.lemmas.Bool.{cases_Bool, eqb-true, ne_eqb}
use Rattle.node_values.specs.declared.node.Node.{Node}
use Rattle.node_values.specs.declared.node.NodeId.{NodeId}
use Rattle.node_values.specs.Sheets.{IsSheet, node_at, width_at}
use Rattle.node_forms.specs.declared.linear.Linear.TheVariants.{Atom}
use Rattle.node_forms.specs.Linearity.{linearity}
use Rattle.node_forms.specs.Forms.{form_at, form_by}
use Rattle.node_forms.specs.Sums.{AreAtoms, AreFalling, listed_coefficient, weighted_sum}
use Rattle.node_forms.proofs.FormLaws.{form_at-is}

module _ (ns : List Node) (sheet : IsSheet ns) (w : ℕ) where
  abbrev coefficients : ℕ → ℕ → ℕ
  coefficients x j = (form_at ns w j).coefficient x

  -- the form of an atom is the atom
  atom_form : (i : ℕ) → i < length ns → linearity ns (width_at ns) w (node_at ns i) ≡ Atom → form_at ns w i ≡ form_by w (form_at ns w) i Atom
  atom_form i b e = form_at-is ns sheet w i b ∙ ap (form_by w (form_at ns w) i) e

  -- atoms below x do not have x
  sum_below : (x end : ℕ) (ps : List (NodeId × ℕ)) → AreFalling end ps → AreAtoms ns w ps → end ≤ x → weighted_sum (coefficients x) ps ≡ 0
  sum_below x end [] falling atoms h = refl
  sum_below x end (p ∷ ps) falling atoms h =
      let rest : weighted_sum (coefficients x) ps ≡ 0 = sum_below x p.0.0 ps falling.1 atoms.1 (omega (arith, falling.0)) in
      let other : (x == p.0.0) ≡ false = ne_eqb x p.0.0 (λ e. absurd (omega (arith, falling.0, e))) in
      let none : coefficients x p.0.0 ≡ 0 =
      ap (λ form. form.coefficient x) (atom_form p.0.0 atoms.0.0 atoms.0.2) ∙ ap (λ t. if t then 1 else 0) other in
      rw (none, rest) (omega arith)

  listed_below : (x end : ℕ) (ps : List (NodeId × ℕ)) → AreFalling end ps → end ≤ x → listed_coefficient ps x ≡ 0
  listed_below x end [] falling h = refl
  listed_below x end (p ∷ ps) falling h =
      let other : (x == p.0.0) ≡ false = ne_eqb x p.0.0 (λ e. absurd (omega (arith, falling.0, e))) in
      rw other (listed_below x p.0.0 ps falling.1 (omega (arith, falling.0)))

  -- the sum of the atoms' coefficients at x is the coefficient that is listed for x
  pub sum_listed : (x end : ℕ) (ps : List (NodeId × ℕ)) → AreFalling end ps → AreAtoms ns w ps
      → weighted_sum (coefficients x) ps ≡ listed_coefficient ps x
  sum_listed x end [] falling atoms = refl
  sum_listed x end (p ∷ ps) falling atoms = elim (cases_Bool (x == p.0.0)) [
    | inl same ↦
        let number : x ≡ p.0.0 = eqb-true x p.0.0 same in
        let rest : weighted_sum (coefficients x) ps ≡ 0 = sum_below x p.0.0 ps falling.1 atoms.1 (omega (arith, number)) in
        let one : coefficients x p.0.0 ≡ 1 =
        ap (λ form. form.coefficient x) (atom_form p.0.0 atoms.0.0 atoms.0.2) ∙ ap (λ t. if t then 1 else 0) same in
        rw (one, rest, same) (omega arith)
    | inr other ↦
        let none : coefficients x p.0.0 ≡ 0 =
        ap (λ form. form.coefficient x) (atom_form p.0.0 atoms.0.0 atoms.0.2) ∙ ap (λ t. if t then 1 else 0) other in
        rw (none, sum_listed x p.0.0 ps falling.1 atoms.1, other) (omega arith)
  ]

  -- atoms have no constant
  pub sum_constants : (ps : List (NodeId × ℕ)) → AreAtoms ns w ps → weighted_sum (λ j. (form_at ns w j).constant) ps ≡ 0
  sum_constants [] atoms = refl
  sum_constants (p ∷ ps) atoms =
      let none : (form_at ns w p.0.0).constant ≡ 0 = ap (λ form. form.constant) (atom_form p.0.0 atoms.0.0 atoms.0.2) in
      rw (none, sum_constants ps atoms.1) (omega arith)

  -- a listed coefficient is a word
  pub listed_word : (x : ℕ) → 0 < 2 ^ w → (ps : List (NodeId × ℕ)) → AreAtoms ns w ps → listed_coefficient ps x < 2 ^ w
  listed_word x some [] atoms = some
  listed_word x some (p ∷ ps) atoms = elim (cases_Bool (x == p.0.0)) [
    | inl same ↦ rw same atoms.0.4
    | inr other ↦ rw other (listed_word x some ps atoms.1)
  ]
