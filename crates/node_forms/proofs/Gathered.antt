-- What a gathered form says: of one node it is the form, and of a difference of two it tells whether their forms
-- differ by a constant.
use Rattle.std.proofs.Common.{◌≡◌, ℕ, zero, suc, ◌+◌, ◌-◌, ◌*◌, ◌%◌, ◌^◌, ◌<◌, ◌≤◌, ◌==◌, List, [], ◌∷◌, Option, Some, None, Bool, true, false, length, refl, sym, ◌∙◌, ap, arith, inl, inr, if◌then◌else◌, zero-add}
use Rattle.std.specs.List.{AllByRecursion}
use Rattle.std.proofs.lemmas.Bool.{cases_Bool, eqb-true, eq-eqb}
use Rattle.std.proofs.lemmas.Nat.{mod_below, pow_pos}
use Rattle.std.proofs.Math.Nat.{mod-eq_of_lt}
use Rattle.insn_semantics.specs.Words.{minus, plus}
use Rattle.insn_semantics.proofs.WordLaws.{minus_self, plus-minus, power_grows}
use Rattle.node_values.specs.declared.node.Node.{Node}
use Rattle.node_values.specs.declared.node.NodeId.{NodeId}
use Rattle.node_values.specs.Sheets.{IsSheet}
use Rattle.node_forms.specs.Forms.{differ_by_constant, form_at, holds_below}
use Rattle.node_forms.specs.Listed.{difference_of_forms}
use Rattle.node_forms.specs.Sums.{AreAtoms, AreFalling, IsLinear, SameWord, listed_coefficient, weighted_sum, with_weight}
use Rattle.node_forms.proofs.FormLaws.{coefficient_below, coefficient_linear, constant_below, constant_linear}
use Rattle.node_forms.proofs.FormValues.{below_at, tests_agree}
use Rattle.node_forms.proofs.ListedForms.{listed_word, sum_constants, sum_listed}
use Rattle.node_forms.proofs.Residues.{same_add, same_below, same_drop, same_number}
use Rattle.node_forms.proofs.Replacing.{negated}
use Rattle.node_forms.proofs.Weights.{with_weight-sum}

all_hold : (test : ℕ → Bool) (n : ℕ) → ((x : ℕ) → x < n → test x ≡ true) → holds_below test n ≡ true
all_hold test zero h = refl
all_hold test (suc n) h = rw (h n (omega arith)) (all_hold test n (λ x b. h x (omega arith)))

module _ (ns : List Node) (sheet : IsSheet ns) (w : ℕ) (positive : 0 < w) (parts atoms : List (NodeId × ℕ)) (c : ℕ)
    (falling : AreFalling (length ns) atoms) (are : AreAtoms ns w atoms) (below : c < 2 ^ w)
    (sum : (k : ℕ) (f : ℕ → ℕ) → IsLinear ns w k f → SameWord w (weighted_sum f atoms + k * c) (weighted_sum f parts)) where
  abbrev coefficients : ℕ → ℕ → ℕ
  coefficients x j = (form_at ns w j).coefficient x

  abbrev constants : ℕ → ℕ
  constants j = (form_at ns w j).constant

  -- each listed coefficient is that of the parts together, and so is the constant
  pub coefficient_sum : (x : ℕ) → SameWord w (listed_coefficient atoms x) (weighted_sum (coefficients x) parts)
  coefficient_sum x =
      same_number w (listed_coefficient atoms x) (weighted_sum (coefficients x) atoms + 0 * c) (omega (arith, sum_listed ns sheet w x (length ns) atoms falling are))
      ∙ sum 0 (coefficients x) (coefficient_linear ns sheet w positive x)

  pub constant_sum : SameWord w c (weighted_sum constants parts)
  constant_sum =
      same_number w c (weighted_sum constants atoms + 1 * c) (omega (arith, sum_constants ns sheet w atoms are))
      ∙ sum 1 constants (constant_linear ns sheet w positive)

-- of one node
module _ (ns : List Node) (sheet : IsSheet ns) (w : ℕ) (positive : 0 < w) (a : NodeId) (inside : a.0 < length ns) (atoms : List (NodeId × ℕ)) (c : ℕ)
    (falling : AreFalling (length ns) atoms) (are : AreAtoms ns w atoms) (below : c < 2 ^ w)
    (sum : (k : ℕ) (f : ℕ → ℕ) → IsLinear ns w k f → SameWord w (weighted_sum f atoms + k * c) (weighted_sum f ((a, 1) ∷ []))) where
  pub coefficients_of_node : (x : ℕ) → listed_coefficient atoms x ≡ (form_at ns w a.0).coefficient x
  coefficients_of_node x =
      same_below w (listed_coefficient atoms x) ((form_at ns w a.0).coefficient x)
      (listed_word ns sheet w x (pow_pos w) atoms are) (coefficient_below w positive ns sheet a.0 x inside)
      (coefficient_sum ns sheet w positive ((a, 1) ∷ []) atoms c falling are below sum x
      ∙ same_number w (1 * (form_at ns w a.0).coefficient x + 0) ((form_at ns w a.0).coefficient x) (omega arith))

  pub constant_of_node : c ≡ (form_at ns w a.0).constant
  constant_of_node =
      same_below w c (form_at ns w a.0).constant below (constant_below w positive ns sheet a.0 inside)
      (constant_sum ns sheet w positive ((a, 1) ∷ []) atoms c falling are below sum
      ∙ same_number w (1 * (form_at ns w a.0).constant + 0) (form_at ns w a.0).constant (omega arith))

-- of a difference
module _ (ns : List Node) (sheet : IsSheet ns) (w : ℕ) (positive : 0 < w) (a b : NodeId) (first : a.0 < length ns) (second : b.0 < length ns)
    (atoms : List (NodeId × ℕ)) (c : ℕ)
    (falling : AreFalling (length ns) atoms) (are : AreAtoms ns w atoms) (below : c < 2 ^ w)
    (sum : (k : ℕ) (f : ℕ → ℕ) → IsLinear ns w k f → SameWord w (weighted_sum f atoms + k * c) (weighted_sum f (with_weight w b (minus w 0 1) ((a, 1) ∷ [])))) where
  abbrev parts : List (NodeId × ℕ)
  parts = with_weight w b (minus w 0 1) ((a, 1) ∷ [])

  one : 1 < 2 ^ w
  one = let two : 2 ^ 1 ≤ 2 ^ w = power_grows 1 w positive in omega arith

  -- what f gives to b and to the difference is what it gives to a
  and_second : (f : ℕ → ℕ) → SameWord w (weighted_sum f (with_weight w b (minus w 0 1) ((a, 1) ∷ [])) + f b.0) (f a.0)
  and_second f =
      same_add w (weighted_sum f (with_weight w b (minus w 0 1) ((a, 1) ∷ []))) (1 * f a.0 + 0 + minus w 0 1 * f b.0) (f b.0) (f b.0)
      (with_weight-sum w b (minus w 0 1) f ((a, 1) ∷ [])) refl
      ∙ same_number w (1 * f a.0 + 0 + minus w 0 1 * f b.0 + f b.0) (f a.0 + (minus w 0 1 * f b.0 + 1 * f b.0)) (omega arith)
      ∙ same_add w (f a.0) (f a.0) (minus w 0 1 * f b.0 + 1 * f b.0) 0 refl (negated w 0 f a 1 one (f b.0))
      ∙ same_number w (f a.0 + 0) (f a.0) (omega arith)

  -- a number that is the difference and f b together are f a
  with_second : (n : ℕ) (f : ℕ → ℕ) → SameWord w n (weighted_sum f (with_weight w b (minus w 0 1) ((a, 1) ∷ []))) → SameWord w (n + f b.0) (f a.0)
  with_second n f h = same_add w n (weighted_sum f (with_weight w b (minus w 0 1) ((a, 1) ∷ []))) (f b.0) (f b.0) h refl ∙ and_second f

  coefficient_and_second : (x : ℕ) → SameWord w (listed_coefficient atoms x + (form_at ns w b.0).coefficient x) ((form_at ns w a.0).coefficient x)
  coefficient_and_second x =
      with_second (listed_coefficient atoms x) (λ j. (form_at ns w j).coefficient x)
      (coefficient_sum ns sheet w positive (with_weight w b (minus w 0 1) ((a, 1) ∷ [])) atoms c falling are below sum x)

  constant_and_second : SameWord w (c + (form_at ns w b.0).constant) (form_at ns w a.0).constant
  constant_and_second =
      with_second c (λ j. (form_at ns w j).constant)
      (constant_sum ns sheet w positive (with_weight w b (minus w 0 1) ((a, 1) ∷ [])) atoms c falling are below sum)

  zero_plus : (n : ℕ) → SameWord w n (0 + n)
  zero_plus n = same_number w n (0 + n) (omega arith)

  -- no atom: the forms differ by a constant
  pub no_atom : ((x : ℕ) → listed_coefficient atoms x ≡ 0) → differ_by_constant ns w a.0 b.0 ≡ true
  no_atom none =
      all_hold (λ x. (form_at ns w a.0).coefficient x == (form_at ns w b.0).coefficient x) (length ns)
      (λ x h. eq-eqb ((form_at ns w a.0).coefficient x) ((form_at ns w b.0).coefficient x)
      (same_below w ((form_at ns w a.0).coefficient x) ((form_at ns w b.0).coefficient x)
      (coefficient_below w positive ns sheet a.0 x first) (coefficient_below w positive ns sheet b.0 x second)
      (sym (coefficient_and_second x) ∙ same_number w _ _ (ap (λ n. n + (form_at ns w b.0).coefficient x) (none x)) ∙ sym (zero_plus ((form_at ns w b.0).coefficient x)))))

  -- an atom whose coefficient is not 0: they do not
  pub some_atom : (x : ℕ) → x < length ns → 0 < listed_coefficient atoms x → differ_by_constant ns w a.0 b.0 ≡ false
  some_atom x inside some = elim (cases_Bool (differ_by_constant ns w a.0 b.0)) [
    | inr f ↦ f
    | inl t ↦
        let same : (form_at ns w a.0).coefficient x ≡ (form_at ns w b.0).coefficient x =
        eqb-true _ _ (below_at (λ x. (form_at ns w a.0).coefficient x == (form_at ns w b.0).coefficient x) (length ns) t x inside) in
        let none : SameWord w (listed_coefficient atoms x) 0 =
        same_drop w (listed_coefficient atoms x) 0 ((form_at ns w b.0).coefficient x)
        (coefficient_and_second x ∙ same_number w _ _ same ∙ zero_plus ((form_at ns w b.0).coefficient x)) in
        let nothing : listed_coefficient atoms x ≡ 0 =
        same_below w (listed_coefficient atoms x) 0 (listed_word ns sheet w x (pow_pos w) atoms are) (pow_pos w) none in
        absurd (omega (arith, some, nothing))
  ]

  -- the constant is the difference of the forms' constants
  pub constant_is : c ≡ minus w (form_at ns w a.0).constant (form_at ns w b.0).constant
  constant_is =
      let A : ℕ = (form_at ns w a.0).constant in
      let B : ℕ = (form_at ns w b.0).constant in
      let left : (form_at ns w a.0).constant < 2 ^ w = constant_below w positive ns sheet a.0 first in
      let right : (form_at ns w b.0).constant < 2 ^ w = constant_below w positive ns sheet b.0 second in
      let back : SameWord w (minus w (form_at ns w a.0).constant (form_at ns w b.0).constant + (form_at ns w b.0).constant) (form_at ns w a.0).constant =
      plus-minus w (form_at ns w a.0).constant (form_at ns w b.0).constant left right ∙ sym (mod-eq_of_lt left) in
      same_below w c (minus w A B) below (mod_below (A + (2 ^ w - B)) (2 ^ w) (pow_pos w)) (same_drop w c (minus w A B) B (constant_and_second ∙ sym back))

-- the coefficients of atoms are not 0
pub atoms_some : (ns : List Node) (w : ℕ) (ps : List (NodeId × ℕ)) → AreAtoms ns w ps → AllByRecursion (λ p. 0 < p.1) ps
atoms_some ns w [] h = tt
atoms_some ns w (p ∷ ps) h = (h.0.3, atoms_some ns w ps h.1)

-- a list that is not empty has an atom whose coefficient is not 0
some_listed : (ns : List Node) (w : ℕ) (ps : List (NodeId × ℕ)) → (ps ≡ [] → ⊥) → AreAtoms ns w ps
    → (x : ℕ) × (x < length ns) × (0 < listed_coefficient ps x)
some_listed ns w [] ne h = absurd (ne refl)
some_listed ns w (p ∷ ps) ne h =
    let first : listed_coefficient (p ∷ ps) p.0.0 ≡ p.1 = ap (λ t. if t then p.1 else listed_coefficient ps p.0.0) (eq-eqb p.0.0 p.0.0 refl) in
    (p.0.0, h.0.0, omega (arith, first, h.0.3))

-- what the list of a difference tells
module _ (ns : List Node) (sheet : IsSheet ns) (w : ℕ) (positive : 0 < w) (a b : NodeId) (first : a.0 < length ns) (second : b.0 < length ns)
    (atoms : List (NodeId × ℕ)) (c : ℕ)
    (falling : AreFalling (length ns) atoms) (are : AreAtoms ns w atoms) (below : c < 2 ^ w)
    (sum : (k : ℕ) (f : ℕ → ℕ) → IsLinear ns w k f → SameWord w (weighted_sum f atoms + k * c) (weighted_sum f (with_weight w b (minus w 0 1) ((a, 1) ∷ [])))) where
  abbrev told_by : Bool → Option ℕ
  told_by t = if t then Some (minus w (form_at ns w a.0).constant (form_at ns w b.0).constant) else None

  pub tells_some : atoms ≡ [] → Some c ≡ difference_of_forms ns w a.0 b.0
  tells_some none =
      ap Some (constant_is ns sheet w positive a b first second atoms c falling are below sum)
      ∙ ap told_by (sym (no_atom ns sheet w positive a b first second atoms c falling are below sum (λ x. ap (λ ps. listed_coefficient ps x) none)))

  pub tells_none : (atoms ≡ [] → ⊥) → None ≡ difference_of_forms ns w a.0 b.0
  tells_none ne =
      let x = some_listed ns w atoms ne are in
      ap told_by (sym (some_atom ns sheet w positive a b first second atoms c falling are below sum x.0 x.1 x.2))

-- the difference of two forms' constants is 0 where the constants are equal
pub no_difference : (ns : List Node) (sheet : IsSheet ns) (w : ℕ) (positive : 0 < w) (a b : ℕ) → a < length ns → b < length ns
    → (minus w (form_at ns w a).constant (form_at ns w b).constant == 0) ≡ ((form_at ns w a).constant == (form_at ns w b).constant)
no_difference ns sheet w positive a b first second =
    let left : (form_at ns w a).constant < 2 ^ w = constant_below w positive ns sheet a first in
    let right : (form_at ns w b).constant < 2 ^ w = constant_below w positive ns sheet b second in
    let back : plus w (minus w (form_at ns w a).constant (form_at ns w b).constant) (form_at ns w b).constant ≡ (form_at ns w a).constant =
    plus-minus w (form_at ns w a).constant (form_at ns w b).constant left right in
    tests_agree (minus w (form_at ns w a).constant (form_at ns w b).constant) 0 (form_at ns w a).constant (form_at ns w b).constant
    (λ none. sym back ∙ ap (λ n. plus w n (form_at ns w b).constant) none ∙ ap (λ n. n % 2 ^ w) (zero-add (form_at ns w b).constant) ∙ mod-eq_of_lt right)
    (λ same. ap (λ n. minus w n (form_at ns w b).constant) same ∙ minus_self w (form_at ns w b).constant right)
