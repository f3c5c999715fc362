-- The coefficients of forms, their constants and the values of nodes are all linear in the nodes.
use Rattle.std.proofs.Common.{◌≡◌, ℕ, ◌+◌, ◌*◌, ◌^◌, ◌<◌, ◌≤◌, ◌==◌, List, Bool, true, false, length, refl, sym, ◌∙◌, arith, if◌then◌else◌}
use Rattle.std.proofs.lemmas.Nat.{mod_below, pow_pos}
use Rattle.std.proofs.Math.Nat.{mod-eq_of_lt}
use Rattle.insn_semantics.specs.Words as words
use Rattle.insn_semantics.proofs.WordLaws.{plus-minus, power_grows}
use Rattle.node_values.specs.declared.node.Node.{Node}
use Rattle.node_values.specs.Nodes.{node_width}
use Rattle.node_values.specs.Sheets.{IsSheet, node_at, width_at}
use Rattle.node_values.proofs.Lower.{IsLocal, from_lower-is}
use Rattle.node_forms.specs.declared.linear.Linear.{Linear}
use Rattle.node_forms.specs.declared.linear.Linear.TheVariants.{Atom, Number, Times, Plus, Minus}
use Rattle.node_forms.specs.Linearity.{linearity}
use Rattle.node_forms.specs.Forms.{LinearForm, form_at, form_by, no_form}
use Rattle.node_forms.specs.Sums.{Follows, IsLinear, SameWord}
use Rattle.node_forms.proofs.Residues.{same_low, same_number}
use Rattle.node_forms.proofs.LinearLaws.{AllParts, IsLower, linearity_parts, parts_weaker}

form_by_same : (w : ℕ) (f g : ℕ → LinearForm) (i : ℕ) (linear : Linear) → AllParts (λ a. f a.0 ≡ g a.0) linear
    → form_by w f i linear ≡ form_by w g i linear
form_by_same w f g i Atom h = refl
form_by_same w f g i (Number v) h = refl
form_by_same w f g i (Times a v) h = λ j. record {
  coefficient = λ atom. words.times w v ((h j).coefficient atom);
  constant = words.times w v (h j).constant;
}
form_by_same w f g i (Plus a b) h = λ j. record {
  coefficient = λ atom. words.plus w ((h.0 j).coefficient atom) ((h.1 j).coefficient atom);
  constant = words.plus w (h.0 j).constant (h.1 j).constant;
}
form_by_same w f g i (Minus a b) h = λ j. record {
  coefficient = λ atom. words.minus w ((h.0 j).coefficient atom) ((h.1 j).coefficient atom);
  constant = words.minus w (h.0 j).constant (h.1 j).constant;
}

module _ (ns : List Node) (sheet : IsSheet ns) (w : ℕ) where
  abbrev form_made : (ℕ → LinearForm) → ℕ → LinearForm
  form_made forms j = form_by w forms j (linearity ns (width_at ns) w (node_at ns j))

  form_local : IsLocal form_made (length ns)
  form_local f g i b same =
      form_by_same w f g i (linearity ns (width_at ns) w (node_at ns i))
      (parts_weaker (IsLower (width_at ns) w i (node_width (width_at ns) (node_at ns i))) (λ a. f a.0 ≡ g a.0) (λ a k. same a.0 k.0)
      (linearity ns (width_at ns) w (node_at ns i)) (linearity_parts ns (width_at ns) w i (node_at ns i) (sheet i b)))

  pub form_at-is : (i : ℕ) → i < length ns → form_at ns w i ≡ form_by w (form_at ns w) i (linearity ns (width_at ns) w (node_at ns i))
  unfolding form_at
  form_at-is i b = from_lower-is no_form form_made (length ns) form_local i b

module _ (w : ℕ) (positive : 0 < w) where
  one_below : (t : Bool) → (if t then 1 else 0) < 2 ^ w
  one_below true = let two : 2 ^ 1 ≤ 2 ^ w = power_grows 1 w positive in omega arith
  one_below false = pow_pos w

  form_by_below : (f : ℕ → LinearForm) (i : ℕ) (linear : Linear) (x : ℕ)
      → ((form_by w f i linear).coefficient x < 2 ^ w) × ((form_by w f i linear).constant < 2 ^ w)
  form_by_below f i Atom x = (one_below (x == i), pow_pos w)
  form_by_below f i (Number v) x = (pow_pos w, mod_below v (2 ^ w) (pow_pos w))
  form_by_below f i (Times a v) x = (mod_below _ (2 ^ w) (pow_pos w), mod_below _ (2 ^ w) (pow_pos w))
  form_by_below f i (Plus a b) x = (mod_below _ (2 ^ w) (pow_pos w), mod_below _ (2 ^ w) (pow_pos w))
  form_by_below f i (Minus a b) x = (mod_below _ (2 ^ w) (pow_pos w), mod_below _ (2 ^ w) (pow_pos w))

  module _ (ns : List Node) (sheet : IsSheet ns) where
    pub coefficient_below : (i x : ℕ) → i < length ns → (form_at ns w i).coefficient x < 2 ^ w
    coefficient_below i x b = rw (form_at-is ns sheet w i b) (form_by_below (form_at ns w) i (linearity ns (width_at ns) w (node_at ns i)) x).0

    pub constant_below : (i : ℕ) → i < length ns → (form_at ns w i).constant < 2 ^ w
    constant_below i b = rw (form_at-is ns sheet w i b) (form_by_below (form_at ns w) i (linearity ns (width_at ns) w (node_at ns i)) 0).1

-- a difference and what was subtracted
back : (w a b : ℕ) → a < 2 ^ w → b < 2 ^ w → SameWord w (words.minus w a b + b) a
back w a b h k = plus-minus w a b h k ∙ sym (mod-eq_of_lt h)

module _ (ns : List Node) (sheet : IsSheet ns) (w : ℕ) (positive : 0 < w) where
  coefficient_follows : (x i : ℕ) → i < length ns → (linear : Linear) → AllParts (λ a. a.0 < length ns) linear
      → form_at ns w i ≡ form_by w (form_at ns w) i linear → Follows w 0 (λ j. (form_at ns w j).coefficient x) i linear
  coefficient_follows x i b Atom parts e = tt
  coefficient_follows x i b (Number v) parts e = rw e (same_number w 0 (0 * v) (omega arith))
  coefficient_follows x i b (Times a v) parts e = rw e (same_low w (v * (form_at ns w a.0).coefficient x))
  coefficient_follows x i b (Plus a c) parts e = rw e (same_low w ((form_at ns w a.0).coefficient x + (form_at ns w c.0).coefficient x))
  coefficient_follows x i b (Minus a c) parts e =
      rw e (back w ((form_at ns w a.0).coefficient x) ((form_at ns w c.0).coefficient x)
      (coefficient_below w positive ns sheet a.0 x parts.0) (coefficient_below w positive ns sheet c.0 x parts.1))

  constant_follows : (i : ℕ) → i < length ns → (linear : Linear) → AllParts (λ a. a.0 < length ns) linear
      → form_at ns w i ≡ form_by w (form_at ns w) i linear → Follows w 1 (λ j. (form_at ns w j).constant) i linear
  constant_follows i b Atom parts e = tt
  constant_follows i b (Number v) parts e = rw e (same_low w v ∙ same_number w v (1 * v) (omega arith))
  constant_follows i b (Times a v) parts e = rw e (same_low w (v * (form_at ns w a.0).constant))
  constant_follows i b (Plus a c) parts e = rw e (same_low w ((form_at ns w a.0).constant + (form_at ns w c.0).constant))
  constant_follows i b (Minus a c) parts e =
      rw e (back w (form_at ns w a.0).constant (form_at ns w c.0).constant
      (constant_below w positive ns sheet a.0 parts.0) (constant_below w positive ns sheet c.0 parts.1))

  parts_inside : (i : ℕ) → i < length ns → AllParts (λ a. a.0 < length ns) (linearity ns (width_at ns) w (node_at ns i))
  parts_inside i b =
      parts_weaker (IsLower (width_at ns) w i (node_width (width_at ns) (node_at ns i))) (λ a. a.0 < length ns)
      (λ a k. omega (arith, k.0, b))
      (linearity ns (width_at ns) w (node_at ns i)) (linearity_parts ns (width_at ns) w i (node_at ns i) (sheet i b))

  -- the coefficients at an atom are linear in the nodes, with 0 for each constant
  pub coefficient_linear : (x : ℕ) → IsLinear ns w 0 (λ j. (form_at ns w j).coefficient x)
  coefficient_linear x i b wide =
      coefficient_follows x i b (linearity ns (width_at ns) w (node_at ns i)) (parts_inside i b) (form_at-is ns sheet w i b)

  -- the constants of forms are linear in the nodes
  pub constant_linear : IsLinear ns w 1 (λ j. (form_at ns w j).constant)
  constant_linear i b wide =
      constant_follows i b (linearity ns (width_at ns) w (node_at ns i)) (parts_inside i b) (form_at-is ns sheet w i b)
