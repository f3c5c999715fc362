-- What the nodes of pairs say.
use Rattle.std.proofs.Common.{◌≡◌, ◌⊎◌, ◌↔◌, ℕ, ◌<◌, ◌≤◌, ◌==◌, Bool, true, false, List, [], ◌∷◌, length, refl, sym, ◌∙◌, ap, subst, arith, inl, inr}
use Rattle.std.specs.Prelude.{nat_lt}
use Rattle.std.proofs.lemmas.Bool.{cases_Bool, eq-eqb, eqb-true, eqb-false, ne_eqb}
use Rattle.insn_semantics.specs.Words as words
use Rattle.node_values.specs.declared.node.Node.{Node}
use Rattle.node_values.specs.declared.node.Node.TheVariants.{Const, Eq, Sub, Ult}
use Rattle.node_values.specs.declared.node.NodeId.{NodeId}
use Rattle.node_values.specs.Sheets.{IsSheet, node_at, value_at, width_at}
use Rattle.node_values.specs.Values.{Environment, node_value}
use Rattle.node_values.proofs.SheetLaws.{value_at-is}
use Rattle.duty_claims.specs.Truth.{IsOutsideLines}
use Rattle.duty_trials.specs.Trials.{SaysEquality, SaysInLines}

equal_turned : (a b : ℕ) → (a == b) ≡ (b == a)
equal_turned a b = elim (cases_Bool (a == b)) [
  | inl t ↦ t ∙ sym (eq-eqb b a (sym (eqb-true a b t)))
  | inr f ↦ f ∙ sym (ne_eqb b a (λ e. eqb-false a b f (sym e)))
]

below_not : (a b : ℕ) → words.below a b ≡ 0 → b ≤ a
below_not a b h = elim (cases_Bool (nat_lt a b)) [
  | inl t ↦ absurd (one (sym (ap words.bit t) ∙ h))
  | inr f ↦ grind arith
]
  where
    one : words.bit true ≡ 0 → ⊥
    one e = omega arith

not_below : (a b : ℕ) → b ≤ a → words.below a b ≡ 0
not_below a b h = elim (cases_Bool (nat_lt a b)) [
  | inl t ↦ absurd (over (grind arith))
  | inr f ↦ ap words.bit f
]
  where
    over : a < b → ⊥
    over l = omega arith

module _ (ns : List Node) (sheet : IsSheet ns) (i : ℕ) (inside : i < length ns) where
  value_by : (e : Environment) (n : Node) → node_at ns i ≡ n → value_at e ns i ≡ node_value e (width_at ns) (value_at e ns) n
  value_by e n h = value_at-is ns sheet e i inside ∙ ap (node_value e (width_at ns) (value_at e ns)) h

  pub eq_says : (x y : NodeId) → node_at ns i ≡ Eq x y → SaysEquality ns x.0 y.0 i
  eq_says x y h e = value_by e (Eq x y) h

  pub eq_says_turned : (x y : NodeId) → node_at ns i ≡ Eq x y → SaysEquality ns y.0 x.0 i
  eq_says_turned x y h e = value_by e (Eq x y) h ∙ ap words.bit (equal_turned (value_at e ns x.0) (value_at e ns y.0))

  pub one_says : (a : ℕ) → node_at ns i ≡ Const 1 1 → SaysEquality ns a a i
  one_says a h e = value_by e (Const 1 1) h ∙ sym (ap words.bit (eq-eqb (value_at e ns a) (value_at e ns a) refl))

  pub zero_says : (a : ℕ) → node_at ns i ≡ Const 1 0 → SaysInLines ns [] a i
  zero_says a h e = (λ z. tt, λ o. value_by e (Const 1 0) h)

  -- the difference of an address and the base of a line is below its length
  pub line_says : (line : NodeId × NodeId) (address behind len : NodeId) → behind.0 < length ns → width_at ns address.0 ≡ 64
      → node_at ns i ≡ Ult behind len → len.0 ≡ line.1.0 → node_at ns behind.0 ≡ Sub address line.0 → SaysInLines ns (line ∷ []) address.0 i
  line_says line address behind len b w h l d e = (λ z. (below_not _ _ (sym says ∙ z), tt), λ o. says ∙ not_below _ _ o.0)
    where
      says : value_at e ns i ≡ words.below (words.minus 64 (value_at e ns address.0) (value_at e ns line.0.0)) (value_at e ns line.1.0)
      says =
          value_by e (Ult behind len) h
          ∙ (λ j. words.below ((value_at-is ns sheet e behind.0 b ∙ ap (node_value e (width_at ns) (value_at e ns)) d
          ∙ ap (λ v. words.minus v (value_at e ns address.0) (value_at e ns line.0.0)) w) j) (value_at e ns (l j)))
