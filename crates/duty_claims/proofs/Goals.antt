-- Goals are 1 or 0.
use Rattle.std.proofs.Common.{◌≡◌, ◌⊎◌, ℕ, zero, suc, ◌^◌, ◌<◌, List, [], ◌∷◌, length, refl, subst, arith, inl, inr}
use Rattle.std.specs.Prelude.{slice_index_or}
use Rattle.std.specs.List.{AllByRecursion, Any}
use Rattle.node_values.specs.declared.node.Node.{Node}
use Rattle.node_values.specs.declared.node.NodeId.{NodeId}
use Rattle.node_values.specs.Sheets.{IsSheet, value_at, width_at}
use Rattle.node_values.specs.Values.{Environment}
use Rattle.node_values.proofs.SheetLaws.{value_at-below}
use Rattle.duty_claims.specs.declared.duty.Duty.{Duty}
use Rattle.duty_claims.specs.Truth.{Breaks, IsOne, IsTrueDuty, IsZero}
use Rattle.duty_claims.specs.Whole.{IsNodeOf, IsWhole}

bit_cases : (n : ℕ) → n < 2 → (n ≡ 1) ⊎ (n ≡ 0)
bit_cases zero h = inr refl
bit_cases (suc zero) h = inl refl
bit_cases (suc (suc n)) h = absurd (omega arith)

not_both : (n : ℕ) → n ≡ 1 → n ≡ 0 → ⊥
not_both n a b = omega arith

module _ (e : Environment) (ns : List Node) (sheet : IsSheet ns) where
  -- a node of one bit is 1 or 0
  pub one_or_zero : (node : NodeId) → IsNodeOf ns 1 node → IsOne e ns node ⊎ IsZero e ns node
  one_or_zero node h =
      let below : value_at e ns node.0 < 2 ^ width_at ns node.0 = value_at-below ns sheet e node.0 h.0 in
      bit_cases (value_at e ns node.0) (subst (λ (w : ℕ). value_at e ns node.0 < 2 ^ w) h.1 below)

  Any_later : (P : NodeId → Type 0) (x : NodeId) (xs : List NodeId) → Any P xs → Any P (x ∷ xs)
  Any_later P x xs a = (suc a.0, a.1, omega (arith, a.2), a.3, a.4)

  -- of nodes of one bit one is 1, or all are 0
  pub some_or_none : (nodes : List NodeId) → AllByRecursion (IsNodeOf ns 1) nodes
      → Any (IsOne e ns) nodes ⊎ AllByRecursion (IsZero e ns) nodes
  some_or_none [] h = inr tt
  some_or_none (x ∷ xs) h = elim (one_or_zero x h.0) [
    | inl one ↦ inl (0, x, omega arith, refl, one)
    | inr nil ↦ elim (some_or_none xs h.1) [
      | inl some ↦ inl (Any_later (IsOne e ns) x xs some)
      | inr none ↦ inr (nil, none)
    ]
  ]

  -- not both
  pub some_and_none : (nodes : List NodeId) (k : ℕ) (x : NodeId) → k < length nodes → slice_index_or nodes k x ≡ x
      → IsOne e ns x → AllByRecursion (IsZero e ns) nodes → ⊥
  some_and_none [] k x b is one none = omega arith
  some_and_none (y ∷ ys) zero x b is one none =
      not_both (value_at e ns x.0) one (subst (IsZero e ns) is none.0)
  some_and_none (y ∷ ys) (suc k) x b is one none = some_and_none ys k x (omega arith) is one none.1

-- a true duty is broken by no environment
pub unbroken : (d : Duty) → IsSheet d.sheet.now → IsTrueDuty d → (e : Environment) → Breaks e d → ⊥
unbroken d sheet true e b = elim (true e b.meets) [
  | inl goal ↦ not_both (value_at e d.sheet.now d.goal.0) goal b.goal
  | inr any ↦ some_and_none e d.sheet.now sheet d.more.now any.0 any.1 any.2 any.3 any.4 b.more
]

-- one that none breaks is true
pub held : (d : Duty) → IsSheet d.sheet.now → IsWhole d → ((e : Environment) → Breaks e d → ⊥) → IsTrueDuty d
held d sheet whole never e m = elim (one_or_zero e d.sheet.now sheet d.goal whole.goal) [
  | inl one ↦ inl one
  | inr nil ↦ elim (some_or_none e d.sheet.now sheet d.more.now whole.more) [
    | inl some ↦ inr some
    | inr none ↦ absurd (never e (record { meets = m; goal = nil; more = none }))
  ]
]
