-- Places at which rules are kept, and breaches of them.
use Rattle.std.proofs.Common.{◌≡◌, ℕ, ◌≤◌, Bool, true, false, All, List, ◌∷◌, Option, Some, None, length, get_or, slice_get, refl, subst, arith}
use Rattle.std.specs.Prelude.{◌↔◌, IfSome, IsTrue, MatchOption, Result, Err, if◌then◌else◌}
use Rattle.std.specs.List.{AllByRecursion}
use Rattle.std.proofs.lemmas.Option.{slice_get-get_or, slice_get_past}
use Rattle.first_breaches.specs.Breaches.{FindsNumber, IsFirstBreach, Place}
use Rattle.first_breaches.proofs.FirstBreaches.{first_breach-later, first_breach-once}
use Rattle.flow_graph.specs.declared.control.Flow.{Flow}
use Rattle.product_automaton.specs.declared.product.Product.{Product}
use Rattle.product_automaton.specs.declared.rules.Breach.{Breach}
use Rattle.product_automaton.specs.declared.rules.Rule.{Rule}
use Rattle.product_automaton.specs.declared.rules.Rule.TheVariants.{Sizes, Places, Paths, Falls, Ranks, Invariants}
use Rattle.product_automaton.specs.Ranks.{HasLowRanks, RanksFall}
use Rattle.product_automaton.specs.Rules.{HasCounts, IsBreachAmong, IsProductBreach, Keeps, KeepsSizes, MeetsRules, later_rules, number_of, rule_order}

some-past : {X : Type 0} (P : X → Type 0) (xs : List X) (n : ℕ) → length xs ≤ n → IfSome (slice_get xs n) P
some-past P xs n past = rw (slice_get_past xs n past) tt

-- past the nodes and the edges the first rule is kept
pub sizes-past : (p : Product) (n : ℕ) → HasCounts p → 256 ≤ n → KeepsSizes p n
sizes-past p n h past = record {
  counts = λ zero. h;
  invs = some-past _ p.nodes n (omega (arith, h.nodes));
  paths = some-past _ p.edges n (omega (arith, h.edges));
}

-- past the nodes and the edges each rule is kept
pub keeps-past : (p : Product) (left right : List Flow) (rule : Rule) (at : Place) → HasCounts p → 256 ≤ at.0 → Keeps p left right rule at
keeps-past p left right Sizes at h past = sizes-past p at.0 h past
keeps-past p left right Places at h past = some-past _ p.nodes at.0 (omega (arith, h.nodes))
keeps-past p left right Paths at h past = some-past _ p.edges at.0 (omega (arith, h.edges))
keeps-past p left right Falls at h past = some-past _ p.edges at.0 (omega (arith, h.edges))
keeps-past p left right Ranks at h past = some-past _ p.nodes at.0 (omega (arith, h.nodes))
keeps-past p left right Invariants at h past = some-past _ p.nodes at.0 (omega (arith, h.nodes))

-- a rule with one number is broken at the second number 0, where a test of it fails
pub finds-unless : (IsKept : Type 0) (kept : Bool) → IsTrue kept ↔ IsKept → FindsNumber (λ second. IsKept) (if kept then None else Some 0)
finds-unless IsKept true is = λ n. is.0 refl
finds-unless IsKept false is = record { broken = λ h. cc (is.1 h); before = λ n less. absurd (omega arith) }

-- the breach of a rule at a place
abbrev pub made : Rule → Place → Breach
made rule place = record { rule = number_of rule; place = place }

-- the first breach of rules in order, as it is told
pub breach-made : (rules : List Rule) (p : Product) (left right : List Flow) (rule : Rule) (place : Place) (breach : Breach) → breach ≡ made rule place
    → IsFirstBreach rules (Keeps p left right) rule place → IsBreachAmong rules p left right breach
breach-made rules p left right rule place breach is first =
    rw is (let h : IsBreachAmong rules p left right (made rule place) = record { rule = rule; number = refl; first = first } in h)

-- where the first rule is kept, the first breach of later ones is that of all
pub breach-later : (p : Product) (left right : List Flow) (rule : Rule) (later : List Rule) (breach : Breach) → ((at : Place) → Keeps p left right rule at)
    → IsBreachAmong later p left right breach → IsBreachAmong (rule ∷ later) p left right breach
breach-later p left right rule later breach kept h = record {
  rule = h.rule;
  number = h.number;
  first = first_breach-later (Keeps p left right) rule later h.rule breach.place kept h.first;
}

-- where each rule of the order is kept, the rules are met
pub rules-met : (p : Product) (left right : List Flow) → AllByRecursion (λ rule. (at : Place) → Keeps p left right rule at) rule_order → MeetsRules p left right
rules-met p left right kept Sizes = kept.0
rules-met p left right kept Places = kept.1.0
rules-met p left right kept Paths = kept.1.1.0
rules-met p left right kept Falls = kept.1.1.1.0
rules-met p left right kept Ranks = kept.1.1.1.1.0
rules-met p left right kept Invariants = kept.1.1.1.1.1.0

-- where the rule on sizes is kept, what was found of the later ones is found of all
pub found-later : (p : Product) (left right : List Flow) (found : Option Breach) → ((at : Place) → Keeps p left right Sizes at)
    → MatchOption found (AllByRecursion (λ rule. (at : Place) → Keeps p left right rule at) later_rules) (IsBreachAmong later_rules p left right)
    → MatchOption found (MeetsRules p left right) (IsProductBreach p left right)
found-later p left right None sizes kept = rules-met p left right (sizes, kept)
found-later p left right (Some breach) sizes h = breach-later p left right Sizes later_rules breach sizes h

all-of : {X : Type 0} (P : X → Type 0) (xs : List X) → ((k : ℕ) → IfSome (slice_get xs k) P) → All P xs
all-of P xs each = λ k d less. let at : slice_get xs k ≡ Some (get_or xs k d) = slice_get-get_or xs k d less in rw at at (each k)

-- of a product that meets the rules the ranks fall
pub ranks_fall : (p : Product) (left right : List Flow) → MeetsRules p left right → RanksFall p
ranks_fall p left right meets = record {
  two = (((meets Sizes (0, 0)).counts refl).two);
  low = all-of (HasLowRanks (length p.nodes)) p.nodes (λ k. meets Ranks (k, 0));
  lowers = λ k d less.
      let at : slice_get p.edges k ≡ Some (get_or p.edges k d) = slice_get-get_or p.edges k d less in
      let paths = rw at at (meets Paths (k, 0)) in
      let falls = rw at at (meets Falls (k, 0)) in
      record { target = paths.0.target; left = falls.left; right = falls.right };
}

abbrev rebuilt : ℕ → Place → Breach
rebuilt rule place = record { rule = rule; place = place }

same_breach : (a b : Breach) → a.rule ≡ b.rule → a.place ≡ b.place → a ≡ b
same_breach a b rules places = let same : rebuilt a.rule a.place ≡ rebuilt b.rule b.place = cc in same

-- there is one first breach at most
pub product_breach-once : (p : Product) (left right : List Flow) (a b : Breach) → IsProductBreach p left right a → IsProductBreach p left right b → a ≡ b
product_breach-once p left right a b one two =
    let same = first_breach-once (Keeps p left right) rule_order one.rule two.rule a.place b.place one.first two.first in
    let rules : one.rule ≡ two.rule = same.0 in
    let places : a.place ≡ b.place = same.1 in
    same_breach a b (cc (one.number, two.number)) places

-- so an answer with the first breach tells it and no other
pub breach-told : {T : Type 0} (p : Product) (left right : List Flow) (breach : Breach) (result : Result T Breach) → result ≡ Err breach
    → IsProductBreach p left right breach → (other : Breach) → (result ≡ Err other) ↔ IsProductBreach p left right other
breach-told p left right breach result told is other = (
  λ same. let one : breach ≡ other = cc in subst (IsProductBreach p left right) one is,
  λ h. let one = product_breach-once p left right breach other is h in cc,
)

-- where there is a breach the rules are not met
pub breach-unmet : (p : Product) (left right : List Flow) (breach : Breach) → IsProductBreach p left right breach → MeetsRules p left right → ⊥
breach-unmet p left right breach is meets = is.first.first.broken (meets is.rule breach.place)
