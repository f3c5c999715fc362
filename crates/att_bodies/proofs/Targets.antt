-- Where labels lead, both ways.
use Rattle.std.proofs.Common.{◌≡◌, ℕ, ◌+◌, ◌-◌, ◌^◌, min, Bool, true, false, cond, List, [], ◌∷◌, ◌++◌, Some, None, refl, sym, ap, ◌∙◌, zero-add, arith}
use Rattle.std.specs.List.{list_any, count_by}
use Rattle.std.proofs.lemmas.Bool.{or_from, or_parts}
use Rattle.text_lines.specs.Lines.{Item}
use Rattle.text_lines.specs.Statements.{FindsTargets}
use Rattle.att_bodies.specs.Body.{is_label, is_code, IsTarget}
use Rattle.att_bodies.specs.Reading.{count_of, target_from, target_of}
use Rattle.att_bodies.proofs.Counts.{count-cons}

-- where a name leads in the items behind n instructions
record IsTargetFrom (n : ℕ) (items : List Item) (name : List ℕ) (place : ℕ) : Type 0 where
  before : List Item
  label : Item
  after : List Item
  there : items ≡ before ++ label ∷ after
  named : is_label name label ≡ true
  first : list_any (is_label name) before ≡ false
  number : place ≡ min (n + count_by is_code before) (2 ^ 32 - 1)
  carried : list_any is_code after ≡ true

target-later : (n : ℕ) (i : Item) (is : List Item) (name : List ℕ) (place : ℕ) → is_label name i ≡ false → IsTargetFrom (n + count_of i) is name place → IsTargetFrom n (i ∷ is) name place
target-later n i is name place other h =
    let more : n + count_of i + count_by is_code h.before ≡ n + count_by is_code (i ∷ h.before) = omega (arith, count-cons is_code i h.before) in
    record {
      before = i ∷ h.before;
      label = h.label;
      after = h.after;
      there = ap (λ (x : List Item). i ∷ x) h.there;
      named = h.named;
      first = or_from (is_label name i) _ other h.first;
      number = h.number ∙ ap (λ m. min m (2 ^ 32 - 1)) more;
      carried = h.carried;
    }

target-here : (n : ℕ) (i : Item) (is : List Item) (name : List ℕ) (place : ℕ) (t : Bool) → list_any is_code is ≡ t → is_label name i ≡ true
    → cond t (Some (min n (2 ^ 32 - 1))) None ≡ Some place → IsTargetFrom n (i ∷ is) name place
target-here n i is name place false none here h = cc
target-here n i is name place true some here h =
    let same : place ≡ min n (2 ^ 32 - 1) = cc in
    let none : n ≡ n + 0 = omega arith in
    record { before = []; label = i; after = is; there = refl; named = here; first = refl; number = same ∙ ap (λ m. min m (2 ^ 32 - 1)) none; carried = some }

from-known : (n : ℕ) (items : List Item) (name : List ℕ) (place : ℕ) → target_from n items name ≡ Some place → IsTargetFrom n items name place
unfolding target_from
from-known n [] name place h = cc
from-known n (i ∷ is) name place h =
    elim (is_label name i) as (λ (t : Bool). is_label name i ≡ t
    → cond t (cond (list_any is_code is) (Some (min n (2 ^ 32 - 1))) None) (target_from (n + count_of i) is name) ≡ Some place → IsTargetFrom n (i ∷ is) name place) [
      | true ↦ λ e is_there. target-here n i is name place (list_any is_code is) refl e is_there
      | false ↦ λ e is_there. target-later n i is name place e (from-known (n + count_of i) is name place is_there)
    ] refl h

from-at : (n : ℕ) (before : List Item) (label : Item) (after : List Item) (name : List ℕ) → is_label name label ≡ true → list_any (is_label name) before ≡ false
    → list_any is_code after ≡ true → target_from n (before ++ label ∷ after) name ≡ Some (min (n + count_by is_code before) (2 ^ 32 - 1))
unfolding target_from
from-at n [] label after name named first carried =
    let none : n ≡ n + 0 = omega arith in
    ap (λ t. cond t (cond (list_any is_code after) (Some (min n (2 ^ 32 - 1))) None) (target_from (n + count_of label) after name)) named
    ∙ ap (λ t. cond t (Some (min n (2 ^ 32 - 1))) None) carried ∙ ap (λ m. Some (min m (2 ^ 32 - 1))) none
from-at n (b ∷ bs) label after name named first carried =
    let e = or_parts (is_label name b) (list_any (is_label name) bs) first in
    let rest = bs ++ label ∷ after in
    let more : n + count_of b + count_by is_code bs ≡ n + count_by is_code (b ∷ bs) = omega (arith, count-cons is_code b bs) in
    ap (λ t. cond t (cond (list_any is_code rest) (Some (min n (2 ^ 32 - 1))) None) (target_from (n + count_of b) rest name)) e.0
    ∙ from-at (n + count_of b) bs label after name named e.1 carried ∙ ap (λ m. Some (min m (2 ^ 32 - 1))) more

target-known : (body : List Item) (name : List ℕ) (place : ℕ) → target_of body name ≡ Some place → IsTarget body name place
unfolding target_of
target-known body name place h =
    let t = from-known 0 body name place h in
    record { before = t.before; label = t.label; after = t.after; there = t.there; named = t.named; first = t.first; number = t.number ∙ ap (λ m. min m (2 ^ 32 - 1)) (zero-add (count_by is_code t.before)); carried = t.carried }

target-only : (body : List Item) (name : List ℕ) (place : ℕ) → IsTarget body name place → target_of body name ≡ Some place
unfolding target_of
target-only body name place h =
    ap (λ (x : List Item). target_from 0 x name) h.there ∙ from-at 0 h.before h.label h.after name h.named h.first h.carried ∙ ap (λ n. Some n) (ap (λ m. min m (2 ^ 32 - 1)) (zero-add (count_by is_code h.before)) ∙ sym h.number)

-- the targets that are found are the body's
pub finds-targets : (body : List Item) → FindsTargets (target_of body) (IsTarget body)
finds-targets body = record { known = target-known body; only = target-only body }
