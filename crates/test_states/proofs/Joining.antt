-- Ranges that stand by their first addresses, joined where they touch or overlap.
use Rattle.std.proofs.Common.{◌≡◌, ℕ, ◌+◌, ◌-◌, ◌^◌, ◌<◌, ◌≤◌, Bool, true, false, ◌&&◌, ◌||◌, nat_le, List, [], ◌∷◌, ◌++◌, Some, Result, Ok, Err, IfOk, Vec, length, get_or, slice_get, take, max, refl, sym, ◌∙◌, ap, subst, arith}
use Rattle.std.specs.List.{All}
use Rattle.std.specs.List.Sorted.{IsNonDecreasingBy, IsPermutation}
use Rattle.std.proofs.lemmas.Bool.Decides.{nat_tests}
use Rattle.std.proofs.lemmas.List.{get_or_default, take_all, take_more}
use Rattle.std.proofs.lemmas.List.Folds.{list_any-append}
use Rattle.std.proofs.lemmas.List.Sorted.{list_any-IsPermutation}
use Rattle.std.specs.declared.alloc.Global.{Global}
use Rattle.test_states.specs.declared.range.Range.{Range}
use Rattle.test_states.specs.Ranges.{AreApart, IsRange, is_covered, range_has}

-- ranges joined so far: those that are done, the last one, which may still grow, and those that were read
pub record AreJoined (done : List Range) (current : Range) (read : List Range) : Type 0 where
  pub apart : AreApart 0 done current.first
  pub covered : (x : ℕ) → is_covered (done ++ current ∷ []) x ≡ is_covered read x

-- one range more behind others
pub apart_more : (from : ℕ) (ranges : List Range) (r : Range) (to : ℕ) → AreApart from ranges r.first → r.first ≤ r.last → r.last + 2 ≤ to
    → AreApart from (ranges ++ r ∷ []) to
apart_more from [] r to apart ordered below = (apart, ordered, omega arith)
apart_more from (s ∷ ss) r to apart ordered below = (apart.0, apart.1, apart_more (s.last + 2) ss r to apart.2 ordered below)

-- a range that touches or overlaps one that begins no later, joined to it
pub joined-has : (x a b c d : ℕ) → a ≤ b → c ≤ d → a ≤ c → c - b ≤ 1
    → (nat_le a x && nat_le x (max b d)) ≡ ((nat_le a x && nat_le x b) || (nat_le c x && nat_le x d))
joined-has x a b c d left right begins touch = grind (arith, nat_tests)

or-regroup : (a b c : Bool) → (a || (b || c)) ≡ ((a || b) || c)
or-regroup true b c = refl
or-regroup false b c = refl

or-false : (a : Bool) → (a || false) ≡ a
or-false true = refl
or-false false = refl

covered-more : (ranges : List Range) (r : Range) (x : ℕ) → is_covered (ranges ++ r ∷ []) x ≡ (is_covered ranges x || range_has x r)
covered-more ranges r x = list_any-append (range_has x) ranges (r ∷ []) ∙ ap (λ b. is_covered ranges x || b) (or-false (range_has x r))

-- the next range is joined to the last one
pub join_current : (done read : List Range) (current next grown : Range) → AreJoined done current read
    → current.first ≤ current.last → next.first ≤ next.last → current.first ≤ next.first → next.first - current.last ≤ 1
    → grown.first ≡ current.first → grown.last ≡ max current.last next.last → AreJoined done grown (read ++ next ∷ [])
join_current done read current next grown j ordered also begins touch first last = record {
  apart = rw first j.apart;
  covered = λ x. covered-more done grown x
      ∙ ap (λ b. is_covered done x || b) (rw (first, last) (joined-has x current.first current.last next.first next.last ordered also begins touch))
      ∙ or-regroup (is_covered done x) (range_has x current) (range_has x next)
      ∙ ap (λ b. b || range_has x next) (sym (covered-more done current x) ∙ j.covered x)
      ∙ sym (covered-more read next x);
}

-- the next range begins behind the last one
pub push_current : (done read : List Range) (current next : Range) → AreJoined done current read
    → current.first ≤ current.last → current.last + 2 ≤ next.first → AreJoined (done ++ current ∷ []) next (read ++ next ∷ [])
push_current done read current next j ordered behind = record {
  apart = apart_more 0 done current next.first j.apart ordered behind;
  covered = λ x. covered-more (done ++ current ∷ []) next x ∙ ap (λ b. b || range_has x next) (j.covered x) ∙ sym (covered-more read next x);
}

-- the first range by itself
pub join_first : (ranges : List Range) (first also : Range) → slice_get ranges 0 ≡ Some first → slice_get ranges 0 ≡ Some also
    → AreJoined [] first (also ∷ [])
join_first ranges first also is too = let same : first ≡ also = cc in record { apart = omega arith; covered = λ x. rw same refl }

or-twice : (a b : Bool) → (a || (a || b)) ≡ (a || b)
or-twice true b = refl
or-twice false b = refl

-- the first range stands among all
pub covered-first : (ranges : List Range) (first : Range) (x : ℕ) → slice_get ranges 0 ≡ Some first → is_covered (first ∷ ranges) x ≡ is_covered ranges x
covered-first [] first x is = cc
covered-first (r ∷ rs) first x is = let same : r ≡ first = cc in rw same (or-twice (range_has x first) (is_covered rs x))

-- The state of joining after i ranges: the first one and these are joined, the last one is a range, and none of those to
-- come begins before it.
pub record IsJoining (ranges : List Range) (i : ℕ) (done : List Range) (current : Range) : Type 0 where
  pub joined : (first : Range) → slice_get ranges 0 ≡ Some first → AreJoined done current (first ∷ take i ranges)
  pub ordered : current.first ≤ current.last
  pub later : (k : ℕ) (d : Range) → i ≤ k → k < length ranges → current.first ≤ (get_or ranges k d).first

first_is_range : (ranges : List Range) (first : Range) → slice_get ranges 0 ≡ Some first → All IsRange ranges → first.first ≤ first.last
first_is_range [] first is all = cc
first_is_range (r ∷ rs) first is all = let same : r ≡ first = cc in subst IsRange same (all 0 r (omega arith))

first_begins : (ranges : List Range) (first : Range) (k : ℕ) (d : Range) → slice_get ranges 0 ≡ Some first → IsNonDecreasingBy (λ (r : Range). r.first) ranges
    → k < length ranges → first.first ≤ (get_or ranges k d).first
first_begins [] first k d is sorted below = cc
first_begins (r ∷ rs) first k d is sorted below =
    let same : r ≡ first = cc in
    subst (λ (q : Range). q.first ≤ (get_or (r ∷ rs) k d).first) same (sorted 0 k d (omega arith) below)

pub joining_starts : (ranges : List Range) (first : Range) → slice_get ranges 0 ≡ Some first → All IsRange ranges
    → IsNonDecreasingBy (λ (r : Range). r.first) ranges → IsJoining ranges 0 [] first
joining_starts ranges first is all sorted = record {
  joined = λ also too. join_first ranges first also is too;
  ordered = first_is_range ranges first is all;
  later = λ k d low below. first_begins ranges first k d is sorted below;
}

pub joining_grows : (ranges : List Range) (i : ℕ) (done : List Range) (current grown d : Range) → IsJoining ranges i done current
    → i < length ranges → All IsRange ranges → (get_or ranges i d).first - current.last ≤ 1 → grown.first ≡ current.first
    → grown.last ≡ max current.last (get_or ranges i d).last → IsJoining ranges (i + 1) done grown
joining_grows ranges i done current grown d j below all touch first last = record {
  joined = λ start is. rw (take_more ranges i d below)
      (join_current done (start ∷ take i ranges) current (get_or ranges i d) grown (j.joined start is) j.ordered (all i d below) (j.later i d (omega arith) below) touch first last);
  ordered = (let o : current.first ≤ current.last = j.ordered in omega arith);
  later = λ k e low high. (let l : current.first ≤ (get_or ranges k e).first = j.later k e (omega arith) high in omega arith);
}

pub joining_goes_on : (ranges : List Range) (i : ℕ) (done : List Range) (current d : Range) → IsJoining ranges i done current
    → i < length ranges → All IsRange ranges → IsNonDecreasingBy (λ (r : Range). r.first) ranges → 1 < (get_or ranges i d).first - current.last
    → IsJoining ranges (i + 1) (done ++ current ∷ []) (get_or ranges i d)
joining_goes_on ranges i done current d j below all sorted behind = record {
  joined = λ start is. rw (take_more ranges i d below)
      (push_current done (start ∷ take i ranges) current (get_or ranges i d) (j.joined start is) j.ordered (omega arith));
  ordered = all i d below;
  later = λ k e low high. rw (get_or_default ranges i d e below) (sorted i k e (omega arith) high);
}

pub joining_is_apart : (ranges : List Range) (first : Range) (i : ℕ) (done : List Range) (current : Range) → slice_get ranges 0 ≡ Some first
    → IsJoining ranges i done current → current.last < 2 ^ 64 → AreApart 0 (done ++ current ∷ []) (2 ^ 64 + 1)
joining_is_apart ranges first i done current is j below = apart_more 0 done current (2 ^ 64 + 1) (j.joined first is).apart j.ordered (omega arith)

pub joining_covers : (ranges : List Range) (first : Range) (i : ℕ) (done : List Range) (current : Range) (x : ℕ) → slice_get ranges 0 ≡ Some first
    → length ranges ≤ i → IsJoining ranges i done current → is_covered (done ++ current ∷ []) x ≡ is_covered ranges x
joining_covers ranges first i done current x is all j =
    (j.joined first is).covered x ∙ ap (λ rs. is_covered (first ∷ rs) x) (take_all i ranges all) ∙ covered-first ranges first x is

if_ok : {A E : Type 0} (r : Result A E) (P Q : A → Type 0) → ((a : A) → P a → Q a) → IfOk r P → IfOk r Q
if_ok (Ok a) P Q f h = f a h
if_ok (Err e) P Q f h = tt

-- what joined ranges cover, when they were joined in another order
pub joined_covers : {E : Type 0} (r : Result (Vec Range Global) E) (there read : List Range) (C : ℕ → Bool)
    → IfOk r (λ joined. (x : ℕ) → is_covered joined.items x ≡ is_covered there x) → IsPermutation read there
    → ((x : ℕ) → x < 2 ^ 64 → is_covered read x ≡ C x) → IfOk r (λ joined. (x : ℕ) → x < 2 ^ 64 → is_covered joined.items x ≡ C x)
joined_covers r there read C covers moved so_far =
    if_ok r (λ joined. (x : ℕ) → is_covered joined.items x ≡ is_covered there x) (λ joined. (x : ℕ) → x < 2 ^ 64 → is_covered joined.items x ≡ C x)
    (λ joined covered x below. covered x ∙ sym (list_any-IsPermutation (range_has x) read there moved) ∙ so_far x below) covers
