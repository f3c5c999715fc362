-- Single arguments: what the code makes of one is what the rule says.
use Rattle.std.proofs.Common.{◌≡◌, ◌≢◌, ◌⊎◌, inl, inr, ℕ, suc, ◌+◌, ◌<◌, Bool, true, false, cond, not, ◌&&◌, List, [], ◌∷◌, ◌++◌, length, take, drop, get_or, Option, Some, None, refl, sym, ◌∙◌, ap, subst, arith, bytes_eq, codes, eqb}
use Rattle.std.specs.Prelude.{⊤}
use Rattle.std.specs.List.{after_first, before_first, list_all, position_or_len, prefix_len}
use Rattle.std.proofs.Math.Seq.{take-append_seam, drop-append-add}
use Rattle.std.proofs.lemmas.Bool.Decides.{nat_tests}
use Rattle.std.proofs.lemmas.Bool.{and_parts, eqb-false, eqb-true, ne_eqb}
use Rattle.std.proofs.lemmas.List.{length-append}
use Rattle.std.proofs.lemmas.List.Sums.{prefix_len-le-length, prefix_len_stops, split_at_first}
use Rattle.std.proofs.lemmas.Slice.Eq.{bytes_eq-Decides}
use Rattle.command_line.specs.Parts.{IsFlag, is_bare, is_long}
use Rattle.command_line.specs.Reading.{AllPlain, Bare, Item, Mode, Nothing, Usual, ValueOf, WithValue, dashed_turn, is_equals, usual_turn}

abbrev no_equals : ℕ → Bool
no_equals b = not (is_equals b)

-- the bytes before the first `=` have none
before-free : (w : List ℕ) → list_all no_equals (before_first is_equals w) ≡ true
before-free [] = refl
before-free (b ∷ bs) = go (no_equals b) refl (before-free bs)
  where
    go : (t : Bool) → no_equals b ≡ t → list_all no_equals (before_first is_equals bs) ≡ true
        → list_all no_equals (take (cond t (1 + prefix_len no_equals bs) 0) (b ∷ bs)) ≡ true
    go true e rest =
        let more : 1 + prefix_len no_equals bs ≡ suc (prefix_len no_equals bs) = omega arith in
        subst (λ (k : ℕ). list_all no_equals (take k (b ∷ bs)) ≡ true) (sym more) (rw e rest)
    go false e rest = refl

-- a text in which no `=` is found has none
free-known : (w : List ℕ) → position_or_len is_equals w ≡ length w → list_all no_equals w ≡ true
free-known [] h = refl
free-known (b ∷ bs) h = go (no_equals b) refl h (free-known bs)
  where
    go : (t : Bool) → no_equals b ≡ t → cond t (1 + prefix_len no_equals bs) 0 ≡ length (b ∷ bs)
        → (position_or_len is_equals bs ≡ length bs → list_all no_equals bs ≡ true) → list_all no_equals (b ∷ bs) ≡ true
    go true e h rest = rw e (rest (omega arith))
    go false e h rest = absurd (omega arith)

free-place : (w : List ℕ) → list_all no_equals w ≡ true → position_or_len is_equals w ≡ length w
free-place [] h = refl
free-place (b ∷ bs) h =
    let p = and_parts (no_equals b) (list_all no_equals bs) h in
    rw p.0 (omega (arith, free-place bs p.1))

-- the first `=` behind a text that has none
first-place : (f v : List ℕ) → list_all no_equals f ≡ true → position_or_len is_equals (f ++ 61 ∷ v) ≡ length f
first-place [] v h = refl
first-place (b ∷ bs) v h =
    let p = and_parts (no_equals b) (list_all no_equals bs) h in
    rw p.0 (omega (arith, first-place bs v p.1))

not-false : (b : Bool) → not b ≡ false → b ≡ true
not-false true h = refl
not-false false h = cc

-- a text that has an `=` is what stands before the first, it, and what stands behind
cut-first : (w : List ℕ) → position_or_len is_equals w ≢ length w → w ≡ before_first is_equals w ++ 61 ∷ after_first is_equals w
cut-first w some =
    let low : position_or_len is_equals w < length w = omega (arith, prefix_len-le-length no_equals w) in
    let stop = not-false (is_equals (get_or w (position_or_len is_equals w) 61)) (prefix_len_stops no_equals w 61 low) in
    let is : get_or w (position_or_len is_equals w) 61 ≡ 61 = eqb-true (get_or w (position_or_len is_equals w) 61) 61 stop in
    split_at_first is_equals w 61 low ∙ ap (λ b. before_first is_equals w ++ b ∷ after_first is_equals w) is

-- what a turn says of an argument where nothing is open
abbrev pub IsUsualTurn : List ℕ → Item → Mode → Type 0
IsUsualTurn w Nothing next = ((w ≡ codes "--") × (next ≡ AllPlain)) ⊎ (IsFlag w × (next ≡ ValueOf w))
IsUsualTurn w (Bare x) next = (is_bare w ≡ true) × (x ≡ w) × (next ≡ Usual)
IsUsualTurn w (WithValue o) next = IsFlag o.flag × (o.value ≢ []) × (w ≡ o.flag ++ 61 ∷ o.value) × (next ≡ Usual)

-- a claim on an argument's turn, where it is not refused
abbrev pub OfTurn : (Item → Mode → Type 0) → Option (Item × Mode) → Type 0
OfTurn Claim None = ⊤
OfTurn Claim (Some t) = Claim t.0 t.1

named : (w : List ℕ) (long : Bool) → is_long w ≡ long → list_all no_equals w ≡ true → OfTurn (IsUsualTurn w) (cond long (Some (Nothing, ValueOf w)) None)
named w true long free = inr (record { long = long; no_equals = free }, refl)
named w false long free = tt

abbrev before_of : List ℕ → List ℕ
before_of w = before_first is_equals w

abbrev after_of : List ℕ → List ℕ
after_of w = after_first is_equals w

valued : (w : List ℕ) (long empty : Bool) → is_long (before_of w) ≡ long → eqb (length (after_of w)) 0 ≡ empty → position_or_len is_equals w ≢ length w
    → OfTurn (IsUsualTurn w) (cond (long && not empty) (Some (WithValue (record { flag = before_of w; value = after_of w }), Usual)) None)
valued w true false long empty some = (
  record { long = long; no_equals = before-free w },
  λ none. eqb-false (length (after_of w)) 0 empty (ap length none),
  cut-first w some,
  refl,
)
valued w true true long empty some = tt
valued w false false long empty some = tt
valued w false true long empty some = tt

dashed-known : (w : List ℕ) → OfTurn (IsUsualTurn w) (dashed_turn w)
unfolding dashed_turn
dashed-known w = go (eqb (position_or_len is_equals w) (length w)) refl
  where
    go : (t : Bool) → eqb (position_or_len is_equals w) (length w) ≡ t
        → OfTurn (IsUsualTurn w) (cond t (cond (is_long w) (Some (Nothing, ValueOf w)) None)
        (cond (is_long (before_of w) && not (eqb (length (after_of w)) 0)) (Some (WithValue (record { flag = before_of w; value = after_of w }), Usual)) None))
    go true e = named w (is_long w) refl (free-known w (eqb-true (position_or_len is_equals w) (length w) e))
    go false e = valued w (is_long (before_of w)) (eqb (length (after_of w)) 0) refl refl (eqb-false (position_or_len is_equals w) (length w) e)

-- a turn says what the argument is
pub turn-known : (w : List ℕ) → OfTurn (IsUsualTurn w) (usual_turn w)
unfolding usual_turn
turn-known w = go (is_bare w) (bytes_eq w (codes "--")) refl refl
  where
    go : (bare dashes : Bool) → is_bare w ≡ bare → bytes_eq w (codes "--") ≡ dashes
        → OfTurn (IsUsualTurn w) (cond bare (Some (Bare w, Usual)) (cond dashes (Some (Nothing, AllPlain)) (dashed_turn w)))
    go true dashes bare test = (bare, refl, refl)
    go false true bare test = inl ((bytes_eq-Decides w (codes "--")).0 test, refl)
    go false false bare test = dashed-known w

-- a long text before any other is neither plain nor `--`
long-bare : (f v : List ℕ) → is_long f ≡ true → is_bare (f ++ v) ≡ false
long-bare [] v h = cc
long-bare (a ∷ []) v h = cc
long-bare (a ∷ b ∷ []) v h = cc
long-bare (a ∷ b ∷ c ∷ rest) v h = let p = and_parts (eqb a 45) (eqb b 45) h in rw p.0 refl

long-dashes : (f v : List ℕ) → is_long f ≡ true → bytes_eq (f ++ v) (codes "--") ≡ false
long-dashes [] v h = cc
long-dashes (a ∷ []) v h = cc
long-dashes (a ∷ b ∷ []) v h = cc
long-dashes (a ∷ b ∷ c ∷ rest) v h = let p = and_parts (eqb a 45) (eqb b 45) h in rw (p.0, p.1) refl

long-alone : (f : List ℕ) → is_long f ≡ true → (is_bare f ≡ false) × (bytes_eq f (codes "--") ≡ false)
long-alone [] h = cc
long-alone (a ∷ []) h = cc
long-alone (a ∷ b ∷ []) h = cc
long-alone (a ∷ b ∷ c ∷ rest) h = let p = and_parts (eqb a 45) (eqb b 45) h in (rw p.0 refl, rw (p.0, p.1) refl)

some-length : (v : List ℕ) → v ≢ [] → eqb (length v) 0 ≡ false
some-length [] some = absurd (some refl)
some-length (b ∷ bs) some = ne_eqb (length (b ∷ bs)) 0 (λ e. omega arith)

-- a plain argument
pub bare-turn : (w : List ℕ) → is_bare w ≡ true → usual_turn w ≡ Some (Bare w, Usual)
unfolding usual_turn
bare-turn w bare = rw bare refl

-- an option with its value
pub joined-turn : (f v : List ℕ) → IsFlag f → v ≢ [] → usual_turn (f ++ 61 ∷ v) ≡ Some (WithValue (record { flag = f; value = v }), Usual)
unfolding usual_turn dashed_turn
joined-turn f v flag some =
    let place = first-place f v flag.no_equals in
    let other : eqb (position_or_len is_equals (f ++ 61 ∷ v)) (length (f ++ 61 ∷ v)) ≡ false =
    ne_eqb (position_or_len is_equals (f ++ 61 ∷ v)) (length (f ++ 61 ∷ v)) (λ e. omega (arith, place, length-append f (61 ∷ v))) in
    let before : before_of (f ++ 61 ∷ v) ≡ f = ap (λ n. take n (f ++ 61 ∷ v)) place ∙ take-append_seam f (61 ∷ v) in
    let after : after_of (f ++ 61 ∷ v) ≡ v = ap (λ n. drop (n + 1) (f ++ 61 ∷ v)) place ∙ drop-append-add f (61 ∷ v) 1 in
    rw (long-bare f (61 ∷ v) flag.long, long-dashes f (61 ∷ v) flag.long, other, before, after, flag.long, some-length v some) refl

-- the name of an option
pub named-turn : (f : List ℕ) → IsFlag f → usual_turn f ≡ Some (Nothing, ValueOf f)
unfolding usual_turn dashed_turn
named-turn f flag =
    let place = free-place f flag.no_equals in
    let same : eqb (position_or_len is_equals f) (length f) ≡ true = grind (arith, nat_tests) in
    let alone = long-alone f flag.long in
    rw (alone.0, alone.1, same, flag.long) refl
