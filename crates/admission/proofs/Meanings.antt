-- The tests of the code decide what an admission says.
use Rattle.std.proofs.Common.{◌≡◌, ℕ, zero, suc, ◌%◌, ◌^◌, ◌<◌, ◌≤◌, Bool, false, eqb, leb, List, [], ◌∷◌, Option, Some, map, length, get_or, slice_get, slice_index, refl, sym, ap, ◌∙◌, subst, arith}
use Rattle.std.specs.Bool.{Decides}
use Rattle.std.specs.List.{AllByRecursion, list_all}
use Rattle.std.proofs.lemmas.Bool.{and_parts, and_from, le-leb, leb-true}
use Rattle.std.proofs.lemmas.Bool.Decides.{Decides-eqb, Decides-ltb, Decides-not}
use Rattle.std.proofs.lemmas.List.{length-map}
use Rattle.std.proofs.lemmas.Option.{same_Some, slice_get-get_or}
use Rattle.memory_spans.specs.declared.region.Region.{Region}
use Rattle.admission.specs.declared.expr.Term.{Term}
use Rattle.admission.specs.declared.expr.Expr.{Expr}
use Rattle.admission.specs.declared.admission.Rel.{Rel}
use Rattle.admission.specs.declared.admission.Rel.TheVariants.{Eq, Ne, Lt, Le, Slt, Sle}
use Rattle.admission.specs.declared.admission.Need.{Need}
use Rattle.admission.specs.declared.admission.Need.TheVariants.{Compare, Modulo}
use Rattle.admission.specs.declared.admission.RegionLine.{RegionLine}
use Rattle.admission.specs.declared.admission.Admission.{Admission}
use Rattle.admission.specs.Values.{sum_of, value_of}
use Rattle.admission.specs.WellFormed.{IsWellFormed}
use Rattle.admission.specs.Admitted.{AreApart, ArePairApart, IsAdmitted, IsMet, IsPlaced, Related, region_of, regions_of, signed_place}
use Rattle.admission.specs.Tests.{are_apart, are_related, is_admitted, is_clear, is_met, is_pair_apart, is_placed}
use Rattle.admission.proofs.Ranges.{Decides-apart, Decides-placed, IsOfWords}

-- a test of each element decides the fact of each, where it does so at elements that are W
pub Decides-all : {X : Type 0} (W P : X → Type 0) (test : X → Bool) → ((x : X) → W x → Decides (test x) (P x))
    → (xs : List X) → AllByRecursion W xs → Decides (list_all test xs) (AllByRecursion P xs)
Decides-all W P test each [] w = ((λ h. tt), λ h. refl)
Decides-all W P test each (x ∷ xs) w =
    let here = each x w.0 in
    let rest = Decides-all W P test each xs w.1 in
    ((λ h. let p = and_parts (test x) (list_all test xs) h in (here.0 p.0, rest.0 p.1)), λ h. and_from (test x) (list_all test xs) (here.1 h.0) (rest.1 h.1))

-- what holds of each holds of one
pub all_at : {X : Type 0} (P : X → Type 0) (xs : List X) (i : ℕ) (x : X) → AllByRecursion P xs → slice_get xs i ≡ Some x → P x
all_at P [] i x all is = absurd (cc)
all_at P (y ∷ ys) zero x all is = let same : y ≡ x = cc in subst P same all.0
all_at P (y ∷ ys) (suc i) x all is = all_at P ys i x all.1 is

-- what holds of all values of a function holds of each
pub all_map : {X Y : Type 0} (P : Y → Type 0) (f : X → Y) → ((x : X) → P (f x)) → (xs : List X) → AllByRecursion P (map f xs)
all_map P f each [] = tt
all_map P f each (x ∷ xs) = (each x, all_map P f each xs)

Decides-leb : (a b : ℕ) → Decides (leb a b) (a ≤ b)
Decides-leb a b = (leb-true a b, le-leb a b)

Decides-related : (rel : Rel) (a b : ℕ) → Decides (are_related rel a b) (Related rel a b)
Decides-related Eq a b = Decides-eqb a b
Decides-related Ne a b = Decides-not (eqb a b) (Decides-eqb a b)
Decides-related Lt a b = Decides-ltb a b
Decides-related Le a b = Decides-leb a b
Decides-related Slt a b = Decides-ltb (signed_place a) (signed_place b)
Decides-related Sle a b = Decides-leb (signed_place a) (signed_place b)

Decides-met : (regs : List ℕ) (n : Need) → Decides (is_met regs n) (IsMet regs n)
Decides-met regs (Compare a rel b) = Decides-related rel (value_of regs a) (value_of regs b)
Decides-met regs (Modulo a m r) = Decides-eqb (value_of regs a % m) r

-- a value has 64 bits
pub value-below : (regs : List ℕ) (e : Expr) → value_of regs e < 2 ^ 64
value-below regs e = sum-below regs e.terms
  where
    sum-below : (regs : List ℕ) (ts : List Term) → sum_of regs ts < 2 ^ 64
    sum-below regs [] = omega arith
    sum-below regs (t ∷ ts) = omega arith

region-words : (regs : List ℕ) (line : RegionLine) → IsOfWords (region_of regs line)
region-words regs line = record { base = value-below regs line.base; len = value-below regs line.len }

regions-words : (regs : List ℕ) (a : Admission) → AllByRecursion IsOfWords (regions_of regs a)
regions-words regs a = all_map IsOfWords (region_of regs) (region-words regs) a.regions

Decides-pair : (pointer stack : ℕ) (regions : List Region) → AllByRecursion IsOfWords regions → AllByRecursion (IsPlaced pointer stack) regions
    → (p : ℕ × ℕ) → (p.0 < length regions) × (p.1 < length regions) → Decides (is_pair_apart regions p) (ArePairApart regions p)
Decides-pair pointer stack regions words placed p inside =
    let none : Region = record { base = 0; len = 0; write = false } in
    let r : Region = get_or regions p.0 none in
    let s : Region = get_or regions p.1 none in
    let first : slice_get regions p.0 ≡ Some r = slice_get-get_or regions p.0 none inside.0 in
    let second : slice_get regions p.1 ≡ Some s = slice_get-get_or regions p.1 none inside.1 in
    let both = Decides-apart r s (all_at IsOfWords regions p.0 r words first) (all_at IsOfWords regions p.1 s words second)
    (all_at (IsPlaced pointer stack) regions p.0 r placed first).fits (all_at (IsPlaced pointer stack) regions p.1 s placed second).fits in
    let at : is_pair_apart regions p ≡ is_clear r.base r.len s.base s.len = ap (λ (o : Option Region). are_apart o (slice_get regions p.1)) first ∙ ap (λ (o : Option Region). are_apart (Some r) o) second in (
      (λ h x y is_x is_y.
          let same_x : r ≡ x = same_Some r x (sym first ∙ is_x) in
          let same_y : s ≡ y = same_Some s y (sym second ∙ is_y) in
          subst (λ (v : Region). AreApart v y) same_x (subst (λ (v : Region). AreApart r v) same_y (both.0 (sym at ∙ h)))),
      λ h. at ∙ both.1 (h r s first second),
    )

all_always : {X : Type 0} (xs : List X) → AllByRecursion (λ x. Unit {0}) xs
all_always [] = tt
all_always (x ∷ xs) = (tt, all_always xs)

-- the code's test of entry registers decides whether they are admitted
pub Decides-admitted : (a : Admission) (regs : List ℕ) → IsWellFormed a → Decides (is_admitted a regs) (IsAdmitted a regs)
Decides-admitted a regs w =
    let pointer : ℕ = slice_index regs 4 in
    let regions : List Region = regions_of regs a in
    let words = regions-words regs a in
    let placed = Decides-all IsOfWords (IsPlaced pointer a.stack) (is_placed pointer a.stack) (Decides-placed pointer a.stack) regions words in
    let met = Decides-all (λ n. Unit {0}) (IsMet regs) (is_met regs) (λ n always. Decides-met regs n) a.needs (all_always a.needs) in
    let inside : AllByRecursion (λ (p : ℕ × ℕ). (p.0 < length regions) × (p.1 < length regions)) a.aparts =
    subst (λ (n : ℕ). AllByRecursion (λ (p : ℕ × ℕ). (p.0 < n) × (p.1 < n)) a.aparts) (sym (length-map a.regions (region_of regs))) w.aparts in
    let apart : AllByRecursion (IsPlaced pointer a.stack) regions → Decides (list_all (is_pair_apart regions) a.aparts) (AllByRecursion (ArePairApart regions) a.aparts) =
    λ all. Decides-all (λ (p : ℕ × ℕ). (p.0 < length regions) × (p.1 < length regions)) (ArePairApart regions) (is_pair_apart regions)
    (Decides-pair pointer a.stack regions words all) a.aparts inside in (
      (λ h.
          let p = and_parts (list_all (is_placed pointer a.stack) regions) _ h in
          let q = and_parts (list_all (is_met regs) a.needs) (list_all (is_pair_apart regions) a.aparts) p.1 in
          let all = placed.0 p.0 in
          record { placed = all; met = met.0 q.0; apart = (apart all).0 q.1 }),
      λ h. and_from (list_all (is_placed pointer a.stack) regions) _ (placed.1 h.placed)
          (and_from (list_all (is_met regs) a.needs) (list_all (is_pair_apart regions) a.aparts) (met.1 h.met) ((apart h.placed).1 h.apart)),
    )
