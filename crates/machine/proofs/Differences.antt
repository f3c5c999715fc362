-- Differences of states: equal vectors, the first differing byte of spans, and that there is one first difference at most.
use Rattle.std.proofs.Common.{◌≡◌, ◌⊎◌, inl, inr, ℕ, zero, suc, ◌+◌, ◌/◌, ◌%◌, ◌^◌, ◌<◌, ◌≤◌, Bool, true, false, eqb, Decides, MatchBool, List, [], ◌∷◌, Option, None, IfNone, IfSome, min, drop, length, take, slice_get, if◌then◌else◌, Some, refl, sym, ◌∙◌, ap, subst, arith}
use Rattle.std.proofs.Math.Nat.{mod-eq_of_lt}
use Rattle.std.specs.Cmp.Lexicographic.{pointwise}
use Rattle.std.proofs.lemmas.Bool.{cases_Bool, cases_lt, false≢true}
use Rattle.std.proofs.lemmas.Bool.Decides.{Decides-eqb}
use Rattle.std.proofs.lemmas.Grind.{common_steps}
use Rattle.std.proofs.lemmas.Option.{get_or_from_slice_get, slice_get_within}
use Rattle.std.proofs.lemmas.Slice.Eq.{slice_eq-Decides}
use Rattle.insn_ops.specs.declared.output.Output.{Output}
use Rattle.insn_ops.specs.declared.output.Output.TheVariants.{Vec}
use Rattle.machine.specs.declared.difference.Difference.{Difference}
use Rattle.machine.specs.declared.difference.Difference.TheVariants.{Out, Byte}
use Rattle.memory_spans.specs.declared.span.Span.{Span}
use Rattle.machine.specs.Difference.{Agree, IsFirstByte, IsFirstDifference, IsFirstOutput, OtherByte, SameByte, SameEnd}
use Rattle.machine.specs.Differing.{AreSame, IsFirstAmong, lesser}
use Rattle.memory_spans.specs.Spans.{AreOrdered, byte_of, is_spanned, spans_address}
use Rattle.machine.specs.Kept.{Kept, pure_of}
use Rattle.machine.specs.Machine.{Machine}
use Rattle.memory_spans.proofs.Ordering.{addressed_from}

by_test : (b : Bool) (P : Type 0) → Decides b P → MatchBool b P (P → ⊥)
by_test true P d = d.0 refl
by_test false P d = λ p. false≢true (d.1 p)

-- two vectors agree in an output as their first bytes do
pub vectors_agree : (s t : Machine) (n w : ℕ) (x y : List ℕ) (r : Bool) → slice_get s.vecs n ≡ Some x → slice_get t.vecs n ≡ Some y
    → r ≡ pointwise eqb (take (w / 8) x) (take (w / 8) y) → MatchBool r (Agree s t (Vec n w)) (Agree s t (Vec n w) → ⊥)
vectors_agree s t n w x y r here there e =
    rw (get_or_from_slice_get s.vecs n x [] here, get_or_from_slice_get t.vecs n y [] there)
    (by_test r (take (w / 8) x ≡ take (w / 8) y) (slice_eq-Decides Decides-eqb (take (w / 8) x) (take (w / 8) y) r e))

-- the first differing byte of a span
pub first_of_span : (span : Span) (scratch : List (ℕ × ℕ)) (s t : Machine) (i : ℕ)
    → ((x : ℕ) → span.at ≤ x → x < span.at + i → SameByte scratch s t x) → OtherByte scratch s t (span.at + i)
    → IsFirstAmong (spans_address span) scratch s t (span.at + i)
first_of_span span scratch s t i before other = record { other = other; first = λ x below among. before x (addressed_from span x among).0 below }

-- no address of spans lies below the first one
spanned_from : (from : ℕ) (spans : List Span) (x : ℕ) → AreOrdered from spans → is_spanned spans x ≡ true → from ≤ x
spanned_from from [] x o h = absurd (false≢true h)
spanned_from from (span ∷ spans) x o h = elim (spans_address span x) as (λ v. spans_address span x ≡ v → (if v then true else is_spanned spans x) ≡ true → from ≤ x) [
  | true ↦ (λ e k. omega (arith, o.0, (addressed_from span x e).0))
  | false ↦ (λ e k. omega (arith, o.0, spanned_from (span.at + length span.bytes.items) spans x o.2 k))
] refl h

-- what comes after span i lies above it
pub above_span : (from : ℕ) (spans : List Span) (i : ℕ) (span : Span) (x : ℕ) → AreOrdered from spans → slice_get spans i ≡ Some span
    → is_spanned (drop (suc i) spans) x ≡ true → span.at + length span.bytes.items ≤ x
above_span from [] i span x o e h = absurd (false≢true h)
above_span from (s ∷ ss) zero span x o e h =
    let same : s ≡ span = cc in
    subst (λ (y : Span). y.at + length y.bytes.items ≤ x) same (spanned_from (s.at + length s.bytes.items) ss x o.2 h)
above_span from (s ∷ ss) (suc i) span x o e h = above_span (s.at + length s.bytes.items) ss i span x o.2 e h

-- an address of the spans from i on is one of span i or of those after it
pub spanned_next : (spans : List Span) (i : ℕ) (span : Span) (x : ℕ) → slice_get spans i ≡ Some span
    → is_spanned (drop i spans) x ≡ (if spans_address span x then true else is_spanned (drop (suc i) spans) x)
spanned_next [] i span x e = cc
spanned_next (s ∷ ss) zero span x e = let same : s ≡ span = cc in rw same refl
spanned_next (s ∷ ss) (suc i) span x e = spanned_next ss i span x e

choice : (b c : Bool) → (if b then true else c) ≡ true → (b ≡ true) ⊎ (c ≡ true)
choice true c h = inl refl
choice false c h = inr h

-- where no byte of the spans before i differs, and none of span i does
pub same_so_far : (spans : List Span) (i : ℕ) (span : Span) (scratch : List (ℕ × ℕ)) (s t : Machine) (x : ℕ) → slice_get spans i ≡ Some span
    → (is_spanned (drop i spans) x ≡ true) ⊎ SameByte scratch s t x → AreSame (spans_address span) scratch s t
    → (is_spanned (drop (suc i) spans) x ≡ true) ⊎ SameByte scratch s t x
same_so_far spans i span scratch s t x e (inr same) here = inr same
same_so_far spans i span scratch s t x e (inl among) here =
    elim (choice (spans_address span x) (is_spanned (drop (suc i) spans) x) (sym (spanned_next spans i span x e) ∙ among)) [
      | inl addressed ↦ inr (here x addressed)
      | inr later ↦ inl later
    ]

-- the first differing byte of span i is that of all spans, where none of the spans before it has one
pub first_of_spans : (spans : List Span) (i : ℕ) (span : Span) (scratch : List (ℕ × ℕ)) (s t : Machine) (at : ℕ) → AreOrdered 0 spans → slice_get spans i ≡ Some span
    → ((x : ℕ) → is_spanned spans x ≡ true → (is_spanned (drop i spans) x ≡ true) ⊎ SameByte scratch s t x)
    → IsFirstAmong (spans_address span) scratch s t at → at < span.at + length span.bytes.items
    → IsFirstAmong (is_spanned spans) scratch s t at
first_of_spans spans i span scratch s t at o e before here within = record {
  other = here.other;
  first = λ x below among. elim (before x among) [
    | inr same ↦ same
    | inl coming ↦ elim (choice (spans_address span x) (is_spanned (drop (suc i) spans) x) (sym (spanned_next spans i span x e) ∙ coming)) [
      | inl addressed ↦ here.first x below addressed
      | inr later ↦ absurd (omega (arith, within, below, above_span 0 spans i span x o e later))
    ]
  ];
}

-- a byte of no span is 0
unspanned : (spans : List Span) (x : ℕ) → is_spanned spans x ≡ false → byte_of spans x ≡ 0
unspanned [] x h = refl
unspanned (span ∷ spans) x h = grind (arith, common_steps, unspanned spans x)

-- the bytes at an address are the same where those of spans that have it are
same_of_both : (s t : Kept) (scratch : List (ℕ × ℕ)) (x : ℕ) → (is_spanned s.spans x ≡ true → SameByte scratch (pure_of s) (pure_of t) x)
    → (is_spanned t.spans x ≡ true → SameByte scratch (pure_of s) (pure_of t) x) → SameByte scratch (pure_of s) (pure_of t) x
same_of_both s t scratch x here there c = elim (cases_Bool (is_spanned s.spans x)) [
  | inl h ↦ here h c
  | inr no_here ↦ elim (cases_Bool (is_spanned t.spans x)) [
    | inl h ↦ there h c
    | inr no_there ↦ let e : x % 2 ^ 64 ≡ x = mod-eq_of_lt c.address in rw e (unspanned s.spans x no_here ∙ sym (unspanned t.spans x no_there))
  ]
]

-- the first differing byte is the lesser one of those among both states' spans
module _ (s t : Kept) (scratch : List (ℕ × ℕ)) where
  abbrev SameIn : List Span → Type 0
  SameIn spans = AreSame (is_spanned spans) scratch (pure_of s) (pure_of t)

  abbrev IsFirstIn : List Span → ℕ → Type 0
  IsFirstIn spans = IsFirstAmong (is_spanned spans) scratch (pure_of s) (pure_of t)

  pub no_lesser : (a b : Option ℕ) → IfNone a (SameIn s.spans) → IfNone b (SameIn t.spans)
      → IfNone (lesser a b) ((x : ℕ) → SameByte scratch (pure_of s) (pure_of t) x)
  no_lesser None None here there = λ x. same_of_both s t scratch x (here x) (there x)
  no_lesser None (Some b) here there = tt
  no_lesser (Some a) None here there = tt
  no_lesser (Some a) (Some b) here there = tt

  -- where the other spans have no lesser one
  first_here : (a : ℕ) → IsFirstIn s.spans a → ((x : ℕ) → x < a → is_spanned t.spans x ≡ true → SameByte scratch (pure_of s) (pure_of t) x)
      → IsFirstByte scratch (pure_of s) (pure_of t) a
  first_here a f there = record { other = f.other; first = λ x below. same_of_both s t scratch x (f.first x below) (there x below) }

  first_there : (b : ℕ) → IsFirstIn t.spans b → ((x : ℕ) → x < b → is_spanned s.spans x ≡ true → SameByte scratch (pure_of s) (pure_of t) x)
      → IsFirstByte scratch (pure_of s) (pure_of t) b
  first_there b f here = record { other = f.other; first = λ x below. same_of_both s t scratch x (here x below) (f.first x below) }

  pub first_lesser : (a b : Option ℕ) → IfNone a (SameIn s.spans) → IfSome a (IsFirstIn s.spans) → IfNone b (SameIn t.spans) → IfSome b (IsFirstIn t.spans)
      → IfSome (lesser a b) (IsFirstByte scratch (pure_of s) (pure_of t))
  first_lesser None None no_here here no_there there = tt
  first_lesser None (Some b) no_here here no_there there = first_there b there (λ x below. no_here x)
  first_lesser (Some a) None no_here here no_there there = first_here a here (λ x below. no_there x)
  first_lesser (Some a) (Some b) no_here here no_there there = elim (cases_lt b a) [
    | inl less ↦ (let e : min a b ≡ b = omega arith in rw e (first_there b there (λ x below. here.first x (omega (arith, less, below)))))
    | inr not_less ↦ (let e : min a b ≡ a = omega arith in rw e (first_here a here (λ x below. there.first x (omega (arith, not_less, below)))))
  ]

-- states with a first difference don't have the same end
pub excluded : (live : List Output) (scratch : List (ℕ × ℕ)) (s t : Machine) (d : Difference)
    → IsFirstDifference live scratch s t d → SameEnd live scratch s t → ⊥
excluded live scratch s t (Out k) f e = f.differ (e.outputs k f.output (slice_get_within live k f.output f.is_live) f.is_live)
excluded live scratch s t (Byte at) f e = f.1.other.differ (e.memory at f.1.other.compared)

-- no output before the first one differs
no_earlier_output : (live : List Output) (s t : Machine) (j k : ℕ) → IsFirstOutput live s t j → IsFirstOutput live s t k → j < k → ⊥
no_earlier_output live s t j k f g h = f.differ (g.first j f.output h f.is_live)

no_earlier_byte : (scratch : List (ℕ × ℕ)) (s t : Machine) (a b : ℕ) → IsFirstByte scratch s t a → IsFirstByte scratch s t b → a < b → ⊥
no_earlier_byte scratch s t a b f g h = f.other.differ (g.first a h f.other.compared)

same_number : (a b : ℕ) → (a < b → ⊥) → (b < a → ⊥) → a ≡ b
same_number a b f g = omega arith

-- two states have one first difference
pub one_first : (live : List Output) (scratch : List (ℕ × ℕ)) (s t : Machine) (d e : Difference)
    → IsFirstDifference live scratch s t d → IsFirstDifference live scratch s t e → d ≡ e
one_first live scratch s t (Out j) (Out k) f g = ap Out (same_number j k (no_earlier_output live s t j k f g) (no_earlier_output live s t k j g f))
one_first live scratch s t (Out k) (Byte at) f g = absurd (f.differ (g.0 k f.output (slice_get_within live k f.output f.is_live) f.is_live))
one_first live scratch s t (Byte at) (Out k) f g = absurd (g.differ (f.0 k g.output (slice_get_within live k g.output g.is_live) g.is_live))
one_first live scratch s t (Byte a) (Byte b) f g = ap Byte (same_number a b (no_earlier_byte scratch s t a b f.1 g.1) (no_earlier_byte scratch s t b a g.1 f.1))
