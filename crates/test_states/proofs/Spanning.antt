-- The spans of ranges.
use Rattle.std.proofs.Common.{◌≡◌, ℕ, zero, suc, ◌+◌, ◌-◌, ◌<◌, ◌≤◌, ◌^◌, Bool, true, false, ◌&&◌, ◌||◌, nat_le, nat_lt, List, [], ◌∷◌, ◌++◌, length, get_or, slice_index, refl, sym, ◌∙◌, ap, if◌then◌else◌, arith}
use Rattle.std.proofs.lemmas.Bool.{false≢true}
use Rattle.std.proofs.lemmas.Bool.Decides.{nat_tests}
use Rattle.std.proofs.lemmas.Grind.{common_steps}
use Rattle.memory_spans.specs.declared.span.Span.{Span}
use Rattle.memory_spans.specs.Spans.{AreOrdered, byte_of, is_spanned, spans_address}
use Rattle.test_states.specs.declared.range.Range.{Range}
use Rattle.test_states.specs.Naming.{named_or}
use Rattle.test_states.specs.Ranges.{AreApart, IsRange, IsSpanOf, is_covered, range_has}

-- ranges that are apart are ranges
pub apart_is_range : (from : ℕ) (ranges : List Range) (to i : ℕ) (d : Range) → AreApart from ranges to → i < length ranges → IsRange (get_or ranges i d)
apart_is_range from [] to i d apart below = absurd (omega arith)
apart_is_range from (s ∷ ss) to zero d apart below = apart.1
apart_is_range from (s ∷ ss) to (suc i) d apart below = apart_is_range (s.last + 2) ss to i d apart.2 (omega arith)

-- each span is that of its range
abbrev pub AreSpansOf : List (ℕ × ℕ) → List Range → List Span → Type 0
AreSpansOf named [] [] = Unit {0}
AreSpansOf named [] (s ∷ ss) = ⊥
AreSpansOf named (r ∷ rs) [] = ⊥
AreSpansOf named (r ∷ rs) (s ∷ ss) = IsSpanOf named r s × AreSpansOf named rs ss

-- one more of both
pub spans_more : (named : List (ℕ × ℕ)) (ranges : List Range) (spans : List Span) (r : Range) (s : Span) → AreSpansOf named ranges spans
    → IsSpanOf named r s → AreSpansOf named (ranges ++ r ∷ []) (spans ++ s ∷ [])
spans_more named [] [] r s are is = (is, tt)
spans_more named [] (t ∷ ts) r s are is = absurd are
spans_more named (q ∷ qs) [] r s are is = absurd are
spans_more named (q ∷ qs) (t ∷ ts) r s are is = (are.0, spans_more named qs ts r s are.1 is)

-- they are in order
pub spans_ordered : (named : List (ℕ × ℕ)) (from : ℕ) (ranges : List Range) (spans : List Span) → AreSpansOf named ranges spans → AreApart from ranges (2 ^ 64 + 1)
    → AreOrdered from spans
spans_ordered named from [] [] are apart = tt
spans_ordered named from [] (s ∷ ss) are apart = absurd are
spans_ordered named from (r ∷ rs) [] are apart = absurd are
spans_ordered named from (r ∷ rs) (s ∷ ss) are apart =
    let end : s.at + length s.bytes.items ≡ r.last + 1 = omega (arith, are.0.at, are.0.len, apart.1) in (
      rw are.0.at apart.0,
      rw end (omega (arith, apart_below (r.last + 2) rs apart.2)),
      rw end (order_sooner (r.last + 2) (r.last + 1) ss (omega arith) (spans_ordered named (r.last + 2) rs ss are.1 apart.2)),
    )
  where
    apart_below : (from : ℕ) (ranges : List Range) → AreApart from ranges (2 ^ 64 + 1) → from ≤ 2 ^ 64 + 1
    apart_below from [] apart = apart
    apart_below from (r ∷ rs) apart = omega (arith, apart.0, apart.1, apart_below (r.last + 2) rs apart.2)

    order_sooner : (from sooner : ℕ) (spans : List Span) → sooner ≤ from → AreOrdered from spans → AreOrdered sooner spans
    order_sooner from sooner [] less o = tt
    order_sooner from sooner (s ∷ ss) less o = (omega (arith, less, o.0), o.1, o.2)

address-has : (x a b at len : ℕ) → a ≤ b → at ≡ a → len ≡ b - a + 1 → (nat_le at x && nat_lt (x - at) len) ≡ (nat_le a x && nat_le x b)
address-has x a b at len ordered is fits = grind (arith, nat_tests)

span-has : (named : List (ℕ × ℕ)) (r : Range) (s : Span) (x : ℕ) → IsSpanOf named r s → r.first ≤ r.last → spans_address s x ≡ range_has x r
span-has named r s x is ordered = address-has x r.first r.last s.at (length s.bytes.items) ordered is.at is.len

either : (b c : Bool) → (if b then true else c) ≡ (b || c)
either true c = refl
either false c = refl

-- they have the addresses of the ranges
pub spanned-covered : (named : List (ℕ × ℕ)) (from : ℕ) (ranges : List Range) (spans : List Span) (x : ℕ) → AreSpansOf named ranges spans
    → AreApart from ranges (2 ^ 64 + 1) → is_spanned spans x ≡ is_covered ranges x
spanned-covered named from [] [] x are apart = refl
spanned-covered named from [] (s ∷ ss) x are apart = absurd are
spanned-covered named from (r ∷ rs) [] x are apart = absurd are
spanned-covered named from (r ∷ rs) (s ∷ ss) x are apart =
    rw (span-has named r s x are.0 apart.1, spanned-covered named (r.last + 2) rs ss x are.1 apart.2) (either (range_has x r) (is_covered rs x))

pub has_from : (a b x : ℕ) → (nat_le a x && nat_le x b) ≡ true → (a ≤ x) × (x ≤ b)
has_from a b x h = grind (arith, nat_tests)

byte_there : (named : List (ℕ × ℕ)) (r : Range) (s : Span) (x : ℕ) → IsSpanOf named r s → r.first ≤ x → x ≤ r.last
    → slice_index s.bytes.items (x - s.at) ≡ named_or 0 named x
byte_there named r s x is low high =
    let e : r.first + (x - s.at) ≡ x = omega (arith, is.at) in
    is.bytes (x - s.at) (omega (arith, is.at, is.len)) ∙ ap (named_or 0 named) e

choose : (named : List (ℕ × ℕ)) (b c : Bool) (v w x : ℕ) → (b || c) ≡ true → (b ≡ true → v ≡ x) → (c ≡ true → w ≡ x) → (if b then v else w) ≡ x
choose named true c v w x h first second = first refl
choose named false c v w x h first second = second h

-- each byte is as it is named
pub byte-named : (named : List (ℕ × ℕ)) (from : ℕ) (ranges : List Range) (spans : List Span) (x : ℕ) → AreSpansOf named ranges spans
    → AreApart from ranges (2 ^ 64 + 1) → is_covered ranges x ≡ true → byte_of spans x ≡ named_or 0 named x
byte-named named from [] [] x are apart covered = absurd (false≢true covered)
byte-named named from [] (s ∷ ss) x are apart covered = absurd are
byte-named named from (r ∷ rs) [] x are apart covered = absurd are
byte-named named from (r ∷ rs) (s ∷ ss) x are apart covered =
    rw (span-has named r s x are.0 apart.1)
    (choose named (range_has x r) (is_covered rs x) (slice_index s.bytes.items (x - s.at)) (byte_of ss x) (named_or 0 named x) covered
    (λ h. let b = has_from r.first r.last x h in byte_there named r s x are.0 b.0 b.1)
    (λ h. byte-named named (r.last + 2) rs ss x are.1 apart.2 h))

-- an address that is not in a range is none of its addresses
pub not_of_range : (a b x n k : ℕ) → (nat_le a x && nat_le x b) ≡ false → a ≤ b → n ≡ b - a + 1 → k < n → x ≡ a + k → ⊥
not_of_range a b x n k out ordered is below same = false≢true (sym out ∙ inside a b x (omega arith) (omega arith))
  where
    inside : (a b x : ℕ) → a ≤ x → x ≤ b → (nat_le a x && nat_le x b) ≡ true
    inside a b x low high = grind (arith, nat_tests)

-- a byte of no span is 0
pub unspanned : (spans : List Span) (x : ℕ) → is_spanned spans x ≡ false → byte_of spans x ≡ 0
unspanned [] x none = refl
unspanned (span ∷ spans) x none = grind (arith, common_steps, unspanned spans x)
