-- Ranges of addresses, which become the spans of a start state.
use Rattle.std.specs.Prelude.{◌≡◌, ℕ, ◌+◌, ◌-◌, ◌<◌, ◌≤◌, Bool, ◌&&◌, ◌||◌, nat_le, nat_lt, List, [], ◌∷◌, length, slice_index}
use Rattle.std.specs.List.{list_any}
use Rattle.memory_spans.specs.declared.region.Region.{Region}
use Rattle.memory_spans.specs.declared.span.Span.{Span}
use Rattle.memory_spans.specs.Memory.{offset_from}
use Rattle.test_states.specs.declared.range.Range.{Range}
use Rattle.test_states.specs.Naming.{named_or}

-- the first address is not behind the last one
abbrev pub IsRange : Range → Type 0
IsRange r = r.first ≤ r.last

-- the address lies in the range
abbrev pub range_has : ℕ → Range → Bool
range_has x r = nat_le r.first x && nat_le x r.last

-- the address lies in one of the ranges
abbrev pub is_covered : List Range → ℕ → Bool
is_covered ranges x = list_any (range_has x) ranges

-- ranges in order, from an address on, up to another, with an address of none behind each
abbrev pub AreApart : ℕ → List Range → ℕ → Type 0
AreApart from [] to = from ≤ to
AreApart from (r ∷ rs) to = (from ≤ r.first) × (r.first ≤ r.last) × AreApart (r.last + 2) rs to

-- the address is one of a region's, which may wrap
abbrev pub in_regions : List Region → ℕ → Bool
in_regions rs x = list_any (λ (r : Region). nat_lt (offset_from r.base x) r.len) rs

-- the address is one of the stack range's, or of a region's
abbrev pub in_either : ℕ → ℕ → List Region → ℕ → Bool
in_either pointer stack rs x = nat_lt (offset_from (offset_from stack pointer) x) (stack + 8) || in_regions rs x

-- a span has the bytes of a range, each as it is named, and 0 where it is not
pub record IsSpanOf (named : List (ℕ × ℕ)) (range : Range) (span : Span) : Type 0 where
  pub at : span.at ≡ range.first
  pub len : length span.bytes.items ≡ range.last - range.first + 1
  pub bytes : (k : ℕ) → k < length span.bytes.items → slice_index span.bytes.items k ≡ named_or 0 named (range.first + k)
