-- Memory kept as spans of bytes: which addresses spans have and what they hold, where the bytes of an access lie among
-- them, and what a write leaves of them.
use Rattle.std.specs.Prelude.{◌≡◌, ℕ, ◌+◌, ◌-◌, ◌^◌, ◌%◌, ◌≤◌, ◌&&◌, Bool, true, false, nat_le, nat_lt, List, [], ◌∷◌, length, map, slice_get, slice_index, Some, if◌then◌else◌}
use Rattle.memory_spans.specs.declared.span.Span.{Span}

-- the address lies in the span
abbrev pub spans_address : Span → ℕ → Bool
spans_address span at = nat_le span.at at && nat_lt (at - span.at) (length span.bytes.items)

-- the byte of the first span that has the address; a byte in no span is 0
abbrev pub byte_of : List Span → ℕ → ℕ
byte_of [] at = 0
byte_of (span ∷ spans) at =
    if spans_address span at then slice_index span.bytes.items (at - span.at) else byte_of spans at

-- some span has the address
abbrev pub is_spanned : List Span → ℕ → Bool
is_spanned [] at = false
is_spanned (span ∷ spans) at = if spans_address span at then true else is_spanned spans at

-- the memory of spans, whose addresses wrap at 2^64
abbrev pub memory_of : List Span → ℕ → ℕ
memory_of spans at = byte_of spans (at % 2 ^ 64)

-- spans in order and apart, from an address on, none past 2^64
abbrev pub AreOrdered : ℕ → List Span → Type 0
AreOrdered from [] = Unit {0}
AreOrdered from (span ∷ spans) =
    (from ≤ span.at)
    × (span.at + length span.bytes.items ≤ 2 ^ 64)
    × AreOrdered (span.at + length span.bytes.items) spans

-- what spans hold: their addresses and bytes
abbrev pub contents : List Span → List (ℕ × List ℕ)
contents spans = map (λ span. (span.at, span.bytes.items)) spans

-- span i has the n bytes from an address on
pub record HasBytes (spans : List Span) (i at n : ℕ) : Type 0 where
  pub span : Span
  pub is_span : slice_get spans i ≡ Some span
  pub from : span.at ≤ at
  pub to : at + n ≤ span.at + length span.bytes.items

-- where the spans begin, and how long they are: what no write changes
abbrev pub places : List Span → List (ℕ × ℕ)
places spans = map (λ span. (span.at, length span.bytes.items)) spans
