-- Words in spans: a read or a write within one span, and byte by byte.
use Rattle.std.proofs.Common.{◌≡◌, ℕ, zero, suc, ◌+◌, ◌-◌, ◌/◌, ◌%◌, ◌^◌, ◌<◌, ◌≤◌, true, false, List, length, get_or, slice_get, slice_index, slice_set, nat_le, nat_lt, ◌&&◌, if◌then◌else◌, Some, refl, sym, ◌∙◌, subst, arith, ◌⊎◌, inl, inr}
use Rattle.std.proofs.lemmas.Bool.Decides.{nat_tests}
use Rattle.std.proofs.lemmas.Option.{get_or_from_slice_get, slice_get_read}
use Rattle.memory_spans.specs.declared.span.Span.{Span}
use Rattle.memory_spans.specs.Spans.{AreOrdered, byte_of, memory_of, spans_address, HasBytes}
use Rattle.memory_spans.specs.Memory.{address_plus, offset_from, word_at, with_word}
use Rattle.memory_spans.proofs.MemoryWords.{with_word-if, word_at-suc}
use Rattle.memory_spans.proofs.Ordering.{order_ends, byte_within, byte_written, addressed_from, not_addressed_from}

-- how far an address lies behind one before it
pub offset_above : (at x : ℕ) → at ≤ x → x < 2 ^ 64 → offset_from at x ≡ x - at
offset_above at x h small = omega arith

-- how far an address lies behind one past it, around the end of memory
pub offset_below : (at x : ℕ) → x < at → at ≤ 2 ^ 64 → offset_from at x ≡ x + (2 ^ 64 - at)
offset_below at x h small = omega arith

-- the span that has the bytes, read from the list
pub same_span : (spans : List Span) (i at n : ℕ) (w : HasBytes spans i at n) (span : Span) → span ≡ get_or spans i span → span ≡ w.span
same_span spans i at n w span e = e ∙ get_or_from_slice_get spans i w.span span w.is_span

-- the span that has the bytes is the one that is read
pub has_as_read : (spans : List Span) (i at n : ℕ) (w : HasBytes spans i at n) (span : Span) → span ≡ w.span
    → (slice_get spans i ≡ Some span) × (span.at ≤ at) × (at + n ≤ span.at + length span.bytes.items)
has_as_read spans i at n w span e = subst (λ (x : Span). (slice_get spans i ≡ Some x) × (x.at ≤ at) × (at + n ≤ x.at + length x.bytes.items)) (sym e) (w.is_span, w.from, w.to)

-- the span that was found has the bytes
pub has_bytes_of : (spans : List Span) (i at n : ℕ) (span : Span) → i < length spans → span ≡ get_or spans i span
    → span.at ≤ at → at + n ≤ span.at + length span.bytes.items → HasBytes spans i at n
has_bytes_of spans i at n span inside e from to = record { span = span; is_span = slice_get_read spans (length spans) i span refl inside e; from = from; to = to }

-- a word within one span is that of the span's bytes
pub word_within : (spans : List Span) (i at n : ℕ) (span : Span) → AreOrdered 0 spans → slice_get spans i ≡ Some span
    → span.at ≤ at → at + n ≤ span.at + length span.bytes.items
    → word_at (slice_index span.bytes.items) (at - span.at) n ≡ word_at (memory_of spans) at n
word_within spans i at zero span o e from to = refl
word_within spans i at (suc n) span o e from to =
    let ends : span.at + length span.bytes.items ≤ 2 ^ 64 = order_ends 0 spans i span o e in
    let here : address_plus (at - span.at) n ≡ at + n - span.at = omega arith in
    let there : address_plus at n % 2 ^ 64 ≡ at + n = omega arith in
    let byte : byte_of spans (at + n) ≡ slice_index span.bytes.items (at + n - span.at) = byte_within 0 spans i span (at + n) o e (omega arith) (omega arith) in
    rw (word_at-suc (slice_index span.bytes.items) (at - span.at) n, word_at-suc (memory_of spans) at n, word_within spans i at n span o e from (omega arith), here, there, byte) refl

inside_choice : (f : ℕ → ℕ) (m from y o n : ℕ) → (from ≤ y → o ≡ y - from) → (y < from → n ≤ o)
    → (if nat_le from y && nat_lt (y - from) n then f (y - from) else m) ≡ (if nat_lt o n then f o else m)
inside_choice f m from y o n above below = grind (arith, nat_tests)

outside_choice : (f : ℕ → ℕ) (m o n : ℕ) → n ≤ o → m ≡ (if nat_lt o n then f o else m)
outside_choice f m o n h = grind (arith, nat_tests)

outside_offset : (s l at n x : ℕ) → (x < s) ⊎ (s + l ≤ x) → s ≤ at → at + n ≤ s + l → s + l ≤ 2 ^ 64 → x < 2 ^ 64 → n ≤ offset_from at x
outside_offset s l at n x out from to ends small =
    elim out [ inl below ↦ omega (arith, offset_below at x) | inr above ↦ omega (arith, offset_above at x) ]

-- what a change of n bytes of a span's list, byte k to f k, makes of its bytes
pub span_changed : (spans : List Span) (i at n : ℕ) (f : ℕ → ℕ) (span new : Span) (x : ℕ) → AreOrdered 0 spans → slice_get spans i ≡ Some span
    → span.at ≤ at → at + n ≤ span.at + length span.bytes.items
    → new.at ≡ span.at → length new.bytes.items ≡ length span.bytes.items
    → ((y : ℕ) → slice_index new.bytes.items y ≡ (if nat_le (at - span.at) y && nat_lt (y - (at - span.at)) n then f (y - (at - span.at)) else slice_index span.bytes.items y))
    → x < 2 ^ 64 → byte_of (slice_set spans i new) x ≡ (if nat_lt (offset_from at x) n then f (offset_from at x) else byte_of spans x)
span_changed spans i at n f span new x o e from to same len bytes small =
    let ends : span.at + length span.bytes.items ≤ 2 ^ 64 = order_ends 0 spans i span o e in
    let y : ℕ = x - span.at in
    let changed : ℕ = if nat_lt (offset_from at x) n then f (offset_from at x) else byte_of spans x in
    byte_written 0 spans i span new x o e same len
    ∙ elim (spans_address span x) as (λ v. spans_address span x ≡ v → (if v then slice_index new.bytes.items y else byte_of spans x) ≡ changed) [
      | true ↦ (λ t.
          let here = addressed_from span x t in
          let low : span.at ≤ x = here.0 in
          let old : byte_of spans x ≡ slice_index span.bytes.items y = byte_within 0 spans i span x o e here.0 here.1 in
          bytes y ∙ rw old (inside_choice f (slice_index span.bytes.items y) (at - span.at) y (offset_from at x) n (λ h. omega arith) (λ h. omega arith)))
      | false ↦ (λ t.
          outside_choice f (byte_of spans x) (offset_from at x) n (outside_offset span.at (length span.bytes.items) at n x (not_addressed_from span x t) from to ends small))
    ] refl

-- what a write of a word to a span's list makes of its bytes
pub span_written : (spans : List Span) (i at n word : ℕ) (span new : Span) (x : ℕ) → AreOrdered 0 spans → slice_get spans i ≡ Some span
    → span.at ≤ at → at + n ≤ span.at + length span.bytes.items
    → new.at ≡ span.at → length new.bytes.items ≡ length span.bytes.items
    → ((y : ℕ) → slice_index new.bytes.items y ≡ (if nat_le (at - span.at) y && nat_lt (y - (at - span.at)) n then word / 256 ^ (y - (at - span.at)) % 256 else slice_index span.bytes.items y))
    → x < 2 ^ 64 → byte_of (slice_set spans i new) x ≡ with_word (byte_of spans) at n word x
span_written spans i at n word span new x o e from to same len bytes small =
    span_changed spans i at n (λ k. word / 256 ^ k % 256) span new x o e from to same len bytes small
    ∙ sym (with_word-if (byte_of spans) at n word x)
