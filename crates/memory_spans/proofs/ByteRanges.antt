-- The bytes of spans are below 256.
use Rattle.std.proofs.Common.{arith, ℕ, ◌<◌, Bool, true, false, List, [], ◌∷◌, slice_index, if◌then◌else◌}
use Rattle.std.specs.List.{All, AllByRecursion}
use Rattle.memory_spans.specs.declared.span.Span.{Span}
use Rattle.memory_spans.specs.Spans.{byte_of, spans_address}
use Rattle.std.proofs.lemmas.List.Elements.{recursion_from_All}

-- each of a list is below 256
abbrev pub AreBytes : List ℕ → Type 0
AreBytes bytes = (at : ℕ) → slice_index bytes at < 256

-- the span holds bytes
abbrev pub HoldsBytes : Span → Type 0
HoldsBytes span = AreBytes span.bytes.items

either_below : (test : Bool) (a b : ℕ) → a < 256 → b < 256 → (if test then a else b) < 256
either_below true a b first second = first
either_below false a b first second = second

byte_below : (spans : List Span) → AllByRecursion HoldsBytes spans → (at : ℕ) → byte_of spans at < 256
byte_below [] hold at = omega arith
byte_below (span ∷ spans) hold at = either_below (spans_address span at) _ _ (hold.0 _) (byte_below spans hold.1 at)

-- each byte of spans is below 256
pub bytes_below : (spans : List Span) → All HoldsBytes spans → (at : ℕ) → byte_of spans at < 256
bytes_below spans hold = byte_below spans (recursion_from_All HoldsBytes spans hold)
