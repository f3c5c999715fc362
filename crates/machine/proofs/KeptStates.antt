-- What keeps a state kept: the same spans in place, the same regions, the same entry and stack.
use Rattle.std.proofs.Common.{◌≡◌, ℕ, ◌+◌, ◌<◌, ◌≤◌, ◌^◌, ◌%◌, true, List, [], ◌∷◌, length, slice_index, sym, ◌∙◌, ap, subst}
use Rattle.std.specs.List.{AllByRecursion}
use Rattle.memory_spans.specs.declared.region.Region.{Region}
use Rattle.memory_spans.specs.declared.span.Span.{Span}
use Rattle.machine.specs.Holding.{IsHeld}
use Rattle.machine.specs.Kept.{IsKept, Kept, pure_of}
use Rattle.memory_spans.specs.Spans.{is_spanned, places, contents}
use Rattle.memory_spans.specs.Regions.{IsPlaced}
use Rattle.machine.specs.Start.{IsCopy}
use Rattle.memory_spans.proofs.Ordering.{ordered_by_places, spanned_by_places}
use Rattle.memory_spans.proofs.Contents.{byte_by_contents}

all_regions : (P Q : Region → Type 0) (rs : List Region) → ((r : Region) → P r → Q r) → AllByRecursion P rs → AllByRecursion Q rs
all_regions P Q [] h a = tt
all_regions P Q (r ∷ rs) h a = (h r a.0, all_regions P Q rs h a.1)

-- a kept state stays one where the places of its spans and all else that it speaks of stay
pub kept_by_places : (old new : Kept) → new.entry ≡ old.entry → new.stack ≡ old.stack → new.regions ≡ old.regions
    → places new.spans ≡ places old.spans → IsKept old → IsKept new
kept_by_places old new entry stack regions spans h = record {
  ordered = ordered_by_places 0 old.spans new.spans spans h.ordered;
  regions = subst (λ (rs : List Region). AllByRecursion (IsPlaced (slice_index new.entry 4) new.stack) rs) (sym regions)
      (subst (λ (n : ℕ). AllByRecursion (IsPlaced (slice_index new.entry 4) n) old.regions) (sym stack)
      (subst (λ (regs : List ℕ). AllByRecursion (IsPlaced (slice_index regs 4) old.stack) old.regions) (sym entry) h.regions));
  spanned = subst (λ (rs : List Region). AllByRecursion (λ r. (at : ℕ) → r.base ≤ at → at < r.base + r.len → is_spanned new.spans at ≡ true) rs) (sym regions)
      (all_regions (λ r. (at : ℕ) → r.base ≤ at → at < r.base + r.len → is_spanned old.spans at ≡ true) (λ r. (at : ℕ) → r.base ≤ at → at < r.base + r.len → is_spanned new.spans at ≡ true)
      old.regions (λ r g at low high. spanned_by_places old.spans new.spans at spans ∙ g at low high) h.spanned);
  stack_spanned = λ at low inside. spanned_by_places old.spans new.spans at spans ∙ h.stack_spanned at low (rw (entry, stack) at inside);
  small = rw stack h.small;
}

-- a State after a change of registers, of flags, of vectors, of the bytes of its spans or of its place
pub held_by_places : (old new : Kept) → length new.regs ≡ 16 → new.entry ≡ old.entry → length new.vecs ≡ 16 → new.stack ≡ old.stack
    → new.regions ≡ old.regions → places new.spans ≡ places old.spans → IsHeld old → IsHeld new
held_by_places old new regs entry vecs stack regions spans h = record {
  regs = regs;
  entry = ap (λ (xs : List ℕ). length xs) entry ∙ h.entry;
  vecs = vecs;
  kept = kept_by_places old new entry stack regions spans h.kept;
}

-- a state with spans of the same contents is a copy
pub copy_of : (k : Kept) (spans : List Span) (regions : List Region) → contents spans ≡ contents k.spans → regions ≡ k.regions
    → IsCopy k (record k { spans = spans; regions = regions })
copy_of k spans regions same kept = record {
  pure = λ i. record (pure_of k) { memory = λ x. byte_by_contents k.spans spans (x % 2 ^ 64) same i; regions = kept i };
  spans = same;
}
