-- Reads and writes of spans that are in order and apart.
use Rattle.std.proofs.Common.{◌≡◌, ℕ, zero, suc, ◌+◌, ◌-◌, ◌^◌, ◌<◌, ◌≤◌, Bool, true, false, List, [], ◌∷◌, length, slice_get, slice_index, slice_set, if◌then◌else◌, Some, refl, ap, subst, arith, ◌⊎◌}
use Rattle.std.proofs.lemmas.Grind.{common_steps}
use Rattle.std.proofs.lemmas.Bool.Decides.{nat_tests}
use Rattle.memory_spans.specs.declared.span.Span.{Span}
use Rattle.memory_spans.specs.Spans.{AreOrdered, byte_of, is_spanned, spans_address, places}

-- an address from the begin of a span to its end lies in it
pub addressed : (span : Span) (x : ℕ) → span.at ≤ x → x < span.at + length span.bytes.items → spans_address span x ≡ true
addressed span x from to = grind (arith, common_steps)

-- an address past the end of a span does not lie in it
pub not_addressed : (span : Span) (x : ℕ) → span.at + length span.bytes.items ≤ x → spans_address span x ≡ false
not_addressed span x h = grind (arith, common_steps)

-- an address in a span lies from its begin to its end
pub addressed_from : (span : Span) (x : ℕ) → spans_address span x ≡ true → (span.at ≤ x) × (x < span.at + length span.bytes.items)
addressed_from span x h = grind (arith, common_steps)

-- an address that does not lie in a span lies before or past it
pub not_addressed_from : (span : Span) (x : ℕ) → spans_address span x ≡ false → (x < span.at) ⊎ (span.at + length span.bytes.items ≤ x)
not_addressed_from span x h = grind (arith, nat_tests)

-- no span begins below the first
pub order_begins : (from : ℕ) (spans : List Span) (i : ℕ) (span : Span) → AreOrdered from spans → slice_get spans i ≡ Some span → from ≤ span.at
order_begins from [] i span o e = cc
order_begins from (s ∷ ss) zero span o e = let same : s ≡ span = cc in subst (λ (x : Span). from ≤ x.at) same o.0
order_begins from (s ∷ ss) (suc i) span o e = omega (arith, o.0, order_begins (s.at + length s.bytes.items) ss i span o.2 e)

-- none ends above 2^64
pub order_ends : (from : ℕ) (spans : List Span) (i : ℕ) (span : Span) → AreOrdered from spans → slice_get spans i ≡ Some span → span.at + length span.bytes.items ≤ 2 ^ 64
order_ends from [] i span o e = cc
order_ends from (s ∷ ss) zero span o e = let same : s ≡ span = cc in subst (λ (x : Span). x.at + length x.bytes.items ≤ 2 ^ 64) same o.1
order_ends from (s ∷ ss) (suc i) span o e = order_ends (s.at + length s.bytes.items) ss i span o.2 e

-- the byte at an address of a span is that span's
pub byte_within : (from : ℕ) (spans : List Span) (i : ℕ) (span : Span) (x : ℕ) → AreOrdered from spans → slice_get spans i ≡ Some span
    → span.at ≤ x → x < span.at + length span.bytes.items → byte_of spans x ≡ slice_index span.bytes.items (x - span.at)
byte_within from [] i span x o e low high = cc
byte_within from (s ∷ ss) zero span x o e low high =
    let same : s ≡ span = cc in
    rw same (rw (addressed span x low high) refl)
byte_within from (s ∷ ss) (suc i) span x o e low high =
    let begins : s.at + length s.bytes.items ≤ span.at = order_begins (s.at + length s.bytes.items) ss i span o.2 e in
    rw (not_addressed s x (omega arith)) (byte_within (s.at + length s.bytes.items) ss i span x o.2 e low high)

same_choice : {A : Type 0} (b : Bool) (x y : A) → (if b then x else y) ≡ (if b then x else (if b then x else y))
same_choice true x y = refl
same_choice false x y = refl

same_choice_two : {A : Type 0} (b : Bool) (x z y : A) → (if b then x else y) ≡ (if b then x else (if b then z else y))
same_choice_two true x z y = refl
same_choice_two false x z y = refl

other_choice : {A : Type 0} (b c : Bool) (x y z : A) → (b ≡ true → c ≡ false) → (if b then x else (if c then y else z)) ≡ (if c then y else (if b then x else z))
other_choice true true x y z h = absurd (let e : true ≡ false = h refl in cc)
other_choice true false x y z h = refl
other_choice false c x y z h = refl

-- the bytes after another span of the same place stands in a span's stead
pub byte_written : (from : ℕ) (spans : List Span) (i : ℕ) (span new : Span) (x : ℕ) → AreOrdered from spans → slice_get spans i ≡ Some span
    → new.at ≡ span.at → length new.bytes.items ≡ length span.bytes.items
    → byte_of (slice_set spans i new) x ≡ (if spans_address span x then slice_index new.bytes.items (x - span.at) else byte_of spans x)
byte_written from [] i span new x o e at len = cc
byte_written from (s ∷ ss) zero span new x o e at len =
    let same : s ≡ span = cc in
    rw (same, at, len) (same_choice_two (spans_address span x) (slice_index new.bytes.items (x - span.at)) (slice_index span.bytes.items (x - span.at)) (byte_of ss x))
byte_written from (s ∷ ss) (suc i) span new x o e at len =
    let begins : s.at + length s.bytes.items ≤ span.at = order_begins (s.at + length s.bytes.items) ss i span o.2 e in
    rw (byte_written (s.at + length s.bytes.items) ss i span new x o.2 e at len)
    (other_choice (spans_address s x) (spans_address span x) (slice_index s.bytes.items (x - s.at)) (slice_index new.bytes.items (x - span.at)) (byte_of ss x)
    (λ h. let here = addressed_from s x h in elim (spans_address span x) as (λ v. spans_address span x ≡ v → v ≡ false) [
      | true ↦ (λ t. absurd (omega (arith, here.1, (addressed_from span x t).0)))
      | false ↦ (λ f. refl)
    ] refl))

-- a span of the same place and length in place of another leaves the places
pub places_written : (spans : List Span) (i : ℕ) (span new : Span) → slice_get spans i ≡ Some span
    → new.at ≡ span.at → length new.bytes.items ≡ length span.bytes.items → places (slice_set spans i new) ≡ places spans
places_written [] i span new e at len = refl
places_written (s ∷ ss) zero span new e at len = let same : s ≡ span = cc in rw (same, at, len) refl
places_written (s ∷ ss) (suc i) span new e at len = ap (λ (ps : List (ℕ × ℕ)). (s.at, length s.bytes.items) ∷ ps) (places_written ss i span new e at len)

same_first : (a b : ℕ × ℕ) (more rest : List (ℕ × ℕ)) → a ∷ more ≡ b ∷ rest → a ≡ b
same_first a b more rest e = cc

same_rest : (a b : ℕ × ℕ) (more rest : List (ℕ × ℕ)) → a ∷ more ≡ b ∷ rest → more ≡ rest
same_rest a b more rest e = cc

-- order, and which addresses are spanned, depend on the places alone
pub ordered_by_places : (from : ℕ) (old new : List Span) → places new ≡ places old → AreOrdered from old → AreOrdered from new
ordered_by_places from [] [] e o = tt
ordered_by_places from [] (n ∷ ns) e o = cc
ordered_by_places from (s ∷ ss) [] e o = cc
ordered_by_places from (s ∷ ss) (n ∷ ns) e o =
    let rest : places ns ≡ places ss = same_rest (n.at, length n.bytes.items) (s.at, length s.bytes.items) (places ns) (places ss) e in
    let head : (n.at, length n.bytes.items) ≡ (s.at, length s.bytes.items) = same_first (n.at, length n.bytes.items) (s.at, length s.bytes.items) (places ns) (places ss) e in
    let at : n.at ≡ s.at = ap (λ (p : ℕ × ℕ). p.0) head in
    let len : length n.bytes.items ≡ length s.bytes.items = ap (λ (p : ℕ × ℕ). p.1) head in
    rw (at, len) (o.0, o.1, ordered_by_places (s.at + length s.bytes.items) ss ns rest o.2)

-- spans at the same places have the same addresses
pub spanned_by_places : (old new : List Span) (x : ℕ) → places new ≡ places old → is_spanned new x ≡ is_spanned old x
spanned_by_places [] [] x e = refl
spanned_by_places [] (n ∷ ns) x e = cc
spanned_by_places (s ∷ ss) [] x e = cc
spanned_by_places (s ∷ ss) (n ∷ ns) x e =
    let rest : places ns ≡ places ss = same_rest (n.at, length n.bytes.items) (s.at, length s.bytes.items) (places ns) (places ss) e in
    let head : (n.at, length n.bytes.items) ≡ (s.at, length s.bytes.items) = same_first (n.at, length n.bytes.items) (s.at, length s.bytes.items) (places ns) (places ss) e in
    let at : n.at ≡ s.at = ap (λ (p : ℕ × ℕ). p.0) head in
    let len : length n.bytes.items ≡ length s.bytes.items = ap (λ (p : ℕ × ℕ). p.1) head in
    rw (at, len, spanned_by_places ss ns x rest) refl
