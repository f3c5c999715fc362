-- Vectors that are read from memory byte by byte, and bytes that are written one by one.
use Rattle.std.proofs.Common.{◌≡◌, ◌≢◌, inl, inr, ℕ, zero, suc, ◌+◌, ◌-◌, ◌%◌, ◌^◌, ◌<◌, ◌≤◌, ◌==◌, Bool, true, false, nat_lt, nat_le, ◌&&◌, List, [], ◌∷◌, ◌++◌, length, take, get_or, Decides, slice_get, slice_index, slice_set, Some, if◌then◌else◌, refl, sym, ◌∙◌, ap, arith, add-one, append_assoc}
use Rattle.std.specs.Prelude.{replicate}
use Rattle.std.proofs.lemmas.Bool.{cases_lt, false≢true, le-ltb, lt-ltb}
use Rattle.std.proofs.lemmas.Bool.Decides.{Decides-eqb}
use Rattle.std.proofs.lemmas.List.{get_or-take, get_or_default, get_or_past, length-take-le}
use Rattle.std.proofs.Math.Seq.{take-length}
use Rattle.memory_spans.specs.declared.span.Span.{Span}
use Rattle.memory_spans.specs.Spans.{AreOrdered, byte_of, memory_of}
use Rattle.memory_spans.specs.Memory.{address_plus, offset_from, bytes_at, with_bytes, vector_from}
use Rattle.memory_spans.proofs.MemoryWords.{length-bytes_at}
use Rattle.memory_spans.proofs.Ordering.{byte_within, order_ends}
use Rattle.memory_spans.proofs.WordsInSpans.{span_changed}

-- an item set behind k items, in place of the first of those there
pub set_behind : {A : Type 0} (xs ys : List A) (y v : A) (k : ℕ) → length xs ≡ k → slice_set (xs ++ y ∷ ys) k v ≡ xs ++ v ∷ ys
set_behind [] ys y v zero e = refl
set_behind [] ys y v (suc k) e = absurd (omega (arith, e))
set_behind (x ∷ xs) ys y v zero e = absurd (omega (arith, e))
set_behind (x ∷ xs) ys y v (suc k) e = ap (λ zs. x ∷ zs) (set_behind xs ys y v k (omega (arith, e)))

zeros_from : (k : ℕ) → k < 32 → replicate {A = ℕ} (32 - k) 0 ≡ 0 ∷ replicate {A = ℕ} (32 - (k + 1)) 0
zeros_from k h =
    let left : 32 - k ≡ suc (32 - (k + 1)) = omega (arith, h) in
    ap (λ (n : ℕ). replicate {A = ℕ} n 0) left

-- the next byte that is read stands behind those before it
pub byte_read_next : (m : ℕ → ℕ) (at k byte : ℕ) → k < 32 → byte ≡ m (address_plus at k) → slice_set (vector_from m at k) k byte ≡ vector_from m at (k + 1)
byte_read_next m at k byte h e =
    let more : bytes_at m at (k + 1) ≡ bytes_at m at k ++ m (address_plus at k) ∷ [] = ap (bytes_at m at) (add-one k) in
    rw (zeros_from k h, more, e, append_assoc)
    (set_behind (bytes_at m at k) (replicate (32 - (k + 1)) 0) 0 (m (address_plus at k)) k (length-bytes_at m at k))

pub ruleset next_byte = (byte_read_next)

-- an item among the first k, and what stands past them
taken_item : (bytes : List ℕ) (k j d : ℕ) → k ≤ length bytes → get_or (take k bytes) j d ≡ (if nat_lt j k then slice_index bytes j else d)
taken_item bytes k j d few = elim (cases_lt j k) [
  | inl below ↦ rw (lt-ltb j k below) (get_or-take k bytes j d below ∙ get_or_default bytes j d 0 (omega (arith, below, few)))
  | inr past ↦ rw (le-ltb j k past) (get_or_past (take k bytes) j d (omega (arith, length-take-le k bytes few, past)))
]

-- all items, and what stands past them
all_items : (bytes : List ℕ) (j d : ℕ) → get_or bytes j d ≡ (if nat_lt j (length bytes) then slice_index bytes j else d)
all_items bytes j d = ap (λ (xs : List ℕ). get_or xs j d) (sym (take-length bytes)) ∙ taken_item bytes (length bytes) j d (omega arith)

choice_next : (same : Bool) (j k byte v d : ℕ) → Decides same (j ≡ k) → (j ≡ k → byte ≡ v)
    → (if same then byte else (if nat_lt j k then v else d)) ≡ (if nat_lt j (k + 1) then v else d)
choice_next true j k byte v d decides is = let e : j ≡ k = decides.0 refl in rw (lt-ltb j (k + 1) (omega (arith, e))) (is e)
choice_next false j k byte v d decides is = elim (cases_lt j k) [
  | inl below ↦ rw (lt-ltb j k below, lt-ltb j (k + 1) (omega (arith, below))) refl
  | inr past ↦
      let other : j ≢ k = λ e. false≢true (decides.1 e) in
      rw (le-ltb j k past, le-ltb j (k + 1) (omega (arith, past, other))) refl
]

-- the next byte that is written stands behind those before it
pub stored_next : (at k x d byte : ℕ) (bytes : List ℕ) → at < 2 ^ 64 → x < 2 ^ 64 → k < length bytes → length bytes ≤ 32 → byte ≡ get_or bytes k byte
    → (if x == (at + k) % 2 ^ 64 then byte else get_or (take k bytes) (offset_from at x) d) ≡ get_or (take (k + 1) bytes) (offset_from at x) d
stored_next at k x d byte bytes low small h few e =
    let j : ℕ = offset_from at x in
    let first : get_or (take k bytes) j d ≡ (if nat_lt j k then slice_index bytes j else d) = taken_item bytes k j d (omega (arith, h)) in
    let next : get_or (take (k + 1) bytes) j d ≡ (if nat_lt j (k + 1) then slice_index bytes j else d) = taken_item bytes (k + 1) j d (omega (arith, h)) in
    let decides : Decides (x == (at + k) % 2 ^ 64) (j ≡ k) =
    ((λ t. let there : x ≡ (at + k) % 2 ^ 64 = (Decides-eqb x ((at + k) % 2 ^ 64)).0 t in omega arith), (λ t. (Decides-eqb x ((at + k) % 2 ^ 64)).1 (omega (arith, t)))) in
    ap (λ (v : ℕ). if x == (at + k) % 2 ^ 64 then byte else v) first
    ∙ choice_next (x == (at + k) % 2 ^ 64) j k byte (slice_index bytes j) d decides (λ t. e ∙ get_or_default bytes k byte 0 h ∙ ap (slice_index bytes) (sym t))
    ∙ sym next

pub ruleset next_stored = (stored_next)

-- what a write of bytes to a span's list makes of its bytes
pub bytes_stored : (spans : List Span) (i at : ℕ) (stored : List ℕ) (span new : Span) (x : ℕ) → AreOrdered 0 spans → slice_get spans i ≡ Some span
    → span.at ≤ at → at + length stored ≤ span.at + length span.bytes.items
    → new.at ≡ span.at → length new.bytes.items ≡ length span.bytes.items
    → ((y : ℕ) → slice_index new.bytes.items y ≡ (if nat_le (at - span.at) y && nat_lt (y - (at - span.at)) (length stored) then slice_index stored (y - (at - span.at)) else slice_index span.bytes.items y))
    → x < 2 ^ 64 → byte_of (slice_set spans i new) x ≡ with_bytes (byte_of spans) at stored x
bytes_stored spans i at stored span new x o e from to same len bytes small =
    span_changed spans i at (length stored) (slice_index stored) span new x o e from to same len bytes small
    ∙ sym (all_items stored (offset_from at x) (byte_of spans x))

-- a vector within one span is that of the span's bytes
pub vector_within : (spans : List Span) (i at n : ℕ) (span : Span) → AreOrdered 0 spans → slice_get spans i ≡ Some span
    → span.at ≤ at → at + n ≤ span.at + length span.bytes.items
    → bytes_at (slice_index span.bytes.items) (at - span.at) n ≡ bytes_at (memory_of spans) at n
vector_within spans i at zero span o e from to = refl
vector_within spans i at (suc n) span o e from to =
    let ends : span.at + length span.bytes.items ≤ 2 ^ 64 = order_ends 0 spans i span o e in
    let here : address_plus (at - span.at) n ≡ at + n - span.at = omega arith in
    let there : address_plus at n % 2 ^ 64 ≡ at + n = omega arith in
    let byte : byte_of spans (at + n) ≡ slice_index span.bytes.items (at + n - span.at) = byte_within 0 spans i span (at + n) o e (omega arith) (omega arith) in
    rw (vector_within spans i at n span o e from (omega arith), here, there, byte) refl
