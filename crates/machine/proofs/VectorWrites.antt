-- What a write of a vector register, and one of each, makes of all.
use Rattle.std.proofs.Common.{◌≡◌, ℕ, zero, suc, ◌+◌, ◌<◌, ◌≤◌, Bool, List, [], ◌∷◌, ◌++◌, length, take, drop, map, get_or, slice_set, refl, sym, ◌∙◌, ap, arith, add-one, append_assoc}
use Rattle.std.specs.Prelude.{slice_index_or}
use Rattle.std.proofs.Math.Seq.{drop-cons, get_or-append_seam}
use Rattle.std.proofs.lemmas.List.{length-map, length-take-le, map-append, map-set, take_more}
use Rattle.lane_views.specs.declared.Bytes32.{Bytes32}
use Rattle.machine.specs.Vectors.{cleared_above, written_vector}
use Rattle.memory_spans.proofs.VectorBlocks.{set_behind}

-- the bytes of a vector
abbrev bytes_in : Bytes32 → List ℕ
bytes_in v = v.bytes

abbrev no_bytes : Bytes32
no_bytes = record { bytes = [] }

-- the bytes of vector register n
read_bytes : (vecs : List Bytes32) (n : ℕ) → (slice_index_or vecs n no_bytes).bytes ≡ get_or (map bytes_in vecs) n []
read_bytes [] n = refl
read_bytes (v ∷ vecs) zero = refl
read_bytes (v ∷ vecs) (suc n) = read_bytes vecs n

-- one vector register written
pub vector_put : (vecs : List Bytes32) (r : ℕ) (v : Bytes32) (vex : Bool) (new : List ℕ)
    → v.bytes ≡ written_vector vex (slice_index_or vecs r no_bytes).bytes new
    → map bytes_in (slice_set vecs r v) ≡ slice_set (map bytes_in vecs) r (written_vector vex (get_or (map bytes_in vecs) r []) new)
vector_put vecs r v vex new e =
    map-set bytes_in vecs r v
    ∙ ap (λ (bytes : List ℕ). slice_set (map bytes_in vecs) r bytes) (e ∙ ap (λ (old : List ℕ). written_vector vex old new) (read_bytes vecs r))

read_behind : (xs ys : List (List ℕ)) (y : List ℕ) (k : ℕ) → length xs ≡ k → get_or (xs ++ y ∷ ys) k [] ≡ y
read_behind xs ys y k e = ap (λ (n : ℕ). get_or (xs ++ y ∷ ys) n []) (sym e) ∙ get_or-append_seam xs y ys []

-- one vector register more cleared
next_cleared : (all now : List (List ℕ)) (n : ℕ) (new : List ℕ) → n < length all → now ≡ map cleared_above (take n all) ++ drop n all
    → new ≡ cleared_above (get_or now n []) → slice_set now n new ≡ map cleared_above (take (n + 1) all) ++ drop (n + 1) all
next_cleared all now n new low so_far e =
    let item : List ℕ = get_or all n [] in
    let front : List (List ℕ) = map cleared_above (take n all) in
    let size : length front ≡ n = length-map (take n all) cleared_above ∙ length-take-le n all (omega (arith, low)) in
    let rest : drop n all ≡ item ∷ drop (n + 1) all = drop-cons all n [] low ∙ ap (λ (k : ℕ). item ∷ drop k all) (sym (add-one n)) in
    let whole : now ≡ front ++ item ∷ drop (n + 1) all = so_far ∙ ap (λ (xs : List (List ℕ)). front ++ xs) rest in
    let read : get_or now n [] ≡ item = ap (λ (xs : List (List ℕ)). get_or xs n []) whole ∙ read_behind front (drop (n + 1) all) item n size in
    let value : new ≡ cleared_above item = e ∙ ap cleared_above read in
    let more : map cleared_above (take (n + 1) all) ≡ front ++ cleared_above item ∷ [] =
    ap (map cleared_above) (take_more all n [] low) ∙ map-append cleared_above (take n all) (item ∷ []) in
    ap (λ (xs : List (List ℕ)). slice_set xs n new) whole
    ∙ set_behind front (drop (n + 1) all) item new n size
    ∙ ap (λ (v : List ℕ). front ++ v ∷ drop (n + 1) all) value
    ∙ sym (append_assoc front (cleared_above item ∷ []) (drop (n + 1) all))
    ∙ ap (λ (xs : List (List ℕ)). xs ++ drop (n + 1) all) (sym more)

-- the same of the vectors of the code
pub vector_cleared : (all now : List Bytes32) (n : ℕ) (new : Bytes32) → n < length all
    → map bytes_in now ≡ map cleared_above (take n (map bytes_in all)) ++ drop n (map bytes_in all)
    → new.bytes ≡ cleared_above (slice_index_or now n no_bytes).bytes
    → map bytes_in (slice_set now n new) ≡ map cleared_above (take (n + 1) (map bytes_in all)) ++ drop (n + 1) (map bytes_in all)
vector_cleared all now n new low so_far e =
    map-set bytes_in now n new
    ∙ next_cleared (map bytes_in all) (map bytes_in now) n new.bytes (omega (arith, low, length-map all bytes_in)) so_far (e ∙ ap cleared_above (read_bytes now n))

past_all : (all : List (List ℕ)) (n : ℕ) → length all ≤ n → map cleared_above (take n all) ++ drop n all ≡ map cleared_above all
past_all [] zero h = refl
past_all [] (suc n) h = refl
past_all (x ∷ xs) zero h = absurd (omega (arith, h))
past_all (x ∷ xs) (suc n) h = ap (λ (ys : List (List ℕ)). cleared_above x ∷ ys) (past_all xs n (omega (arith, h)))

-- all vector registers cleared
pub all_cleared : (all now : List Bytes32) (n : ℕ) → length all ≤ n
    → map bytes_in now ≡ map cleared_above (take n (map bytes_in all)) ++ drop n (map bytes_in all) → map bytes_in now ≡ map cleared_above (map bytes_in all)
all_cleared all now n past so_far = so_far ∙ past_all (map bytes_in all) n (omega (arith, past, length-map all bytes_in))

-- the next low byte stands in place of a high vector's
pub low_next : (low high : List ℕ) (k : ℕ) (byte : ℕ) → k < 32 → length low ≡ 32 → length high ≡ 32 → byte ≡ get_or low k byte
    → slice_set (take k low ++ drop k high) k byte ≡ take (k + 1) low ++ drop (k + 1) high
low_next low high k byte h size whole e =
    let first : length (take k low) ≡ k = length-take-le k low (omega (arith, h, size)) in
    let more : take (k + 1) low ≡ take k low ++ get_or low k byte ∷ [] = take_more low k byte (omega (arith, h, size)) in
    let rest : drop k high ≡ get_or high k 0 ∷ drop (k + 1) high = drop-cons high k 0 (omega (arith, h, whole)) ∙ ap (λ (n : ℕ). get_or high k 0 ∷ drop n high) (sym (add-one k)) in
    rw (rest, more, ← e, append_assoc) (set_behind (take k low) (drop (k + 1) high) (get_or high k 0) byte k first)

pub ruleset next_low = (low_next)
