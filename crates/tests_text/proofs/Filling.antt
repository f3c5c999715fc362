-- Single steps of the loops over pieces, digits and arrays.
use Rattle.std.proofs.Common.{◌≡◌, ℕ, zero, suc, ◌+◌, ◌-◌, ◌/◌, ◌^◌, ◌<◌, ◌≤◌, min, true, List, [], ◌∷◌, ◌++◌, length, get_or, take, drop, Option, Some, None, refl, sym, ap, ◌∙◌, append_assoc, append-nil, arith}
use Rattle.std.proofs.lemmas.List.{drop_all, drop_more, take_all}
use Rattle.std.proofs.lemmas.Grind.{same_number_lists}
use Rattle.lane_views.specs.declared.Bytes32.{Bytes32}
use Rattle.serde_json.specs.Data.{Data, Items, item, no_items}
use Rattle.serde_json.specs.View.{items_view, view}
use Rattle.serde_json.specs.declared.value.Value.{Value}
use Rattle.tests_text.specs.Shapes.{addressed, default_byte}
use Rattle.text_parts.specs.Bytes.{decoded, is_hex_text}
use Rattle.tests_text.specs.Reading.{◌>>=◌, bytes_of, default_vector, piece_of, size_of, vector}
use Rattle.tests_text.proofs.Collecting.{before_those, values-only}
use Rattle.text_parts.proofs.ByteTexts.{length-decoded}
use Rattle.tests_text.proofs.TestParts.{length-addressed, piece-sound}

-- values that are left, and the first of them
pub view-more : (xs : List Value) (i : ℕ) (x : Value) → i < length xs → x ≡ get_or xs i x → items_view (drop i xs) ≡ item (view x) (items_view (drop (i + 1) xs))
view-more xs i x below is =
    ap items_view (drop_more xs i x below) ∙ ap (λ (y : Value). item (view y) (items_view (drop (i + 1) xs))) (sym is)

pub view-end : (xs : List Value) (i : ℕ) → length xs ≤ i → items_view (drop i xs) ≡ no_items
view-end xs i over = ap items_view (drop_all i xs over)

-- sizes

pub size-more : (whole : Option ℕ) (ds rest : Items) (d : Data) (n m at : ℕ) (text : List ℕ) → size_of n ds ≡ whole → ds ≡ item d rest → Some (at, text) ≡ piece_of d
    → m ≡ min (n + length text / 2) (2 ^ 64 - 1) → size_of m rest ≡ whole
unfolding size_of
size-more whole ds rest d n m at text so_far is read grown =
    ap (λ (k : ℕ). size_of k rest) grown ∙ ap (λ (o : Option (ℕ × List ℕ)). o >>= λ piece. size_of (min (n + length piece.1 / 2) (2 ^ 64 - 1)) rest) read
    ∙ ap (size_of n) (sym is) ∙ so_far

pub size-stop : (whole : Option ℕ) (ds rest : Items) (d : Data) (n : ℕ) → size_of n ds ≡ whole → ds ≡ item d rest → None ≡ piece_of d → None ≡ whole
unfolding size_of
size-stop whole ds rest d n so_far is read =
    ap (λ (o : Option (ℕ × List ℕ)). o >>= λ piece. size_of (min (n + length piece.1 / 2) (2 ^ 64 - 1)) rest) read ∙ ap (size_of n) (sym is) ∙ so_far

pub size-end : (whole : Option ℕ) (ds : Items) (n : ℕ) → size_of n ds ≡ whole → ds ≡ no_items → Some n ≡ whole
unfolding size_of
size-end whole ds n so_far is = ap (size_of n) (sym is) ∙ so_far

-- bytes

before_all : (bs here : List (ℕ × ℕ)) (left : Option (List (ℕ × ℕ))) → before_those bs (left >>= λ more. Some (here ++ more)) ≡ before_those (bs ++ here) left
before_all bs here None = refl
before_all bs here (Some more) = ap (λ (xs : List (ℕ × ℕ)). Some xs) (sym (append_assoc bs here more))

pub bytes-more : (whole : Option (List (ℕ × ℕ))) (ds rest : Items) (d : Data) (at : ℕ) (text : List ℕ) (bs kept : List (ℕ × ℕ)) → whole ≡ before_those bs (bytes_of ds) → ds ≡ item d rest
    → Some (at, text) ≡ piece_of d → kept ≡ bs ++ addressed at (decoded text) → whole ≡ before_those kept (bytes_of rest)
unfolding bytes_of
bytes-more whole ds rest d at text bs kept so_far is read grown =
    so_far ∙ ap (λ (es : Items). before_those bs (bytes_of es)) is
    ∙ ap (λ (o : Option (ℕ × List ℕ)). before_those bs (o >>= λ piece. (bytes_of rest >>= λ more. Some (addressed piece.0 (decoded piece.1) ++ more)))) (sym read)
    ∙ before_all bs (addressed at (decoded text)) (bytes_of rest) ∙ ap (λ (xs : List (ℕ × ℕ)). before_those xs (bytes_of rest)) (sym grown)

pub bytes-stop : (whole : Option (List (ℕ × ℕ))) (ds rest : Items) (d : Data) (bs : List (ℕ × ℕ)) → whole ≡ before_those bs (bytes_of ds) → ds ≡ item d rest → None ≡ piece_of d → None ≡ whole
unfolding bytes_of
bytes-stop whole ds rest d bs so_far is read =
    sym (so_far ∙ ap (λ (es : Items). before_those bs (bytes_of es)) is
    ∙ ap (λ (o : Option (ℕ × List ℕ)). before_those bs (o >>= λ piece. (bytes_of rest >>= λ more. Some (addressed piece.0 (decoded piece.1) ++ more)))) (sym read))

pub bytes-end : (whole : Option (List (ℕ × ℕ))) (ds : Items) (bs : List (ℕ × ℕ)) → whole ≡ before_those bs (bytes_of ds) → ds ≡ no_items → Some bs ≡ whole
unfolding bytes_of
bytes-end whole ds bs so_far is = sym (so_far ∙ ap (λ (es : Items). before_those bs (bytes_of es)) is ∙ ap (λ (xs : List (ℕ × ℕ)). Some xs) (append-nil bs))

-- what a piece that is read has
pub piece-hex : (d : Data) (at : ℕ) (text : List ℕ) → Some (at, text) ≡ piece_of d → is_hex_text text ≡ true
piece-hex d at text read = (piece-sound d at text (sym read)).0

pub piece-ends : (d : Data) (at : ℕ) (text : List ℕ) → Some (at, text) ≡ piece_of d → at + length text / 2 ≤ 2 ^ 64
piece-ends d at text read = (piece-sound d at text (sym read)).1

-- digits

plus-zero : (k : ℕ) → k ≡ k + 0
plus-zero k = omega arith

shift : (k m : ℕ) → k + 1 + m ≡ k + suc m
shift k m = omega arith

one-more : (n : ℕ) → n + 1 ≡ suc n
one-more n = omega arith

addressed-suc : (xs : List ℕ) (a n : ℕ) → n < length xs → take (suc n) (addressed a xs) ≡ take n (addressed a xs) ++ (a + n, get_or xs n 0) ∷ []
addressed-suc [] a n inside = absurd (omega arith)
addressed-suc (x ∷ xs) a zero inside = ap (λ (k : ℕ). (k, x) ∷ []) (plus-zero a)
addressed-suc (x ∷ xs) a (suc n) inside =
    ap (λ (ys : List (ℕ × ℕ)). (a, x) ∷ ys)
    (addressed-suc xs (a + 1) n (omega arith) ∙ ap (λ (k : ℕ). take n (addressed (a + 1) xs) ++ (k, get_or xs n 0) ∷ []) (shift a n))

addressed-more : (bs : List ℕ) (at i : ℕ) → i < length bs → take (i + 1) (addressed at bs) ≡ take i (addressed at bs) ++ (at + i, get_or bs i 0) ∷ []
addressed-more bs at i below = ap (λ (n : ℕ). take n (addressed at bs)) (one-more i) ∙ addressed-suc bs at i below

pub push-more : (new bytes all : List (ℕ × ℕ)) (text : List ℕ) (at i b : ℕ) → is_hex_text text ≡ true → i < length text / 2 → bytes ≡ all ++ take i (addressed at (decoded text))
    → b ≡ get_or (decoded text) i 0 → new ≡ bytes ++ (at + i, b) ∷ [] → new ≡ all ++ take (i + 1) (addressed at (decoded text))
push-more new bytes all text at i b hex below so_far read grown =
    let inside : i < length (decoded text) = omega (arith, length-decoded text hex) in
    grown ∙ ap (λ (xs : List (ℕ × ℕ)). xs ++ (at + i, b) ∷ []) so_far ∙ ap (λ (v : ℕ). (all ++ take i (addressed at (decoded text))) ++ (at + i, v) ∷ []) read
    ∙ append_assoc all (take i (addressed at (decoded text))) ((at + i, get_or (decoded text) i 0) ∷ [])
    ∙ ap (λ (xs : List (ℕ × ℕ)). all ++ xs) (sym (addressed-more (decoded text) at i inside))

pub push-end : (bytes all : List (ℕ × ℕ)) (text : List ℕ) (at i : ℕ) → is_hex_text text ≡ true → length text / 2 ≤ i → bytes ≡ all ++ take i (addressed at (decoded text))
    → bytes ≡ all ++ addressed at (decoded text)
push-end bytes all text at i hex over so_far =
    let short : length (addressed at (decoded text)) ≤ i = omega (arith, length-addressed (decoded text) at, length-decoded text hex) in
    so_far ∙ ap (λ (xs : List (ℕ × ℕ)). all ++ xs) (take_all i (addressed at (decoded text)) short)

-- vectors

pub vector-decoded : (bytes text : List ℕ) (i : ℕ) → is_hex_text text ≡ true → length text ≡ 64 → 32 ≤ i → length bytes ≡ 32
    → ((j : ℕ) → j < i → get_or bytes j 0 ≡ get_or (decoded text) j 0) → ◌≡◌ {A = Bytes32} (record { bytes = bytes }) (vector (decoded text))
vector-decoded bytes text i hex long over count each =
    ap vector (same_number_lists bytes (decoded text) (omega (arith, length-decoded text hex)) (λ j below. each j (omega arith)))

pub vector-default : (k n : ℕ) (bytes : List ℕ) (i : ℕ) → 32 ≤ i → length bytes ≡ 32 → ((j : ℕ) → j < i → get_or bytes j 0 ≡ default_byte k n j)
    → ◌≡◌ {A = Bytes32} (record { bytes = bytes }) (default_vector k n)
vector-default k n bytes i over count each =
    ap vector (values-only (default_byte k n) bytes 32 0 count (λ j below. each j (omega arith) ∙ ap (default_byte k n) (zero-first j)))
  where
    zero-first : (m : ℕ) → m ≡ 0 + m
    zero-first m = omega arith
