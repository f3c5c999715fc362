-- What the code reads of the parts of a test, against their definitions.
use Rattle.std.proofs.Common.{◌≡◌, ℕ, ◌+◌, ◌-◌, ◌/◌, ◌%◌, ◌^◌, ◌<◌, ◌≤◌, min, Bool, true, false, ◌&&◌, cond, eqb, leb, List, [], ◌∷◌, ◌++◌, length, get_or, slice_get, Option, Some, None, IfSome, codes, refl, sym, ap, ◌∙◌, subst, length-append, arith}
use Rattle.std.specs.Char.{is_digit}
use Rattle.std.specs.List.{list_all}
use Rattle.std.proofs.lemmas.Bool.{and_parts, eqb-true, eq-eqb, le-leb, leb-true}
use Rattle.std.proofs.lemmas.Option.{get_or_from_slice_get, same_Some, slice_get-get_or, slice_get_within}
use Rattle.lane_views.specs.declared.Bytes32.{Bytes32}
use Rattle.serde_json.specs.Data.{Data, Items, item, no_items}
use Rattle.serde_json.specs.Find.{as_array, as_str, get}
use Rattle.register_names.specs.Names.{register_names}
use Rattle.text_parts.specs.Bytes.{AreHexBytes, decoded, is_hex_text}
use Rattle.text_parts.proofs.ByteTexts.{hex-known, hex-only, length-decoded}
use Rattle.tests_text.specs.declared.shape.Kind.{Kind}
use Rattle.tests_text.specs.declared.shape.Kind.TheVariants as kinds
use Rattle.tests_text.specs.Shapes.{addressed, AreBytes, ArePieces, AreRegisters, AreVectors, default_byte, default_register, IsPiece, IsRegisterValue, IsVector, is_object, member_of, numerals}
use Rattle.tests_text.specs.Reading.{◌>>=◌, bytes_of, collected, default_vector, is_object_or_none, name_at, piece_of, pieces_of, register_of, registers_of, size_of, values, vector, vector_in, vector_of, vectors_of, whole_of}
use Rattle.tests_text.proofs.Collecting.{bind-some, collected-known, collected-only, length-values, values-at, values-only}
use Rattle.tests_text.proofs.Values.{array-known, str-known, whole-known, whole-only}

-- of a choice that has a value, which way it went
chosen_then : {A : Type 0} (b : Bool) (x : Option A) (y : A) → cond b x None ≡ Some y → (b ≡ true) × (x ≡ Some y)
chosen_then true x y h = (refl, h)
chosen_then false x y h = absurd (cc)

object-known : (kind : Kind) (found : Option Data) → is_object_or_none found (is_object kind) ≡ true → IfSome found (λ d. is_object kind d ≡ true)
object-known kind None h = tt
object-known kind (Some d) h = h

object-only : (kind : Kind) (found : Option Data) → IfSome found (λ d. is_object kind d ≡ true) → is_object_or_none found (is_object kind) ≡ true
object-only kind None h = refl
object-only kind (Some d) h = h

zero-first : (n : ℕ) → 0 + n ≡ n
zero-first n = omega arith

-- registers

register-known : (k n : ℕ) (found : Option Data) (v : ℕ) → register_of k n found ≡ Some v → IsRegisterValue k n found v
register-known k n None v h = sym (same_Some (default_register k n) v h)
register-known k n (Some d) v h = whole-known d v h

register-only : (k n : ℕ) (found : Option Data) (v : ℕ) → IsRegisterValue k n found v → register_of k n found ≡ Some v
register-only k n None v is = ap (λ (x : ℕ). Some x) (sym is)
register-only k n (Some d) v is = whole-only d v is

name-is : (table : List (List ℕ)) (n : ℕ) (name : List ℕ) → slice_get table n ≡ Some name → name_at table n ≡ name
name-is table n name there = get_or_from_slice_get table n name [] there

pub registers-known : (k : ℕ) (found : Option Data) (regs : List ℕ) → registers_of k found ≡ Some regs → AreRegisters k found regs
unfolding registers_of
registers-known k found regs h =
    let value : ℕ → Option ℕ = λ n. register_of k n (member_of found (name_at (register_names 64) n)) in
    let p = chosen_then (is_object_or_none found (is_object kinds.Registers)) (collected value 0 16) regs h in
    let all = collected-known value 16 0 regs p.1 in
    record {
      named = object-known kinds.Registers found p.0;
      sixteen = all.0;
      each = λ n name there.
          let below : n < 16 = slice_get_within (register_names 64) n name there in
          let at : register_of k n (member_of found (name_at (register_names 64) n)) ≡ Some (get_or regs n 0) = ap value (sym (zero-first n)) ∙ all.1 n 0 below in
          register-known k n (member_of found name) (get_or regs n 0) (ap (λ (x : List ℕ). register_of k n (member_of found x)) (sym (name-is (register_names 64) n name there)) ∙ at);
    }

pub registers-only : (k : ℕ) (found : Option Data) (regs : List ℕ) → AreRegisters k found regs → registers_of k found ≡ Some regs
unfolding registers_of
registers-only k found regs are =
    let value : ℕ → Option ℕ = λ n. register_of k n (member_of found (name_at (register_names 64) n)) in
    let all : collected value 0 16 ≡ Some regs = collected-only value regs 16 0 are.sixteen (λ n v there.
    let below : n < length regs = slice_get_within regs n v there in
    let named : slice_get (register_names 64) n ≡ Some (name_at (register_names 64) n) = slice_get-get_or (register_names 64) n [] (omega (arith, are.sixteen)) in
    let read : get_or regs n 0 ≡ v = get_or_from_slice_get regs n v 0 there in
    ap value (zero-first n) ∙ register-only k n (member_of found (name_at (register_names 64) n)) (get_or regs n 0) (are.each n (name_at (register_names 64) n) named) ∙ ap (λ (x : ℕ). Some x) read) in
    let object = object-only kinds.Registers found are.named in
    rw object all

-- vectors

vector_in-known : (text : List ℕ) (v : Bytes32) → vector_in text ≡ Some v → (length v.bytes ≡ 32) × AreHexBytes text v.bytes
unfolding vector_in
vector_in-known text v h =
    let p = chosen_then (is_hex_text text && eqb (length text) 64) (Some (vector (decoded text))) v h in
    let q = and_parts (is_hex_text text) (eqb (length text) 64) p.0 in
    let is : vector (decoded text) ≡ v = same_Some (vector (decoded text)) v p.1 in
    let bytes : decoded text ≡ v.bytes = ap (λ (x : Bytes32). x.bytes) is in
    (ap length (sym bytes) ∙ omega (arith, length-decoded text q.0, eqb-true (length text) 64 q.1), subst (AreHexBytes text) bytes (hex-known text q.0))

vector_in-only : (text : List ℕ) (v : Bytes32) → length v.bytes ≡ 32 → AreHexBytes text v.bytes → vector_in text ≡ Some v
unfolding vector_in
vector_in-only text v long are =
    let p = hex-only v.bytes text are in
    let even : length text % 2 ≡ 0 = eqb-true (length text % 2) 0 (and_parts (eqb (length text % 2) 0) (list_all (λ b. is_digit b 16) text) p.0).0 in
    let count : length text ≡ 64 = omega (arith, length-decoded text p.0, ap length p.1) in
    let digits = eq-eqb (length text) 64 count in
    rw (p.0, digits) (ap (λ (bs : List ℕ). Some (vector bs)) p.1)

vector-known : (k n : ℕ) (found : Option Data) (v : Bytes32) → vector_of k n found ≡ Some v → IsVector k n found v.bytes
vector-known k n None v h =
    let is : values (default_byte k n) 0 32 ≡ v.bytes = ap (λ (x : Bytes32). x.bytes) (same_Some (default_vector k n) v h) in
    subst (λ (bs : List ℕ). (length bs ≡ 32) × ((i : ℕ) → i < 32 → get_or bs i 0 ≡ default_byte k n i)) is
    (length-values (default_byte k n) 32 0, λ i below. values-at (default_byte k n) 32 0 i below ∙ ap (default_byte k n) (zero-first i))
vector-known k n (Some d) v h =
    let text = bind-some (as_str d) vector_in v h in
    let p = vector_in-known text.0 v text.2 in
    (p.0, (text.0, str-known d text.0 text.1, p.1))

vector-only : (k n : ℕ) (found : Option Data) (v : Bytes32) → IsVector k n found v.bytes → vector_of k n found ≡ Some v
vector-only k n None v is = ap (λ (bs : List ℕ). Some (vector bs)) (sym (values-only (default_byte k n) v.bytes 32 0 is.0 (λ i below. is.1 i below ∙ ap (default_byte k n) (sym (zero-first i)))))
vector-only k n (Some d) v is = ap (λ (x : Data). as_str x >>= vector_in) is.1.1 ∙ vector_in-only is.1.0 v is.0 is.1.2

pub vectors-known : (k : ℕ) (found : Option Data) (vecs : List Bytes32) → vectors_of k found ≡ Some vecs → AreVectors k found vecs
unfolding vectors_of
vectors-known k found vecs h =
    let value : ℕ → Option Bytes32 = λ n. vector_of k n (member_of found (name_at numerals n)) in
    let p = chosen_then (is_object_or_none found (is_object kinds.Vectors)) (collected value 0 16) vecs h in
    let all = collected-known value 16 0 vecs p.1 in
    record {
      named = object-known kinds.Vectors found p.0;
      sixteen = all.0;
      each = λ n name v there is.
          let below : n < 16 = slice_get_within numerals n name there in
          let at : vector_of k n (member_of found (name_at numerals n)) ≡ Some (get_or vecs n v) = ap value (sym (zero-first n)) ∙ all.1 n v below in
          let same : get_or vecs n v ≡ v = get_or_from_slice_get vecs n v v is in
          vector-known k n (member_of found name) v
          (ap (λ (x : List ℕ). vector_of k n (member_of found x)) (sym (name-is numerals n name there)) ∙ at ∙ ap (λ (x : Bytes32). Some x) same);
    }

pub vectors-only : (k : ℕ) (found : Option Data) (vecs : List Bytes32) → AreVectors k found vecs → vectors_of k found ≡ Some vecs
unfolding vectors_of
vectors-only k found vecs are =
    let value : ℕ → Option Bytes32 = λ n. vector_of k n (member_of found (name_at numerals n)) in
    let all : collected value 0 16 ≡ Some vecs = collected-only value vecs 16 0 are.sixteen (λ n v there.
    let below : n < length vecs = slice_get_within vecs n v there in
    let named : slice_get numerals n ≡ Some (name_at numerals n) = slice_get-get_or numerals n [] (omega (arith, are.sixteen)) in
    ap value (zero-first n) ∙ vector-only k n (member_of found (name_at numerals n)) v (are.each n (name_at numerals n) v named there)) in
    let object = object-only kinds.Vectors found are.named in
    rw object all

-- pieces

record IsPieceText (d : Data) (at : ℕ) (text : List ℕ) : Type 0 where
  hex : is_hex_text text ≡ true
  piece : IsPiece d at (decoded text)

piece-known : (d : Data) (at : ℕ) (text : List ℕ) → piece_of d ≡ Some (at, text) → IsPieceText d at text
unfolding piece_of
piece-known d at text h =
    let place = bind-some (cond (is_object kinds.Piece d) (get (codes "at") d) None)
    (λ place. whole_of place >>= λ a. (get (codes "hex") d >>= λ digits. (as_str digits >>= λ t. cond (is_hex_text t && leb (a + length t / 2) (2 ^ 64)) (Some (a, t)) None))) (at, text) h in
    let whole = bind-some (whole_of place.0)
    (λ a. get (codes "hex") d >>= λ digits. (as_str digits >>= λ t. cond (is_hex_text t && leb (a + length t / 2) (2 ^ 64)) (Some (a, t)) None)) (at, text) place.2 in
    let digits = bind-some (get (codes "hex") d) (λ digits. as_str digits >>= λ t. cond (is_hex_text t && leb (whole.0 + length t / 2) (2 ^ 64)) (Some (whole.0, t)) None) (at, text) whole.2 in
    let str = bind-some (as_str digits.0) (λ t. cond (is_hex_text t && leb (whole.0 + length t / 2) (2 ^ 64)) (Some (whole.0, t)) None) (at, text) digits.2 in
    let within = chosen_then (is_hex_text str.0 && leb (whole.0 + length str.0 / 2) (2 ^ 64)) (Some (whole.0, str.0)) (at, text) str.2 in
    let object = chosen_then (is_object kinds.Piece d) (get (codes "at") d) place.0 place.1 in
    let both = and_parts (is_hex_text str.0) (leb (whole.0 + length str.0 / 2) (2 ^ 64)) within.0 in
    let same : ◌≡◌ {A = ℕ × List ℕ} (whole.0, str.0) (at, text) = same_Some (whole.0, str.0) (at, text) within.1 in
    let fits = leb-true (whole.0 + length str.0 / 2) (2 ^ 64) both.1 in
    subst (λ (p : ℕ × List ℕ). IsPieceText d p.0 p.1) same
    (record {
      hex = both.0;
      piece = record {
        named = object.0;
        place = place.0;
        has_place = object.1;
        place_is = whole-known place.0 whole.0 whole.1;
        text = str.0;
        has_text = digits.1 ∙ ap (λ (x : Data). Some x) (str-known digits.0 str.0 str.1);
        bytes_are = hex-known str.0 both.0;
        ends = omega (arith, length-decoded str.0 both.0, fits);
      };
    })

pub piece-sound : (d : Data) (at : ℕ) (text : List ℕ) → piece_of d ≡ Some (at, text) → (is_hex_text text ≡ true) × (at + length text / 2 ≤ 2 ^ 64)
piece-sound d at text h = let is = piece-known d at text h in (is.hex, omega (arith, is.piece.ends, length-decoded text is.hex))

piece-only : (d : Data) (at : ℕ) (bytes : List ℕ) (p : IsPiece d at bytes) → piece_of d ≡ Some (at, p.text)
unfolding piece_of
piece-only d at bytes p =
    let hex = hex-only bytes p.text p.bytes_are in
    let long : length p.text / 2 ≡ length bytes = sym (length-decoded p.text hex.0) ∙ ap length hex.1 in
    let fits : leb (at + length p.text / 2) (2 ^ 64) ≡ true = le-leb (at + length p.text / 2) (2 ^ 64) (omega (arith, p.ends)) in
    let whole : whole_of p.place ≡ Some at = whole-only p.place at p.place_is in
    rw (p.named, p.has_place, whole, p.has_text, hex.0, fits) refl

pub bytes-known : (ds : Items) (bytes : List (ℕ × ℕ)) → bytes_of ds ≡ Some bytes → ArePieces ds bytes
unfolding bytes_of
bytes-known no_items bytes h = sym (same_Some [] bytes h)
bytes-known (item d ds) bytes h =
    let piece = bind-some (piece_of d) (λ piece. bytes_of ds >>= λ more. Some (addressed piece.0 (decoded piece.1) ++ more)) bytes h in
    let more = bind-some (bytes_of ds) (λ more. Some (addressed piece.0.0 (decoded piece.0.1) ++ more)) bytes piece.2 in (
      piece.0.0,
      decoded piece.0.1,
      more.0,
      (piece-known d piece.0.0 piece.0.1 piece.1).piece,
      bytes-known ds more.0 more.1,
      sym (same_Some (addressed piece.0.0 (decoded piece.0.1) ++ more.0) bytes more.2),
    )

pub bytes-only : (ds : Items) (bytes : List (ℕ × ℕ)) → ArePieces ds bytes → bytes_of ds ≡ Some bytes
unfolding bytes_of
bytes-only no_items bytes are = ap (λ (bs : List (ℕ × ℕ)). Some bs) (sym are)
bytes-only (item d ds) bytes are =
    let piece = piece-only d are.0 are.1 are.3 in
    let hex = hex-only are.1 are.3.text are.3.bytes_are in
    let more = bytes-only ds are.2 are.4 in
    rw (piece, more) (ap (λ (bs : List ℕ). Some (addressed are.0 bs ++ are.2)) hex.1 ∙ ap (λ (bs : List (ℕ × ℕ)). Some bs) (sym are.5))

pub length-addressed : (bytes : List ℕ) (at : ℕ) → length (addressed at bytes) ≡ length bytes
length-addressed [] at = refl
length-addressed (b ∷ bs) at = let e = length-addressed bs (at + 1) in omega arith

-- how many bytes pieces have, capped
pub size-known : (ds : Items) (n size : ℕ) → n ≤ 2 ^ 64 - 1 → size_of n ds ≡ Some size
    → (bytes : List (ℕ × ℕ)) × (bytes_of ds ≡ Some bytes) × (size ≡ min (n + length bytes) (2 ^ 64 - 1))
unfolding size_of bytes_of
size-known no_items n size small h = ([], refl, sym (same_Some n size h) ∙ omega arith)
size-known (item d ds) n size small h =
    let piece = bind-some (piece_of d) (λ piece. size_of (min (n + length piece.1 / 2) (2 ^ 64 - 1)) ds) size h in
    let is = piece-known d piece.0.0 piece.0.1 piece.1 in
    let more = size-known ds (min (n + length piece.0.1 / 2) (2 ^ 64 - 1)) size (omega arith) piece.2 in
    let here : List (ℕ × ℕ) = addressed piece.0.0 (decoded piece.0.1) in
    let count : length here ≡ length piece.0.1 / 2 = length-addressed (decoded piece.0.1) piece.0.0 ∙ length-decoded piece.0.1 is.hex in (
      here ++ more.0,
      ap (λ (o : Option (ℕ × List ℕ)). o >>= λ found. (bytes_of ds >>= λ rest. Some (addressed found.0 (decoded found.1) ++ rest))) piece.1
          ∙ ap (λ (o : Option (List (ℕ × ℕ))). o >>= λ rest. Some (here ++ rest)) more.1,
      omega (arith, more.2, count, length-append here more.0),
    )

pub size-only : (ds : Items) (n : ℕ) (bytes : List (ℕ × ℕ)) → bytes_of ds ≡ Some bytes → (size : ℕ) × (size_of n ds ≡ Some size)
unfolding size_of bytes_of
size-only no_items n bytes h = (n, refl)
size-only (item d ds) n bytes h =
    let piece = bind-some (piece_of d) (λ piece. bytes_of ds >>= λ more. Some (addressed piece.0 (decoded piece.1) ++ more)) bytes h in
    let more = bind-some (bytes_of ds) (λ more. Some (addressed piece.0.0 (decoded piece.0.1) ++ more)) bytes piece.2 in
    let rest = size-only ds (min (n + length piece.0.1 / 2) (2 ^ 64 - 1)) more.0 more.1 in
    (rest.0, ap (λ (o : Option (ℕ × List ℕ)). o >>= λ piece. size_of (min (n + length piece.1 / 2) (2 ^ 64 - 1)) ds) piece.1 ∙ rest.1)

-- the memory of a test

pub memory-known : (found : Option Data) (ds : Items) (bytes : List (ℕ × ℕ)) → pieces_of found ≡ Some ds → bytes_of ds ≡ Some bytes → AreBytes found bytes
memory-known None ds bytes h read = none-by ds bytes (same_Some no_items ds h) read
  where
    none-by : (es : Items) (bs : List (ℕ × ℕ)) → no_items ≡ es → bytes_of es ≡ Some bs → bs ≡ []
    none-by es bs is got = subst (λ (xs : Items). ArePieces xs bs) (sym is) (bytes-known es bs got)
memory-known (Some d) ds bytes h read = (ds, array-known d ds h, bytes-known ds bytes read)

pub memory-only : (found : Option Data) (bytes : List (ℕ × ℕ)) → AreBytes found bytes → (ds : Items) × (pieces_of found ≡ Some ds) × (bytes_of ds ≡ Some bytes)
memory-only None bytes are = (no_items, refl, bytes-only no_items bytes are)
memory-only (Some d) bytes are = (are.0, ap as_array are.1, bytes-only are.0 bytes are.2)
