-- The values of the rows whose parts are named one after another: the byte that `pshufb` picks, the highest bits that
-- `pmovmskb` joins, and the distances that `psadbw` adds.
use Rattle.std.proofs.Common.{◌≡◌, ◌≢◌, ℕ, zero, suc, ◌+◌, ◌-◌, ◌*◌, ◌^◌, ◌<◌, ◌≤◌, refl, sym, ◌∙◌, ap, subst, inl, inr, arith, add-one, zero-add}
use Rattle.std.proofs.lemmas.Bool.{cases_lt, cases_order, eq-eqb, ne_eqb}
use Rattle.insn_semantics.specs.Exprs.{Expr, Leaf, Let, value, with_leaf}
use Rattle.insn_semantics.specs.Words.{choice, cut, equal, below, minus, plus}
use Rattle.lane_semantics.specs.LaneRows.{zero_extended}
use Rattle.lane_semantics.specs.Sources.{tops}
use Rattle.lane_semantics.specs.VectorRows.{byte_distance, byte_mask, distances, distance_sum, picked, shuffled, tops_joined, with_tops}

pub with_leaf_same : (L : ℕ → ℕ) (i v : ℕ) → with_leaf L i v i ≡ v
with_leaf_same L i v = rw (eq-eqb i i refl) refl

pub with_leaf_other : (L : ℕ → ℕ) (i v j : ℕ) → j ≢ i → with_leaf L i v j ≡ L j
with_leaf_other L i v j h = rw (ne_eqb j i h) refl

-- where the low four bits of leaf 0 are x, the byte so far is byte x once x was passed
pub picked_is : (L : ℕ → ℕ) (left n s x : ℕ) → cut (L 0) 0 4 ≡ x → x < 16 → 0 < n → n + left ≤ 16
    → (x < n → L s ≡ L (1 + x)) → x < n + left → value L (picked left n s) ≡ L (1 + x)
picked_is L zero n s x is low some few passed inside = passed (omega arith)
picked_is L (suc left) n s x is low some few passed inside =
    let v : ℕ = choice (equal (cut (L 0) 0 4) n) (L (1 + n)) (L s) in
    let M : ℕ → ℕ = with_leaf L (16 + n) v in
    let first : M 0 ≡ L 0 = with_leaf_other L (16 + n) v 0 (λ e. omega arith) in
    let byte : M (1 + x) ≡ L (1 + x) = with_leaf_other L (16 + n) v (1 + x) (λ e. omega arith) in
    let named : M (16 + n) ≡ v = with_leaf_same L (16 + n) v in
    let chosen : x < n + 1 → v ≡ L (1 + x) = λ h. elim (cases_order x n) [
      | inl e ↦ rw (is, eq-eqb x n e) (ap (λ (k : ℕ). L (1 + k)) (sym e))
      | inr (inl l) ↦ rw (is, ne_eqb x n (λ e. omega arith)) (passed l)
      | inr (inr g) ↦ absurd (omega arith)
    ] in
    picked_is M left (n + 1) (16 + n) x (ap (λ (b : ℕ). cut b 0 4) first ∙ is) low (omega arith) (omega arith)
    (λ h. named ∙ chosen h ∙ sym byte) (omega arith) ∙ byte

low_four : (n : ℕ) → cut n 0 4 < 16
low_four n = omega arith

-- `pshufb`: zero where the control's highest bit is set, and else the byte that its low four bits number
pub shuffled_is : (L : ℕ → ℕ) → value L shuffled ≡ choice (cut (L 0) 7 1) 0 (L (1 + cut (L 0) 0 4))
unfolding shuffled
shuffled_is L =
    let x : ℕ = cut (L 0) 0 4 in
    let low : x < 16 = low_four (L 0) in
    let first : x < 1 → L 1 ≡ L (1 + x) = λ h. ap L (omega arith) in
    ap (λ (b : ℕ). choice (cut (L 0) 7 1) 0 b) (picked_is L 15 1 1 x refl low (omega arith) (omega arith) first (omega arith))

-- what the highest bits of all bytes named give to the part that reads them
tops_named : (left n : ℕ) (L g : ℕ → ℕ) (x : Expr) (r : ℕ) → n + left ≤ 32 → ((j : ℕ) → j < 32 → L j ≡ g j)
    → ((j : ℕ) → j < n → L (32 + j) ≡ cut (g j) 7 1)
    → ((M : ℕ → ℕ) → ((j : ℕ) → j < n + left → M (32 + j) ≡ cut (g j) 7 1) → value M x ≡ r) → value L (with_tops left n x) ≡ r
tops_named zero n L g x r few bytes tops rest = rest L (λ j h. tops j (omega arith))
tops_named (suc left) n L g x r few bytes tops rest =
    let v : ℕ = cut (L n) 7 1 in
    let M : ℕ → ℕ = with_leaf L (32 + n) v in
    let top : v ≡ cut (g n) 7 1 = ap (λ (b : ℕ). cut b 7 1) (bytes n (omega arith)) in
    let next : (j : ℕ) → j < n + 1 → M (32 + j) ≡ cut (g j) 7 1 = λ j h. elim (cases_lt j n) [
      | inl l ↦ with_leaf_other L (32 + n) v (32 + j) (λ e. omega arith) ∙ tops j l
      | inr m ↦
          let same : j ≡ n = omega arith in
          subst (λ (k : ℕ). M (32 + k) ≡ cut (g k) 7 1) (sym same) (with_leaf_same L (32 + n) v ∙ top)
    ] in
    tops_named left (n + 1) M g x r (omega arith) (λ j h. with_leaf_other L (32 + n) v j (λ e. omega arith) ∙ bytes j h) next
    (λ N h. rest N (λ j k. h j (omega arith)))

tops_joined_are : (M g : ℕ → ℕ) (k : ℕ) → ((j : ℕ) → j < k + 1 → M (32 + j) ≡ cut (g j) 7 1) → value M (tops_joined k) ≡ tops g (suc k)
tops_joined_are M g zero named = let one : M 32 ≡ cut (g 0) 7 1 = named 0 (omega arith) in omega arith
tops_joined_are M g (suc k) named =
    let top : M (32 + (k + 1)) ≡ cut (g (k + 1)) 7 1 = named (k + 1) (omega arith) in
    let lower : value M (tops_joined k) ≡ tops g (suc k) = tops_joined_are M g k (λ j h. named j (omega arith)) in
    rw (top, lower, add-one) refl

-- `pmovmskb`: the highest bits of the bytes
pub byte_mask_256 : (L g : ℕ → ℕ) → ((j : ℕ) → j < 32 → L j ≡ g j) → value L (byte_mask 256) ≡ tops g 32
unfolding byte_mask
byte_mask_256 L g bytes =
    tops_named 32 0 L g (tops_joined 31) (tops g 32) (omega arith) bytes (λ j h. absurd (omega arith))
    (λ M h. tops_joined_are M g 31 (λ j k. h j (omega arith)))

behind_zeros : (x y : ℕ) → x ≡ y → 0 * 2 ^ 16 + x ≡ y
behind_zeros x y e = omega arith

pub byte_mask_128 : (L g : ℕ → ℕ) → ((j : ℕ) → j < 32 → L j ≡ g j) → value L (byte_mask 128) ≡ tops g 16
unfolding byte_mask
byte_mask_128 L g bytes =
    tops_named 16 0 L g (Let 64 (tops_joined 15) (zero_extended 16 32 (Leaf 64))) (tops g 16) (omega arith) bytes (λ j h. absurd (omega arith))
    (λ M h. behind_zeros (value M (tops_joined 15)) (tops g 16) (tops_joined_are M g 15 (λ j k. h j (omega arith))))

-- no bit of zeros is set
pub tops_of_zeros : (g : ℕ → ℕ) (n : ℕ) → ((j : ℕ) → g j ≡ 0) → tops g n ≡ 0
tops_of_zeros g zero h = refl
tops_of_zeros g (suc n) h = rw (h n, tops_of_zeros g n h) (omega arith)

-- the distances of one byte more
pub distances_more : (L : ℕ → ℕ) (k : ℕ) → 0 < k → value L (distances k) ≡ plus 64 (value L (distances (k - 1))) (value L (byte_distance k))
distances_more L zero h = absurd (omega arith)
distances_more L (suc k) h = let e : suc k - 1 ≡ k = omega arith in rw e refl

pub distance_sum_is : (L : ℕ → ℕ) → value L distance_sum ≡ value L (distances 7)
unfolding distance_sum
distance_sum_is L = refl

-- the distance of bytes k, by the bytes
pub byte_distance_is : (L : ℕ → ℕ) (k x y : ℕ) → L k ≡ x → L (8 + k) ≡ y → value L (byte_distance k) ≡ choice (below x y) (minus 8 y x) (minus 8 x y)
byte_distance_is L k x y h j = rw (h, j) (zero-add _)
