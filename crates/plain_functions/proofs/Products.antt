-- Products of lists, item by item, added up modulo 2^64.
use Rattle.std.proofs.Common.{◌≡◌, ◌≢◌, inl, inr, ℕ, zero, suc, ◌+◌, ◌*◌, ◌^◌, ◌%◌, ◌<◌, List, [], ◌∷◌, length, take, set, replicate, get_or, refl, sym, ◌∙◌, ap, arith, add-one}
use Rattle.std.proofs.Math.Nat.{add-mod, add-mod-mod, mod-add-mod, mod-mod}
use Rattle.std.proofs.lemmas.Nat.{mul-mod_first, mul-mod_second}
use Rattle.plain_functions.specs.declared.sums.Sum.{Sum}
use Rattle.plain_functions.specs.Shown.{no_register, one_register}
use Rattle.plain_functions.specs.Sums.{TellsApart, dot, sum_value}

pub dot-zeros : (k : ℕ) (ys : List ℕ) → dot (replicate k 0) ys ≡ 0
dot-zeros zero ys = refl
dot-zeros (suc k) [] = refl
dot-zeros (suc k) (y ∷ ys) = omega (arith, dot-zeros k ys)

-- one coefficient that is 1 among zeros
pub dot-one : (k n : ℕ) (ys : List ℕ) → n < k → length ys ≡ k → dot (set (replicate k 0) n 1) ys ≡ get_or ys n 0
dot-one zero n ys low e = absurd (omega arith)
dot-one (suc k) n [] low e = absurd (omega arith)
dot-one (suc k) zero (y ∷ ys) low e = omega (arith, dot-zeros k ys)
dot-one (suc k) (suc n) (y ∷ ys) low e = omega (arith, dot-one k n ys (omega arith) (omega arith))

pub dot-take_more : (xs ys : List ℕ) (k : ℕ) → k < length xs → length xs ≡ length ys
    → dot (take (k + 1) xs) (take (k + 1) ys) ≡ dot (take k xs) (take k ys) + get_or xs k 0 * get_or ys k 0
dot-take_more [] ys k low e = absurd (omega arith)
dot-take_more (x ∷ xs) [] k low e = absurd (omega arith)
dot-take_more (x ∷ xs) (y ∷ ys) zero low e = omega arith
dot-take_more (x ∷ xs) (y ∷ ys) (suc k) low e = rw add-one (let h = rw add-one at (dot-take_more xs ys k (omega arith) (omega arith)) in omega arith)

-- sums whose parts are the same modulo m
same_sum : (a b c d m : ℕ) → a % m ≡ b % m → c % m ≡ d % m → (a + c) % m ≡ (b + d) % m
same_sum a b c d m p q = add-mod a c m ∙ (let e : (a % m + c % m) % m ≡ (b % m + d % m) % m = cc in e) ∙ sym (add-mod b d m)

one_product : (x y z t w m : ℕ) → z ≡ (x + y * w % m) % m → z * t % m ≡ (x + y * w) * t % m
one_product x y z t w m h = ap (λ v. v * t % m) (h ∙ add-mod-mod x (y * w) m) ∙ mul-mod_first (x + y * w) t m

-- coefficients that are those of a and w times those of b, modulo m
pub dot-plus_times : (w m : ℕ) (a b c : List ℕ) → length a ≡ length c → length b ≡ length c
    → ((j : ℕ) → j < length c → get_or c j 0 ≡ (get_or a j 0 + get_or b j 0 * w % m) % m)
    → (ys : List ℕ) → dot c ys % m ≡ (dot a ys + w * dot b ys) % m
dot-plus_times w m [] [] [] p q each ys = ap (λ v. v % m) (omega arith)
dot-plus_times w m [] (y ∷ b) [] p q each ys = absurd (omega arith)
dot-plus_times w m (x ∷ a) b [] p q each ys = absurd (omega arith)
dot-plus_times w m [] b (z ∷ c) p q each ys = absurd (omega arith)
dot-plus_times w m (x ∷ a) [] (z ∷ c) p q each ys = absurd (omega arith)
dot-plus_times w m (x ∷ a) (y ∷ b) (z ∷ c) p q each [] = ap (λ v. v % m) (omega arith)
dot-plus_times w m (x ∷ a) (y ∷ b) (z ∷ c) p q each (t ∷ ts) =
    let rest = dot-plus_times w m a b c (omega arith) (omega arith) (λ j h. each (suc j) (omega arith)) ts in
    same_sum (z * t) ((x + y * w) * t) (dot c ts) (dot a ts + w * dot b ts) m (one_product x y z t w m (each 0 (omega arith))) rest
    ∙ ap (λ v. v % m) (omega arith)

-- a sum with a weight: its coefficients and its constant together
pub value-plus_times : (w m a b c sc oc : ℕ) → c % m ≡ (a + w * b) % m
    → (c + (sc + oc * w % m) % m) % m ≡ ((a + sc) % m + w * ((b + oc) % m)) % m
value-plus_times w m a b c sc oc h =
    let constant : (sc + oc * w % m) % m % m ≡ (sc + oc * w) % m = mod-mod (sc + oc * w % m) m ∙ add-mod-mod sc (oc * w) m in
    same_sum c (a + w * b) ((sc + oc * w % m) % m) (sc + oc * w) m h constant
    ∙ ap (λ v. v % m) (omega arith)
    ∙ sym (mod-add-mod (a + sc) m (w * ((b + oc) % m))
    ∙ same_sum (a + sc) (a + sc) (w * ((b + oc) % m)) (w * (b + oc)) m refl (mul-mod_second w (b + oc) m))

-- one more product under a running total
pub value-more : (m t d c x y : ℕ) → t ≡ (d + c) % m → (t + x * y % m) % m ≡ (d + x * y + c) % m
value-more m t d c x y h =
    ap (λ v. (v + x * y % m) % m) h ∙ sym (add-mod (d + c) (x * y) m) ∙ ap (λ v. v % m) (omega arith)

dot_comm : (xs ys : List ℕ) → dot xs ys ≡ dot ys xs
dot_comm [] [] = refl
dot_comm [] (y ∷ ys) = refl
dot_comm (x ∷ xs) [] = refl
dot_comm (x ∷ xs) (y ∷ ys) = omega (arith, dot_comm xs ys)

-- the values of a sum at the states that are shown
pub value-none : (s : Sum) → sum_value s no_register ≡ s.constant % 2 ^ 64
value-none s = ap (λ d. (d + s.constant) % 2 ^ 64) (dot_comm s.coefs no_register ∙ dot-zeros 16 s.coefs) ∙ ap (λ v. v % 2 ^ 64) (omega arith)

pub value-one : (s : Sum) (n : ℕ) → n < 16 → length s.coefs ≡ 16 → sum_value s (one_register n) ≡ (get_or s.coefs n 0 + s.constant) % 2 ^ 64
value-one s n low sixteen = ap (λ d. (d + s.constant) % 2 ^ 64) (dot_comm s.coefs (one_register n) ∙ dot-one 16 n s.coefs low sixteen)

dot-same : (a b ys : List ℕ) → length a ≡ length b → ((j : ℕ) → j < length a → get_or a j 0 ≡ get_or b j 0) → dot a ys ≡ dot b ys
dot-same [] [] ys e each = refl
dot-same [] (y ∷ b) ys e each = absurd (omega arith)
dot-same (x ∷ a) [] ys e each = absurd (omega arith)
dot-same (x ∷ a) (y ∷ b) [] e each = refl
dot-same (x ∷ a) (y ∷ b) (t ∷ ts) e each =
    let rest = dot-same a b ts (omega arith) (λ j h. each (suc j) (omega arith)) in
    let first = each 0 (omega arith) in
    ap (λ v. v * t + dot a ts) first ∙ ap (λ v. y * t + v) rest

-- sums with the same coefficients and the same constant
pub value-same : (a b : Sum) → length a.coefs ≡ length b.coefs → ((j : ℕ) → j < length a.coefs → get_or a.coefs j 0 ≡ get_or b.coefs j 0)
    → a.constant ≡ b.constant → (regs : List ℕ) → sum_value a regs ≡ sum_value b regs
value-same a b e each c regs = ap (λ d. (d + a.constant) % 2 ^ 64) (dot-same a.coefs b.coefs regs e each) ∙ ap (λ v. (dot b.coefs regs + v) % 2 ^ 64) c

differ : (x y c : ℕ) → x < 2 ^ 64 → y < 2 ^ 64 → c < 2 ^ 64 → x ≢ y → (x + c) % 2 ^ 64 ≢ (y + c) % 2 ^ 64
differ x y c p q r ne e = absurd (omega arith)

-- where the constants differ
pub apart-none : (a b : Sum) → a.constant < 2 ^ 64 → b.constant < 2 ^ 64 → a.constant ≢ b.constant → TellsApart a b no_register
apart-none a b p q ne = ((λ e. ne (let h : a.constant % 2 ^ 64 ≡ b.constant % 2 ^ 64 = sym (value-none a) ∙ e ∙ value-none b in omega arith)), inl refl)

-- where the constants agree and the coefficients first differ at n
pub apart-one : (a b : Sum) (n : ℕ) → n < 16 → length a.coefs ≡ 16 → length b.coefs ≡ 16 → get_or a.coefs n 0 < 2 ^ 64 → get_or b.coefs n 0 < 2 ^ 64
    → a.constant < 2 ^ 64 → a.constant ≡ b.constant → get_or a.coefs n 0 ≢ get_or b.coefs n 0
    → ((j : ℕ) → j < n → get_or a.coefs j 0 ≡ get_or b.coefs j 0) → TellsApart a b (one_register n)
apart-one a b n low p q x y z c ne before = (
  (λ e. differ (get_or a.coefs n 0) (get_or b.coefs n 0) a.constant x y z ne
      (sym (value-one a n low p) ∙ e ∙ value-one b n low q ∙ ap (λ v. (get_or b.coefs n 0 + v) % 2 ^ 64) (sym c))),
  inr (
    n,
    low,
    refl,
    value-none a ∙ ap (λ v. v % 2 ^ 64) c ∙ sym (value-none b),
    λ m h. value-one a m (omega arith) p
        ∙ ap (λ v. (v + a.constant) % 2 ^ 64) (before m h) ∙ ap (λ v. (get_or b.coefs m 0 + v) % 2 ^ 64) c ∙ sym (value-one b m (omega arith) q),
  ),
)
