-- Lists to which one more item is pushed.
use Rattle.std.proofs.Common.{◌≡◌, ℕ, zero, suc, ◌+◌, ◌<◌, List, [], ◌∷◌, ◌++◌, length, take, get_or, sym, subst, arith, add-one, below_more}
use Rattle.std.specs.List.{AllByRecursion, AllZip}
use Rattle.std.proofs.lemmas.List.{get_or_append_left}
use Rattle.std.proofs.Math.Seq.{get_or-append_seam}

module _ {X : Type 0} (P : X → Type 0) where
  all_next : (xs : List X) (i : ℕ) (x : X) → i < length xs → P (get_or xs i x)
      → AllByRecursion P (take i xs) → AllByRecursion P (take (suc i) xs)
  all_next [] i x inside here h = absurd (omega arith)
  all_next (y ∷ ys) zero x inside here h = (here, tt)
  all_next (y ∷ ys) (suc i) x inside here h = (h.0, all_next ys i x (omega arith) here h.1)

  -- what holds of the first i items, and of the next one
  pub all_more : (xs : List X) (i : ℕ) (x : X) → i < length xs → x ≡ get_or xs i x → P x
      → AllByRecursion P (take i xs) → AllByRecursion P (take (i + 1) xs)
  all_more xs i x inside is here h =
      subst (λ n. AllByRecursion P (take n xs)) (sym (add-one i)) (all_next xs i x inside (subst P is here) h)

  -- what holds of all items, and of one that is pushed
  pub all_last : (xs : List X) (x : X) → AllByRecursion P xs → P x → AllByRecursion P (xs ++ x ∷ [])
  all_last [] x h here = (here, tt)
  all_last (y ∷ ys) x h here = (h.0, all_last ys x h.1 here)

-- what holds of items by number, and of one that is pushed
pub numbered_last : {X : Type 0} (P : ℕ → X → Type 0) (xs : List X) (x d : X) → ((k : ℕ) → k < length xs → P k (get_or xs k d)) → P (length xs) x
    → (k : ℕ) → k < length xs + 1 → P k (get_or (xs ++ x ∷ []) k d)
numbered_last P xs x d h here =
    below_more (λ k. P k (get_or (xs ++ x ∷ []) k d)) (length xs)
    (λ k b. subst (P k) (sym (get_or_append_left xs (x ∷ []) d k b)) (h k b))
    (subst (P (length xs)) (sym (get_or-append_seam xs x [] d)) here)

module _ {X Y : Type 0} (R : X → Y → Type 0) where
  zip_next : (xs : List X) (i : ℕ) (x : X) (ys : List Y) (y : Y) → i < length xs → R (get_or xs i x) y
      → AllZip R (take i xs) ys → AllZip R (take (suc i) xs) (ys ++ y ∷ [])
  zip_next [] i x ys y inside here h = absurd (omega arith)
  zip_next (a ∷ xs) zero x [] y inside here h = (here, tt)
  zip_next (a ∷ xs) zero x (b ∷ ys) y inside here h = absurd h
  zip_next (a ∷ xs) (suc i) x [] y inside here h = absurd h
  zip_next (a ∷ xs) (suc i) x (b ∷ ys) y inside here h = (h.0, zip_next xs i x ys y (omega arith) here h.1)

  -- an item that is pushed for the next one
  pub zip_more : (xs : List X) (i : ℕ) (x : X) (ys : List Y) (y : Y) → i < length xs → x ≡ get_or xs i x → R x y
      → AllZip R (take i xs) ys → AllZip R (take (i + 1) xs) (ys ++ y ∷ [])
  zip_more xs i x ys y inside is here h =
      subst (λ n. AllZip R (take n xs) (ys ++ y ∷ [])) (sym (add-one i)) (zip_next xs i x ys y inside (subst (λ z. R z y) is here) h)
