-- Lists that are changed item by item, against what they were.
use Rattle.std.proofs.Common.{◌≡◌, ℕ, suc, ◌+◌, ◌<◌, List, [], ◌∷◌, ◌++◌, length, take, drop, get_or, set, sym, ◌∙◌, ap, arith, add-one}
use Rattle.std.specs.List.{AllZip}
use Rattle.std.proofs.Math.Seq.{drop-cons, drop-length, take-length}
use Rattle.std.proofs.lemmas.List.{append-nil, drop-set-lt, take_more, take_more_set}
use Rattle.std.proofs.lemmas.List.Elements.{AllZip-push}

module _ {X : Type 0} (R : X → X → Type 0) (before now : List X) (i : ℕ) (x y : X) where
  -- one more item is changed: the first i are related, and the others are as they were
  pub zip_step : i < length now → length now ≡ length before → drop i now ≡ drop i before → x ≡ get_or now i x → R x y
      → AllZip R (take i before) (take i now)
      → AllZip R (take (i + 1) before) (take (i + 1) (set now i y)) × (drop (i + 1) (set now i y) ≡ drop (i + 1) before)
  zip_step inside long left is here done =
      let inside_before : i < length before = omega arith in
      let next : i < i + 1 = omega arith in
      let cut_now : drop i now ≡ get_or now i x ∷ drop (suc i) now = drop-cons now i x inside in
      let cut_before : drop i before ≡ get_or before i x ∷ drop (suc i) before = drop-cons before i x inside_before in
      let item : x ≡ get_or before i x = cc in
      let rest : drop (suc i) now ≡ drop (suc i) before = cc in
      let front : take (i + 1) before ≡ take i before ++ x ∷ [] =
      take_more before i x inside_before ∙ ap (λ z. take i before ++ z ∷ []) (sym item) in (
        rw (front, take_more_set now i y inside) (AllZip-push R (take i before) (take i now) x y done here),
        drop-set-lt (i + 1) now i y next ∙ ap (λ n. drop n now) (add-one i) ∙ rest ∙ ap (λ n. drop n before) (sym (add-one i)),
      )

-- a list that was changed as a whole
pub whole : {X : Type 0} (xs ys : List X) (n : ℕ) → n ≡ length xs → length xs ≡ length ys → take n (xs ++ drop (length xs) ys) ≡ xs
whole xs ys n h long =
    ap (λ k. take n (xs ++ drop k ys)) long ∙ ap (λ r. take n (xs ++ r)) (drop-length ys) ∙ ap (λ r. take n r) (append-nil xs)
    ∙ ap (λ k. take k xs) h ∙ take-length xs
