-- Each step of elimination keeps what there is to keep.
use Rattle.std.proofs.Common.{◌≡◌, ℕ, zero, suc, ◌+◌, ◌*◌, ◌/◌, ◌%◌, ◌^◌, ◌<◌, ◌≤◌, List, [], ◌∷◌, length, get_or, refl, sym, ◌∙◌, ap, subst, arith}
use Rattle.std.specs.List.{AllByRecursion, AllZip, remove}
use Rattle.std.proofs.Math.Nat.{mod-one}
use Rattle.node_forms.specs.Sums.{SameWord}
use Rattle.node_forms.proofs.Residues.{same_add, same_drop, same_number, same_times}
use Rattle.linear_forms.specs.declared.pivot.Pivot.{Pivot}
use Rattle.linear_forms.specs.Pivots.{CanBeCleared, IsPivot}
use Rattle.linear_forms.specs.MatrixRows.{AddsUp, IsCleared, IsEven, IsMultiple, IsReduced, Makes, mix, word}
use Rattle.linear_forms.proofs.Mixes.{cleared_mix, cleared_zero, mix-remove, mix_sum, mix_zero, without}
use Rattle.linear_forms.proofs.Powers.{even_multiple, multiple_is, of_zero, same_narrow, zero_of}

-- what holds of all items holds of each, and of all but one
pub all_at : {X : Type 0} (P : X → Type 0) (xs : List X) (i : ℕ) (d : X) → i < length xs → AllByRecursion P xs → P (get_or xs i d)
all_at P [] i d inside h = absurd (omega arith)
all_at P (x ∷ xs) zero d inside h = h.0
all_at P (x ∷ xs) (suc i) d inside h = all_at P xs i d (omega arith) h.1

pub all_but_one : {X : Type 0} (P : X → Type 0) (xs : List X) (i : ℕ) → i < length xs → AllByRecursion P xs → AllByRecursion P (remove xs i)
all_but_one P [] i inside h = absurd (omega arith)
all_but_one P (x ∷ xs) zero inside h = h.1
all_but_one P (x ∷ xs) (suc i) inside h = (h.0, all_but_one P xs i (omega arith) h.1)

-- what holds of items before a change holds of those after it
pub all_after : {X Y : Type 0} (R : X → Y → Type 0) (P : X → Type 0) (Q : Y → Type 0) → ((x : X) (y : Y) → R x y → P x → Q y)
    → (xs : List X) (ys : List Y) → AllZip R xs ys → AllByRecursion P xs → AllByRecursion Q ys
all_after R P Q f [] [] z h = tt
all_after R P Q f [] (y ∷ ys) z h = absurd z
all_after R P Q f (x ∷ xs) [] z h = absurd z
all_after R P Q f (x ∷ xs) (y ∷ ys) z h = (f x y z.0 h.0, all_after R P Q f xs ys z.1 h.1)

pub all_both : {X : Type 0} (P Q S : X → Type 0) → ((x : X) → P x → Q x → S x) → (xs : List X) → AllByRecursion P xs → AllByRecursion Q xs → AllByRecursion S xs
all_both P Q S f [] h k = tt
all_both P Q S f (x ∷ xs) h k = (f x h.0 k.0, all_both P Q S f xs h.1 k.1)

pub all_of : {X : Type 0} (P : X → Type 0) → ((x : X) → P x) → (xs : List X) → AllByRecursion P xs
all_of P f [] = tt
all_of P f (x ∷ xs) = (f x, all_of P f xs)

-- before elimination nothing was taken
pub started : (w n : ℕ) (parts : List (List ℕ)) (base : List ℕ) → AllByRecursion (λ row. length row ≡ length base) parts
    → AllByRecursion (AddsUp w n parts []) parts → AddsUp w n parts base base → IsReduced w n 0 parts base parts base
started w n parts base long rows target = record {
  long = long;
  length = refl;
  multiples = all_of (IsMultiple n 0) (λ row j inside. mod-one (word j row)) parts;
  taken = rows;
  made = target;
  complete = λ weights makes. (weights, makes);
}

module _ (w n : ℕ) (narrow : w ≤ 64) (parts : List (List ℕ)) where
  -- a multiple of a row that adds up to nothing may be added
  adds_up_more : (base pivot : List ℕ) (place : ℕ) (before after : List ℕ) → AddsUp w n parts [] pivot → IsCleared pivot place before after
      → AddsUp w n parts base before → AddsUp w n parts base after
  adds_up_more base pivot place before after p h b j inside =
      let t : ℕ = h.times in
      let here : (k : ℕ) → SameWord w (word k after) (word k before + t * word k pivot) =
      λ k. same_narrow 64 w (word k after) (word k before + t * word k pivot) narrow (h.sum k) in
      let old : ℕ = mix (word j) parts (λ k. word (n + k) before) in
      let more : ℕ = mix (word j) parts (λ k. word (n + k) pivot) in
      let tail : SameWord w (mix (word j) parts (λ k. word (n + k) after)) (old + t * more) =
      mix_sum (word j) w parts (λ k. word (n + k) before) (λ k. word (n + k) pivot) (λ k. word (n + k) after) t (λ k. here (n + k)) in
      same_add w (word j after) (word j before + t * word j pivot) (mix (word j) parts (λ k. word (n + k) after)) (old + t * more) (here j) tail
      ∙ same_number w (word j before + t * word j pivot + (old + t * more)) (word j before + old + t * (word j pivot + more)) (omega arith)
      ∙ same_add w (word j before + old) (word j base) (t * (word j pivot + more)) (t * 0) (b j inside)
      (same_times w t t (word j pivot + more) 0 refl (p j inside))
      ∙ same_number w (word j base + t * 0) (word j base) (omega arith)

  -- a factor stays one
  multiple_more : (power : ℕ) → power ≤ 64 → (pivot : List ℕ) (place : ℕ) (before after : List ℕ) → IsMultiple n power pivot → IsCleared pivot place before after
      → IsMultiple n power before → IsMultiple n power after
  multiple_more power small pivot place before after p h b j inside =
      of_zero power (word j after)
      (same_narrow 64 power (word j after) (word j before + h.times * word j pivot) small (h.sum j)
      ∙ same_add power (word j before) 0 (h.times * word j pivot) (h.times * 0) (zero_of power (word j before) (b j inside))
      (same_times power h.times h.times (word j pivot) 0 refl (zero_of power (word j pivot) (p j inside)))
      ∙ same_number power (0 + h.times * 0) 0 (omega arith))

-- the numbers at one place
module _ (w x m m' t t' p q g : ℕ) where
  -- what is left of the target is what is left of the rows
  left_of : SameWord w (x * p + m) t → SameWord w t' (t + q * p) → SameWord w m' (m + g * p) → SameWord w ((x + q) * p) (g * p) → SameWord w m' t'
  left_of makes target rows agree =
      rows ∙ same_add w m m (g * p) ((x + q) * p) refl (sym agree)
      ∙ same_number w (m + (x + q) * p) (x * p + m + q * p) (omega arith)
      ∙ same_add w (x * p + m) t (q * p) (q * p) makes refl ∙ sym target

  -- where both are 0 the multiples agree
  agree_of : SameWord w (x * p + m) t → SameWord w t' (t + q * p) → SameWord w m' (m + g * p) → SameWord w t' 0 → SameWord w m' 0
      → SameWord w ((x + q) * p) (g * p)
  agree_of makes target rows none none' =
      let both : SameWord w ((x + q) * p + m) (g * p + m) =
      same_number w ((x + q) * p + m) (x * p + m + q * p) (omega arith)
      ∙ same_add w (x * p + m) t (q * p) (q * p) makes refl
      ∙ sym target ∙ none ∙ sym none' ∙ rows
      ∙ same_number w (m + g * p) (g * p + m) (omega arith) in
      same_drop w ((x + q) * p) (g * p) m both

-- multiples that agree at a number that is P times an odd one agree at each multiple of P
agree_at : (w P u v y a b : ℕ) → SameWord w (v * u) 1 → SameWord w (a * (P * u)) (b * (P * u)) → SameWord w (a * (P * y)) (b * (P * y))
agree_at w P u v y a b inverse agree = sym (once a) ∙ same_times w (a * (P * u)) (b * (P * u)) (v * y) (v * y) agree refl ∙ once b
  where
    once : (c : ℕ) → SameWord w (c * (P * u) * (v * y)) (c * (P * y))
    once c =
        same_number w (c * (P * u) * (v * y)) (c * (P * y) * (v * u)) (omega arith)
        ∙ same_times w (c * (P * y)) (c * (P * y)) (v * u) 1 refl inverse
        ∙ same_number w (c * (P * y) * 1) (c * (P * y)) (omega arith)

module _ (w n : ℕ) (narrow : w ≤ 64) (parts : List (List ℕ)) (base : List ℕ) (rows : List (List ℕ)) (target : List ℕ) where
  -- rows without bit `power` have the next power of two as a factor
  pub raised : (power : ℕ) → AllByRecursion (IsEven n power) rows → IsReduced w n power parts base rows target
      → IsReduced w n (power + 1) parts base rows target
  raised power even h = record {
    long = h.long;
    length = h.length;
    multiples = all_both (IsMultiple n power) (IsEven n power) (IsMultiple n (power + 1))
        (λ row m e j inside. even_multiple power (word j row) (m j inside) (e j inside)) rows h.multiples even;
    taken = h.taken;
    made = h.made;
    complete = h.complete;
  }

  -- a target without the factor that all rows have is none of theirs, so it is none of the parts'
  pub not_made : (power j : ℕ) → power ≤ w → j < n → (word j target % 2 ^ power ≡ 0 → ⊥) → IsReduced w n power parts base rows target
      → (weights : ℕ → ℕ) → Makes w n parts base weights → ⊥
  not_made power j small inside other h weights makes =
      let left = h.complete weights makes in
      let zero_mix : SameWord power (mix (word j) rows left.0) 0 =
      mix_zero (word j) power rows left.0
      (all_both (IsMultiple n power) (IsMultiple n power) (λ row. SameWord power (word j row) 0)
      (λ row m m'. zero_of power (word j row) (m j inside)) rows h.multiples h.multiples) in
      other
      (of_zero power (word j target)
      (sym (same_narrow w power (mix (word j) rows left.0) (word j target) small (left.1 j inside)) ∙ zero_mix))

  -- where nothing is left of the target, what it has taken makes the base
  pub made_of : IsReduced w n w parts base rows target → IsMultiple n w target → Makes w n parts base (λ k. word (n + k) target)
  made_of h none j inside =
      let M : ℕ = mix (word j) parts (λ k. word (n + k) target) in
      same_number w M (0 + M) (omega arith)
      ∙ same_add w 0 (word j target) M M (sym (zero_of w (word j target) (none j inside))) refl
      ∙ h.made j inside

  -- a pivot's row clears the others
  module _ (power at : ℕ) (p : Pivot) (after : List (List ℕ)) (left : List ℕ) (inside : at < length rows) where
    pub clearable : p.row ≡ get_or rows at [] → p.power ≡ power → p.place < n → IsReduced w n power parts base rows target
        → AllByRecursion (CanBeCleared p) (remove rows at)
    clearable row same place h =
        let own : length p.row ≡ length base = ap length row ∙ all_at (λ r. length r ≡ length base) rows at [] inside h.long in
        all_but_one (CanBeCleared p) rows at inside
        (all_both (λ r. length r ≡ length base) (IsMultiple n power) (CanBeCleared p)
        (λ r long m. (long ∙ sym own, subst (λ k. word p.place r % 2 ^ k ≡ 0) (sym same) (m p.place place))) rows h.long h.multiples)

    pub cleared : IsPivot p → p.row ≡ get_or rows at [] → p.power ≡ power → p.place < n
        → AllZip (IsCleared p.row p.place) (remove rows at) after → IsCleared p.row p.place target left
        → IsReduced w n power parts base rows target → IsReduced w n power parts base after left
    cleared is row same place others own h = record {
      long = all_after (IsCleared p.row p.place) (λ r. length r ≡ length base) (λ r. length r ≡ length base) (λ x y z k. z.length ∙ k)
          (remove rows at) after others (all_but_one (λ r. length r ≡ length base) rows at inside h.long);
      length = own.length ∙ h.length;
      multiples = all_after (IsCleared p.row p.place) (IsMultiple n power) (IsMultiple n power)
          (λ x y. multiple_more w n narrow parts power small p.row p.place x y multiple) (remove rows at) after others
          (all_but_one (IsMultiple n power) rows at inside h.multiples);
      taken = all_after (IsCleared p.row p.place) (AddsUp w n parts []) (AddsUp w n parts [])
          (λ x y. adds_up_more w n narrow parts [] p.row p.place x y nothing) (remove rows at) after others
          (all_but_one (AddsUp w n parts []) rows at inside h.taken);
      made = adds_up_more w n narrow parts base p.row p.place target left nothing own h.made;
      complete = complete;
    }
      where
        small : power ≤ 64
        small = let below : p.power < 64 = is.power in omega arith

        multiple : IsMultiple n power p.row
        multiple = subst (IsMultiple n power) (sym row) (all_at (IsMultiple n power) rows at [] inside h.multiples)

        nothing : AddsUp w n parts [] p.row
        nothing = subst (AddsUp w n parts []) (sym row) (all_at (AddsUp w n parts []) rows at [] inside h.taken)

        complete : (weights : ℕ → ℕ) → Makes w n parts base weights → (rest : ℕ → ℕ) × Makes w n after left rest
        complete weights makes =
            let old = h.complete weights makes in
            let x : ℕ = old.0 at in
            let rest : ℕ → ℕ = without at old.0 in
            let mixed = cleared_mix w narrow p.row p.place (remove rows at) after rest others in
            let q : ℕ = own.times in
            let g : ℕ = mixed.0 in
            let M : ℕ → ℕ = λ j. mix (word j) (remove rows at) rest in
            let M' : ℕ → ℕ = λ j. mix (word j) after rest in
            let P : ℕ → ℕ = λ j. word j p.row in
            let made : (j : ℕ) → j < n → SameWord w (x * P j + M j) (word j target) =
            λ j b. same_number w (x * P j + M j) (mix (word j) rows old.0)
            (ap (λ r. x * word j r + M j) row ∙ sym (mix-remove (word j) rows at [] old.0 inside))
            ∙ old.1 j b in
            let more : (j : ℕ) → SameWord w (word j left) (word j target + q * P j) =
            λ j. same_narrow 64 w (word j left) (word j target + q * P j) narrow (own.sum j) in
            let none : SameWord w (word p.place left) 0 = same_narrow 64 w (word p.place left) 0 narrow own.cleared in
            let none' : SameWord w (M' p.place) 0 =
            mix_zero (word p.place) w after rest (cleared_zero w narrow p.row p.place (remove rows at) after others) in
            let agree : SameWord w ((x + q) * P p.place) (g * P p.place) =
            agree_of w x (M p.place) (M' p.place) (word p.place target) (word p.place left) (P p.place) q g
            (made p.place place) (more p.place) (mixed.1 p.place) none none' in
            let u : ℕ = P p.place / 2 ^ power in
            let inverse : SameWord w (p.inverse * u) 1 =
            same_narrow 64 w (p.inverse * u) 1 narrow (subst (λ k. SameWord 64 (p.inverse * (P p.place / 2 ^ k)) 1) same is.inverse) in
            let factor : (j : ℕ) → j < n → P j ≡ 2 ^ power * (P j / 2 ^ power) = λ j b. multiple_is power (P j) (multiple j b) in
            let everywhere : (j : ℕ) → j < n → SameWord w ((x + q) * P j) (g * P j) =
            λ j b.
            same_number w ((x + q) * P j) ((x + q) * (2 ^ power * (P j / 2 ^ power))) (ap (λ k. (x + q) * k) (factor j b))
            ∙ agree_at w (2 ^ power) u p.inverse (P j / 2 ^ power) (x + q) g inverse
            (same_number w ((x + q) * (2 ^ power * u)) ((x + q) * P p.place) (ap (λ k. (x + q) * k) (sym (factor p.place place)))
            ∙ agree
            ∙ same_number w (g * P p.place) (g * (2 ^ power * u)) (ap (λ k. g * k) (factor p.place place)))
            ∙ same_number w (g * (2 ^ power * (P j / 2 ^ power))) (g * P j) (ap (λ k. g * k) (sym (factor j b))) in (
              rest,
              λ j b.
                  left_of w x (M j) (M' j) (word j target) (word j left) (P j) q g (made j b) (more j) (mixed.1 j) (everywhere j b),
            )
