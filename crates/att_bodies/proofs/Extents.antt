-- The extent of a body, both ways.
use Rattle.std.proofs.Common.{◌≡◌, ℕ, Bool, true, false, cond, ◌⊎◌, inl, inr, List, [], ◌∷◌, ◌++◌, Option, Some, None, refl, sym, ap, ◌∙◌, subst}
use Rattle.std.specs.List.{list_any}
use Rattle.std.proofs.lemmas.Bool.{both_ways, or_from, or_parts}
use Rattle.text_lines.specs.Lines.{Item}
use Rattle.att_bodies.specs.Body.{is_label, ends_body, IsExtent}
use Rattle.att_bodies.specs.Reading.{inside_of, behind_body, extent_of}

-- the items behind a body: none, or the first of them ends it
abbrev pub IsEnded : List ℕ → List Item → Type 0
IsEnded name after = (after ≡ []) ⊎ ((ending : Item) × (more : List Item) × (after ≡ ending ∷ more) × (ends_body name ending ≡ true))

-- items are cut where the first stands that ends the body
pub inside-known : (name : List ℕ) (items : List Item)
    → (items ≡ inside_of name items ++ behind_body name items) × (list_any (ends_body name) (inside_of name items) ≡ false) × IsEnded name (behind_body name items)
unfolding inside_of behind_body
inside-known name [] = (refl, refl, inl refl)
inside-known name (i ∷ is) =
    elim (ends_body name i) as (λ (t : Bool). ends_body name i ≡ t
    → (i ∷ is ≡ cond t [] (i ∷ inside_of name is) ++ cond t (i ∷ is) (behind_body name is)) × (list_any (ends_body name) (cond t [] (i ∷ inside_of name is)) ≡ false)
    × IsEnded name (cond t (i ∷ is) (behind_body name is))) [
      | true ↦ λ e. (refl, refl, inr (i, is, refl, e))
      | false ↦ λ e. let h = inside-known name is in (ap (λ (x : List Item). i ∷ x) h.0, or_from (ends_body name i) _ e h.1, h.2)
    ] refl

inside-stops : (name : List ℕ) (after : List Item) → IsEnded name after → (inside_of name after ≡ []) × (behind_body name after ≡ after)
unfolding inside_of behind_body
inside-stops name [] h = (refl, refl)
inside-stops name (i ∷ is) (inl none) = cc
inside-stops name (i ∷ is) (inr some) =
    let same : some.0 ≡ i = cc in
    let ends : ends_body name i ≡ true = subst (λ x. ends_body name x ≡ true) same some.3 in
    (ap (λ t. cond t [] (i ∷ inside_of name is)) ends, ap (λ t. cond t (i ∷ is) (behind_body name is)) ends)

inside-only : (name : List ℕ) (inside after : List Item) → list_any (ends_body name) inside ≡ false → IsEnded name after
    → (inside_of name (inside ++ after) ≡ inside) × (behind_body name (inside ++ after) ≡ after)
unfolding inside_of behind_body
inside-only name [] after none ended = inside-stops name after ended
inside-only name (i ∷ is) after none ended =
    let e = or_parts (ends_body name i) (list_any (ends_body name) is) none in
    let h = inside-only name is after e.1 ended in (
      ap (λ t. cond t [] (i ∷ inside_of name (is ++ after))) e.0 ∙ ap (λ (x : List Item). i ∷ x) h.0,
      ap (λ t. cond t (i ∷ (is ++ after)) (behind_body name (is ++ after))) e.0 ∙ h.1,
    )

-- what was found
abbrev pub IsFoundExtent : List ℕ → List Item → Option (List Item × List Item) → Type 0
IsFoundExtent name items None = list_any (is_label name) items ≡ false
IsFoundExtent name items (Some found) = IsExtent name items found.0 found.1

extent-later : (name : List ℕ) (i : Item) (is : List Item) (o : Option (List Item × List Item)) → is_label name i ≡ false → IsFoundExtent name is o → IsFoundExtent name (i ∷ is) o
extent-later name i is None other h = or_from (is_label name i) (list_any (is_label name) is) other h
extent-later name i is (Some found) other h =
    record {
      before = i ∷ h.before;
      start = h.start;
      rest = h.rest;
      whole = ap (λ (x : List Item). i ∷ x) h.whole;
      begins = h.begins;
      named = h.named;
      first = or_from (is_label name i) _ other h.first;
      inside = h.inside;
      ended = h.ended;
    }

extent-here : (name : List ℕ) (i : Item) (is : List Item) → is_label name i ≡ true → IsFoundExtent name (i ∷ is) (Some (i ∷ inside_of name is, behind_body name is))
extent-here name i is here =
    let h = inside-known name is in
    record {
      before = [];
      start = i;
      rest = inside_of name is;
      whole = ap (λ (x : List Item). i ∷ x) h.0;
      begins = refl;
      named = here;
      first = refl;
      inside = h.1;
      ended = h.2;
    }

-- the extent that is found is the body's
pub extent-known : (name : List ℕ) (items : List Item) → IsFoundExtent name items (extent_of name items)
unfolding extent_of
extent-known name [] = refl
extent-known name (i ∷ is) =
    elim (is_label name i) as (λ (t : Bool). is_label name i ≡ t → IsFoundExtent name (i ∷ is) (cond t (Some (i ∷ inside_of name is, behind_body name is)) (extent_of name is))) [
      | true ↦ λ e. extent-here name i is e
      | false ↦ λ e. extent-later name i is (extent_of name is) e (extent-known name is)
    ] refl

extent-at : (name : List ℕ) (before : List Item) (start : Item) (rest after : List Item) → is_label name start ≡ true → list_any (is_label name) before ≡ false
    → list_any (ends_body name) rest ≡ false → IsEnded name after → extent_of name (before ++ (start ∷ (rest ++ after))) ≡ Some (start ∷ rest, after)
unfolding extent_of
extent-at name [] start rest after named first inside ended =
    let h = inside-only name rest after inside ended in
    ap (λ t. cond t (Some (start ∷ inside_of name (rest ++ after), behind_body name (rest ++ after))) (extent_of name (rest ++ after))) named
    ∙ ap (λ (x : List Item). Some (start ∷ x, behind_body name (rest ++ after))) h.0 ∙ ap (λ (x : List Item). Some (start ∷ rest, x)) h.1
extent-at name (b ∷ bs) start rest after named first inside ended =
    let e = or_parts (is_label name b) (list_any (is_label name) bs) first in
    let later = bs ++ (start ∷ (rest ++ after)) in
    ap (λ t. cond t (Some (b ∷ inside_of name later, behind_body name later)) (extent_of name later)) e.0 ∙ extent-at name bs start rest after named e.1 inside ended

-- a body that there is is found
pub extent-only : (name : List ℕ) (items body after : List Item) → IsExtent name items body after → extent_of name items ≡ Some (body, after)
extent-only name items body after h =
    let whole : items ≡ h.before ++ (h.start ∷ (h.rest ++ after)) = h.whole ∙ ap (λ (x : List Item). h.before ++ (x ++ after)) h.begins in
    ap (extent_of name) whole ∙ extent-at name h.before h.start h.rest after h.named h.first h.inside h.ended ∙ ap (λ (x : List Item). Some (x, after)) (sym h.begins)

named-some : (name : List ℕ) (before : List Item) (start : Item) (rest : List Item) → is_label name start ≡ true → list_any (is_label name) (before ++ start ∷ rest) ≡ false → ⊥
named-some name [] start rest named none = both_ways (is_label name start) (or_parts (is_label name start) _ none).0 named
named-some name (b ∷ bs) start rest named none = named-some name bs start rest named (or_parts (is_label name b) _ none).1

-- what was found is the extent
pub extent-found : (name : List ℕ) (items body after : List Item) → Some (body, after) ≡ extent_of name items → IsExtent name items body after
extent-found name items body after is = subst (IsFoundExtent name items) (sym is) (extent-known name items)

-- where none was found no label has the name
pub extent-none : (name : List ℕ) (items : List Item) → None ≡ extent_of name items → list_any (is_label name) items ≡ false
extent-none name items is = subst (IsFoundExtent name items) (sym is) (extent-known name items)

-- where there is a body there is a label
pub extent-named : (name : List ℕ) (items body after : List Item) → IsExtent name items body after → list_any (is_label name) items ≡ false → ⊥
extent-named name items body after h none =
    let whole : items ≡ h.before ++ (h.start ∷ (h.rest ++ after)) = h.whole ∙ ap (λ (x : List Item). h.before ++ (x ++ after)) h.begins in
    named-some name h.before h.start (h.rest ++ after) h.named (ap (list_any (is_label name)) (sym whole) ∙ none)
