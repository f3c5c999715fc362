-- Names of members that stand in a table.
use Rattle.std.proofs.Common.{◌≡◌, ℕ, ◌+◌, Bool, true, false, ◌||◌, cond, List, [], ◌∷◌, Some, is_some, refl, sym}
use Rattle.std.specs.Str.{bytes_eq}
use Rattle.std.proofs.lemmas.Bool.{both_ways, false_from_ne_true}
use Rattle.text_parts.specs.Places.{place_from}
use Rattle.text_parts.proofs.PlaceLaws.{eq-known, eq-only}
use Rattle.register_names.specs.Names.{register_names}
use Rattle.register_names.specs.Reading.{register_number}
use Rattle.tests_text.specs.Shapes.{is_among}

same-other : (x y : List ℕ) (t : Bool) → bytes_eq x y ≡ t → bytes_eq y x ≡ t
same-other x y true e = eq-only y x (sym (eq-known x y e))
same-other x y false e = false_from_ne_true (bytes_eq y x) (λ h. both_ways (bytes_eq x y) e (eq-only x y (sym (eq-known y x h))))

-- a name has a place in a table where it is one of its names
pub placed_among : (table : List (List ℕ)) (n : ℕ) (name : List ℕ) → is_some (place_from n table name) ≡ is_among table name
placed_among [] n name = refl
placed_among (x ∷ xs) n name =
    elim (bytes_eq x name) as (λ t. bytes_eq x name ≡ t → is_some (cond t (Some n) (place_from (n + 1) xs name)) ≡ (bytes_eq name x || is_among xs name)) [
      | true ↦ λ e. let other = same-other x name true e in rw other refl
      | false ↦ λ e. let other = same-other x name false e in rw other (placed_among xs (n + 1) name)
    ] refl

pub numbered_among : (w : ℕ) (name : List ℕ) → is_some (register_number w name) ≡ is_among (register_names w) name
unfolding register_number
numbered_among w name = placed_among (register_names w) 0 name
