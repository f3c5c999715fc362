-- Small laws of choices, and of values that may be missing.
use Rattle.std.proofs.Common.{◌≡◌, ℕ, ◌⊎◌, inl, inr, Bool, true, false, cond, eqb, List, [], ◌∷◌, Option, Some, None, refl, ap, ◌∙◌}
use Rattle.std.specs.Option.{option_map, option_or}
use Rattle.std.proofs.lemmas.Bool.{eqb-true}
use Rattle.std.proofs.lemmas.Option.{same_Some}
use Rattle.text_parts.specs.Cuts.{◌>>=◌, after_byte}

-- of a choice that has a value, which way it went
pub chosen_then : {A : Type 0} (b : Bool) (x : Option A) (y : A) → cond b x None ≡ Some y → (b ≡ true) × (x ≡ Some y)
chosen_then true x y h = (refl, h)
chosen_then false x y h = cc

pub chosen_else : {A : Type 0} (b : Bool) (x : Option A) (y : A) → cond b None x ≡ Some y → (b ≡ false) × (x ≡ Some y)
chosen_else true x y h = cc
chosen_else false x y h = (refl, h)

-- the value that a step gave, and what followed gives
pub bind_some : {A B : Type 0} (o : Option A) (f : A → Option B) (y : B) → (o >>= f) ≡ Some y → (x : A) × (o ≡ Some x) × (f x ≡ Some y)
bind_some None f y h = cc
bind_some (Some x) f y h = (x, refl, h)

-- the value that was changed
pub map_some : {A B : Type 0} (o : Option A) (f : A → B) (y : B) → option_map f o ≡ Some y → (x : A) × (o ≡ Some x) × (f x ≡ y)
map_some None f y h = cc
map_some (Some x) f y h = (x, refl, same_Some (f x) y h)

-- one of two gave the value
pub or_some : {A : Type 0} (a b : Option A) (y : A) → option_or a b ≡ Some y → (a ≡ Some y) ⊎ ((a ≡ None) × (b ≡ Some y))
or_some None b y h = inr (refl, h)
or_some (Some x) b y h = inl h

-- what never has a value has none
pub never-some : {A : Type 0} (o : Option A) → ((x : A) → o ≡ Some x → ⊥) → o ≡ None
never-some None h = refl
never-some (Some x) h = absurd (h x refl)

-- the first byte, and what stands behind it
pub after_byte-known : (byte : ℕ) (text rest : List ℕ) → after_byte byte text ≡ Some rest → text ≡ byte ∷ rest
unfolding after_byte
after_byte-known byte [] rest h = cc
after_byte-known byte (b ∷ bs) rest h =
    let p = chosen_then (eqb b byte) (Some bs) rest h in
    let same : b ≡ byte = eqb-true b byte p.0 in
    let more : bs ≡ rest = same_Some bs rest p.1 in
    ap (λ (x : ℕ). x ∷ bs) same ∙ ap (λ (x : List ℕ). byte ∷ x) more
