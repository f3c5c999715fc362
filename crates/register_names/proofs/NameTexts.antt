-- What is read of registers' names, against the table of names.
use Rattle.std.proofs.Common.{◌≡◌, ℕ, ◌<◌, inl, inr, Bool, true, false, cond, eqb, List, [], Option, Some, None, is_none, slice_get, get_or, length, refl, sym, ap, ◌∙◌, subst}
use Rattle.std.specs.List.{list_all}
use Rattle.std.specs.Option.{option_or}
use Rattle.std.proofs.lemmas.Bool.{eqb-true}
use Rattle.std.proofs.lemmas.Option.{same_Some, slice_get-get_or, slice_get_within}
use Rattle.text_parts.specs.Places.{are_apart, place_from}
use Rattle.text_parts.proofs.Options.{map_some, or_some}
use Rattle.text_parts.proofs.PlaceLaws.{list_all-at, place-at, place-found}
use Rattle.register_names.specs.Names.{IsNamedWidth, IsRegisterName, register_names}
use Rattle.register_names.specs.Reading.{register_by, register_named, register_number}
use Rattle.register_names.specs.Laws.{NamesAreRead, NamesAreThere}

pub number-named : (w : ℕ) (name : List ℕ) (n : ℕ) → register_number w name ≡ Some n → slice_get (register_names w) n ≡ Some name
unfolding register_number
number-named w name n h = place-found (register_names w) name n h

number-at : (w : ℕ) (name : List ℕ) (n : ℕ) → are_apart (register_names w) ≡ true → slice_get (register_names w) n ≡ Some name → register_number w name ≡ Some n
unfolding register_number
number-at w name n apart there = place-at (register_names w) n name apart there

-- no name of one table stands in another
abbrev lacks_names : ℕ → List (List ℕ) → Bool
lacks_names w names = list_all (λ name. is_none (place_from 0 (register_names w) name)) names

none-known : {A : Type 0} (o : Option A) → is_none o ≡ true → o ≡ None
none-known None h = refl
none-known (Some x) h = cc

number-none : (w v : ℕ) (name : List ℕ) (n : ℕ) → lacks_names w (register_names v) ≡ true → slice_get (register_names v) n ≡ Some name → register_number w name ≡ None
unfolding register_number
number-none w v name n lacks there =
    none-known (place_from 0 (register_names w) name) (list_all-at (λ x. is_none (place_from 0 (register_names w) x)) (register_names v) n name lacks there)

registers-64 : (name : List ℕ) (n : ℕ) → slice_get (register_names 64) n ≡ Some name → register_named name ≡ Some (64, n)
unfolding register_named
registers-64 name n there =
    let at = number-at 64 name n refl there in
    rw at refl

registers-32 : (name : List ℕ) (n : ℕ) → slice_get (register_names 32) n ≡ Some name → register_named name ≡ Some (32, n)
unfolding register_named
registers-32 name n there =
    let at = number-at 32 name n refl there in
    let no64 = number-none 64 32 name n refl there in
    rw (no64, at) refl

registers-16 : (name : List ℕ) (n : ℕ) → slice_get (register_names 16) n ≡ Some name → register_named name ≡ Some (16, n)
unfolding register_named
registers-16 name n there =
    let at = number-at 16 name n refl there in
    let no64 = number-none 64 16 name n refl there in
    let no32 = number-none 32 16 name n refl there in
    rw (no64, no32, at) refl

registers-8 : (name : List ℕ) (n : ℕ) → slice_get (register_names 8) n ≡ Some name → register_named name ≡ Some (8, n)
unfolding register_named
registers-8 name n there =
    let at = number-at 8 name n refl there in
    let no64 = number-none 64 8 name n refl there in
    let no32 = number-none 32 8 name n refl there in
    let no16 = number-none 16 8 name n refl there in
    rw (no64, no32, no16, at) refl

registers-128 : (name : List ℕ) (n : ℕ) → slice_get (register_names 128) n ≡ Some name → register_named name ≡ Some (128, n)
unfolding register_named
registers-128 name n there =
    let at = number-at 128 name n refl there in
    let no64 = number-none 64 128 name n refl there in
    let no32 = number-none 32 128 name n refl there in
    let no16 = number-none 16 128 name n refl there in
    let no8 = number-none 8 128 name n refl there in
    rw (no64, no32, no16, no8, at) refl

registers-256 : (name : List ℕ) (n : ℕ) → slice_get (register_names 256) n ≡ Some name → register_named name ≡ Some (256, n)
unfolding register_named
registers-256 name n there =
    let at = number-at 256 name n refl there in
    let no64 = number-none 64 256 name n refl there in
    let no32 = number-none 32 256 name n refl there in
    let no16 = number-none 16 256 name n refl there in
    let no8 = number-none 8 256 name n refl there in
    let no128 = number-none 128 256 name n refl there in
    rw (no64, no32, no16, no8, no128, at) refl

-- only these widths have names
abbrev names_by : Bool → Bool → Bool → Bool → Bool → Bool → List (List ℕ)
names_by a b c d e f =
    cond a (register_names 64) (cond b (register_names 32) (cond c (register_names 16) (cond d (register_names 8)
    (cond e (register_names 128) (cond f (register_names 256) [])))))

registers-by : (w : ℕ) (name : List ℕ) (n : ℕ) (a b c d e f : Bool) → eqb w 64 ≡ a → eqb w 32 ≡ b → eqb w 16 ≡ c → eqb w 8 ≡ d → eqb w 128 ≡ e → eqb w 256 ≡ f
    → slice_get (names_by a b c d e f) n ≡ Some name → register_named name ≡ Some (w, n)
registers-by w name n true b c d e f ea eb ec ed ee ef there = registers-64 name n there ∙ ap (λ (v : ℕ). Some (v, n)) (sym (eqb-true w 64 ea))
registers-by w name n false true c d e f ea eb ec ed ee ef there = registers-32 name n there ∙ ap (λ (v : ℕ). Some (v, n)) (sym (eqb-true w 32 eb))
registers-by w name n false false true d e f ea eb ec ed ee ef there = registers-16 name n there ∙ ap (λ (v : ℕ). Some (v, n)) (sym (eqb-true w 16 ec))
registers-by w name n false false false true e f ea eb ec ed ee ef there = registers-8 name n there ∙ ap (λ (v : ℕ). Some (v, n)) (sym (eqb-true w 8 ed))
registers-by w name n false false false false true f ea eb ec ed ee ef there = registers-128 name n there ∙ ap (λ (v : ℕ). Some (v, n)) (sym (eqb-true w 128 ee))
registers-by w name n false false false false false true ea eb ec ed ee ef there = registers-256 name n there ∙ ap (λ (v : ℕ). Some (v, n)) (sym (eqb-true w 256 ef))
registers-by w name n false false false false false false ea eb ec ed ee ef there = cc

-- a name that stands in a table is read
pub register-only : (w : ℕ) (name : List ℕ) (n : ℕ) → slice_get (register_names w) n ≡ Some name → register_named name ≡ Some (w, n)
register-only w name n there =
    registers-by w name n (eqb w 64) (eqb w 32) (eqb w 16) (eqb w 8) (eqb w 128) (eqb w 256) refl refl refl refl refl refl there

-- what holds of the names of each width
pub record OfAllNames (p : List ℕ → Bool) : Type 0 where
  pub all64 : list_all p (register_names 64) ≡ true
  pub all32 : list_all p (register_names 32) ≡ true
  pub all16 : list_all p (register_names 16) ≡ true
  pub all8 : list_all p (register_names 8) ≡ true
  pub all128 : list_all p (register_names 128) ≡ true
  pub all256 : list_all p (register_names 256) ≡ true

all-by : (p : List ℕ → Bool) (n : ℕ) (name : List ℕ) (a b c d e f : Bool) → OfAllNames p → slice_get (names_by a b c d e f) n ≡ Some name → p name ≡ true
all-by p n name true b c d e f h there = list_all-at p (register_names 64) n name h.all64 there
all-by p n name false true c d e f h there = list_all-at p (register_names 32) n name h.all32 there
all-by p n name false false true d e f h there = list_all-at p (register_names 16) n name h.all16 there
all-by p n name false false false true e f h there = list_all-at p (register_names 8) n name h.all8 there
all-by p n name false false false false true f h there = list_all-at p (register_names 128) n name h.all128 there
all-by p n name false false false false false true h there = list_all-at p (register_names 256) n name h.all256 there
all-by p n name false false false false false false h there = cc

-- holds of a register's name
pub all-names : (p : List ℕ → Bool) (w n : ℕ) (name : List ℕ) → OfAllNames p → slice_get (register_names w) n ≡ Some name → p name ≡ true
all-names p w n name h there = all-by p n name (eqb w 64) (eqb w 32) (eqb w 16) (eqb w 8) (eqb w 128) (eqb w 256) h there

by-known : (v : ℕ) (name : List ℕ) (w n : ℕ) → register_by v name ≡ Some (w, n) → IsRegisterName name w n
by-known v name w n h =
    let p = map_some (register_number v name) (λ (m : ℕ). (v, m)) (w, n) h in
    let named : IsRegisterName name v p.0 = number-named v name p.0 p.1 in
    let width : v ≡ w = ap (λ (r : ℕ × ℕ). r.0) p.2 in
    let number : p.0 ≡ n = ap (λ (r : ℕ × ℕ). r.1) p.2 in
    subst (λ (m : ℕ). IsRegisterName name w m) number (subst (λ (u : ℕ). IsRegisterName name u p.0) width named)

-- a name that is read stands in a table
pub register-known : (name : List ℕ) (w n : ℕ) → register_named name ≡ Some (w, n) → IsRegisterName name w n
unfolding register_named
register-known name w n h =
    let r256 = register_by 256 name in
    let r128 = option_or (register_by 128 name) r256 in
    let r8 = option_or (register_by 8 name) r128 in
    let r16 = option_or (register_by 16 name) r8 in
    let r32 = option_or (register_by 32 name) r16 in
    elim (or_some (register_by 64 name) r32 (w, n) h) [
      | inl e ↦ by-known 64 name w n e
      | inr a ↦ elim (or_some (register_by 32 name) r16 (w, n) a.1) [
        | inl e ↦ by-known 32 name w n e
        | inr b ↦ elim (or_some (register_by 16 name) r8 (w, n) b.1) [
          | inl e ↦ by-known 16 name w n e
          | inr c ↦ elim (or_some (register_by 8 name) r128 (w, n) c.1) [
            | inl e ↦ by-known 8 name w n e
            | inr d ↦ elim (or_some (register_by 128 name) r256 (w, n) d.1)
                [ inl e ↦ by-known 128 name w n e | inr e ↦ by-known 256 name w n e.1 ]
          ]
        ]
      ]
    ]

-- the number of a name at its width
number-by : (w : ℕ) (name : List ℕ) (n : ℕ) (a b c d e f : Bool) → eqb w 64 ≡ a → eqb w 32 ≡ b → eqb w 16 ≡ c → eqb w 8 ≡ d → eqb w 128 ≡ e → eqb w 256 ≡ f
    → slice_get (names_by a b c d e f) n ≡ Some name → register_number w name ≡ Some n
number-by w name n true b c d e f ea eb ec ed ee ef there = ap (λ (v : ℕ). register_number v name) (eqb-true w 64 ea) ∙ number-at 64 name n refl there
number-by w name n false true c d e f ea eb ec ed ee ef there = ap (λ (v : ℕ). register_number v name) (eqb-true w 32 eb) ∙ number-at 32 name n refl there
number-by w name n false false true d e f ea eb ec ed ee ef there = ap (λ (v : ℕ). register_number v name) (eqb-true w 16 ec) ∙ number-at 16 name n refl there
number-by w name n false false false true e f ea eb ec ed ee ef there = ap (λ (v : ℕ). register_number v name) (eqb-true w 8 ed) ∙ number-at 8 name n refl there
number-by w name n false false false false true f ea eb ec ed ee ef there = ap (λ (v : ℕ). register_number v name) (eqb-true w 128 ee) ∙ number-at 128 name n refl there
number-by w name n false false false false false true ea eb ec ed ee ef there = ap (λ (v : ℕ). register_number v name) (eqb-true w 256 ef) ∙ number-at 256 name n refl there
number-by w name n false false false false false false ea eb ec ed ee ef there = cc

pub number-only : (w : ℕ) (name : List ℕ) (n : ℕ) → slice_get (register_names w) n ≡ Some name → register_number w name ≡ Some n
number-only w name n there = number-by w name n (eqb w 64) (eqb w 32) (eqb w 16) (eqb w 8) (eqb w 128) (eqb w 256) refl refl refl refl refl refl there

pairs : (a c b d : ℕ) → ◌≡◌ {A = Option (ℕ × ℕ)} (Some (a, b)) (Some (c, d)) → (a ≡ c) × (b ≡ d)
pairs a c b d e =
    let left : ℕ × ℕ = (a, b) in
    let right : ℕ × ℕ = (c, d) in
    let same : left ≡ right = same_Some left right e in
    (ap (λ (r : ℕ × ℕ). r.0) same, ap (λ (r : ℕ × ℕ). r.1) same)

pub names_read : NamesAreRead
names_read = record {
  one = λ name v w m n left right. pairs v w m n (sym (register-only v name m left) ∙ register-only w name n right);
  only = λ name w n there. register-only w name n there;
  known = register-known;
  number_only = λ name w n there. number-only w name n there;
  number_known = λ name w n h. number-named w name n h;
}

-- which registers have names

width-by : (w n : ℕ) (name : List ℕ) (a b c d e f : Bool) → eqb w 64 ≡ a → eqb w 32 ≡ b → eqb w 16 ≡ c → eqb w 8 ≡ d → eqb w 128 ≡ e → eqb w 256 ≡ f
    → slice_get (names_by a b c d e f) n ≡ Some name → IsNamedWidth w × (n < 16)
width-by w n name true b c d e f ea eb ec ed ee ef there = (inl (eqb-true w 64 ea), slice_get_within (register_names 64) n name there)
width-by w n name false true c d e f ea eb ec ed ee ef there = (inr (inl (eqb-true w 32 eb)), slice_get_within (register_names 32) n name there)
width-by w n name false false true d e f ea eb ec ed ee ef there = (inr (inr (inl (eqb-true w 16 ec))), slice_get_within (register_names 16) n name there)
width-by w n name false false false true e f ea eb ec ed ee ef there = (inr (inr (inr (inl (eqb-true w 8 ed)))), slice_get_within (register_names 8) n name there)
width-by w n name false false false false true f ea eb ec ed ee ef there = (inr (inr (inr (inr (inl (eqb-true w 128 ee))))), slice_get_within (register_names 128) n name there)
width-by w n name false false false false false true ea eb ec ed ee ef there = (inr (inr (inr (inr (inr (eqb-true w 256 ef))))), slice_get_within (register_names 256) n name there)
width-by w n name false false false false false false ea eb ec ed ee ef there = cc

name-of : (names : List (List ℕ)) (n : ℕ) → n < length names → (name : List ℕ) × (slice_get names n ≡ Some name)
name-of names n small = (get_or names n [], slice_get-get_or names n [] small)

named-at : (v w n : ℕ) → w ≡ v → n < length (register_names v) → (name : List ℕ) × IsRegisterName name w n
named-at v w n same small = subst (λ (u : ℕ). (name : List ℕ) × IsRegisterName name u n) (sym same) (name-of (register_names v) n small)

name-there : (w n : ℕ) → IsNamedWidth w → n < 16 → (name : List ℕ) × IsRegisterName name w n
name-there w n (inl e) small = named-at 64 w n e small
name-there w n (inr (inl e)) small = named-at 32 w n e small
name-there w n (inr (inr (inl e))) small = named-at 16 w n e small
name-there w n (inr (inr (inr (inl e)))) small = named-at 8 w n e small
name-there w n (inr (inr (inr (inr (inl e))))) small = named-at 128 w n e small
name-there w n (inr (inr (inr (inr (inr e))))) small = named-at 256 w n e small

pub names_there : NamesAreThere
names_there = record {
  there = name-there;
  alone = λ name w n there. width-by w n name (eqb w 64) (eqb w 32) (eqb w 16) (eqb w 8) (eqb w 128) (eqb w 256) refl refl refl refl refl refl there;
}
