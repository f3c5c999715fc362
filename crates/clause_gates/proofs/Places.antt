-- Where a literal goes among others.
use Rattle.std.proofs.Common.{◌≡◌, ℕ, ◌+◌, ◌==◌, Bool, true, false, List, [], ◌∷◌, Option, Some, None, refl, sym, ◌∙◌, ap, inl, inr, if◌then◌else◌, one-add}
use Rattle.std.specs.Prelude.{nat_lt, not, slice_get}
use Rattle.std.specs.List.{insert, prefix_len}
use Rattle.std.specs.Option.{option_and_then, option_map}
use Rattle.std.proofs.lemmas.Bool.{cases_Bool}
use mathlib.Core.Bool.{beq}
use Rattle.clauses.specs.declared.clause.Lit.{Lit}
use Rattle.clause_gates.specs.NormalForms.{inserted}

-- the place of a variable
abbrev pub place : ℕ → List Lit → ℕ
place x ks = prefix_len (λ k. nat_lt k.var x) ks

-- the sign at a place, where the variable is there
abbrev pub sign_there : ℕ → Option Lit → Option Bool
sign_there x o = option_and_then (λ l. if l.var == x then Some l.neg else None) o

-- whether two signs are one, in both spellings
beq_is : (a b : Bool) → beq a b ≡ (if a then b else not b)
beq_is true true = refl
beq_is true false = refl
beq_is false true = refl
beq_is false false = refl

none_some : (b : Bool) → None ≡ Some b → ⊥
none_some b h = cc

some_same : (a b : Bool) → Some a ≡ Some b → a ≡ b
some_same a b h = cc

get_later : (k : Lit) (ks : List Lit) (p : ℕ) → slice_get (k ∷ ks) (1 + p) ≡ slice_get ks p
get_later k ks p = rw one-add refl

insert_later : (k l : Lit) (ks : List Lit) (p : ℕ) → insert (k ∷ ks) (1 + p) l ≡ k ∷ insert ks p l
insert_later k l ks p = rw one-add refl

-- a literal whose variable is there
pub inserted_found : (l : Lit) (ks : List Lit) (neg : Bool) → sign_there l.var (slice_get ks (place l.var ks)) ≡ Some neg
    → inserted l ks ≡ (if beq neg l.neg then Some ks else None)
inserted_found l [] neg h = absurd (none_some neg h)
inserted_found l (k ∷ ks) neg h = elim (cases_Bool (nat_lt k.var l.var)) [
  | inl t ↦
      let there : sign_there l.var (slice_get ks (place l.var ks)) ≡ Some neg =
      sym (ap (sign_there l.var) (get_later k ks (place l.var ks))) ∙ (rw t at h) in
      rw (t, inserted_found l ks neg there) (mapped (beq neg l.neg) k ks)
  | inr f ↦ first (rw f at h) f
]
  where
    mapped : (b : Bool) (k : Lit) (ks : List Lit)
        → option_map (λ rest. k ∷ rest) (if b then Some ks else None) ≡ (if b then Some (k ∷ ks) else None)
    mapped true k ks = refl
    mapped false k ks = refl

    first : (if k.var == l.var then Some k.neg else None) ≡ Some neg → nat_lt k.var l.var ≡ false
        → inserted l (k ∷ ks) ≡ (if beq neg l.neg then Some (k ∷ ks) else None)
    first here f = elim (cases_Bool (k.var == l.var)) [
      | inl t ↦
          let same : k.neg ≡ neg = some_same k.neg neg (rw t at here) in
          rw (f, t, ← beq_is k.neg l.neg) (ap (λ (b : Bool). if beq b l.neg then Some (k ∷ ks) else None) same)
      | inr n ↦ absurd (none_some neg (rw n at here))
    ]

-- a literal whose variable is not there
pub inserted_missing : (l : Lit) (ks : List Lit) → sign_there l.var (slice_get ks (place l.var ks)) ≡ None
    → inserted l ks ≡ Some (insert ks (place l.var ks) l)
inserted_missing l [] h = refl
inserted_missing l (k ∷ ks) h = elim (cases_Bool (nat_lt k.var l.var)) [
  | inl t ↦
      let there : sign_there l.var (slice_get ks (place l.var ks)) ≡ None =
      sym (ap (sign_there l.var) (get_later k ks (place l.var ks))) ∙ (rw t at h) in
      rw (t, inserted_missing l ks there) (ap Some (sym (insert_later k l ks (place l.var ks))))
  | inr f ↦ first (rw f at h) f
]
  where
    first : (if k.var == l.var then Some k.neg else None) ≡ None → nat_lt k.var l.var ≡ false
        → inserted l (k ∷ ks) ≡ Some (insert (k ∷ ks) (place l.var (k ∷ ks)) l)
    first here f = elim (cases_Bool (k.var == l.var)) [
      | inl t ↦ absurd (none_some k.neg (sym (rw t at here)))
      | inr n ↦ rw (f, n) refl
    ]

-- the same at a place that is named
pub found_at : (l : Lit) (ks : List Lit) (at : ℕ) (s : Option Bool) (neg : Bool) → at ≡ place l.var ks
    → s ≡ sign_there l.var (slice_get ks at) → s ≡ Some neg → inserted l ks ≡ (if beq neg l.neg then Some ks else None)
found_at l ks at s neg e f g = inserted_found l ks neg (sym (ap (λ (n : ℕ). sign_there l.var (slice_get ks n)) e) ∙ sym f ∙ g)

pub missing_at : (l : Lit) (ks : List Lit) (at : ℕ) (s : Option Bool) → at ≡ place l.var ks
    → s ≡ sign_there l.var (slice_get ks at) → s ≡ None → inserted l ks ≡ Some (insert ks at l)
missing_at l ks at s e f g =
    inserted_missing l ks (sym (ap (λ (n : ℕ). sign_there l.var (slice_get ks n)) e) ∙ sym f ∙ g)
    ∙ ap (λ (n : ℕ). Some (insert ks n l)) (sym e)
