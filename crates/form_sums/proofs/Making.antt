-- A form that is made goes last, with its node and width.
use Rattle.std.proofs.Common.{◌≡◌, ◌⊎◌, ℕ, zero, suc, ◌==◌, Bool, true, ◌&&◌, List, [], ◌∷◌, ◌++◌, Some, None, refl, ◌∙◌, ap, subst, inl, inr, length}
use Rattle.std.specs.Prelude.{slice_get}
use Rattle.std.proofs.lemmas.Bool.{cases_Bool, eqb-true}
use Rattle.node_values.specs.declared.node.Node.{Node}
use Rattle.node_values.specs.declared.node.NodeId.{NodeId}
use Rattle.node_forms.specs.declared.form.Form.{Form}
use Rattle.node_forms.specs.Forms.{form_at}
use Rattle.node_forms.specs.Listed.{IsListed}
use Rattle.form_sums.specs.Made.{AreForms, MadeForms}

-- two keys that compare as one are one
pub same_key : (a : NodeId) (w : ℕ) (k : NodeId × ℕ) → ((a.0 == k.0.0) && (w == k.1)) ≡ true → (a, w) ≡ k
same_key a w k h = elim (cases_Bool (a.0 == k.0.0)) [
  | inl t ↦
      let width : (w == k.1) ≡ true = rw t at h in
      λ i. (record { 0 = eqb-true a.0 k.0.0 t i }, eqb-true w k.1 width i)
  | inr f ↦ absurd (let none : Bool.false ≡ true = rw f at h in cc)
]

pub some_same : {X : Type 0} (a b : X) → Some a ≡ Some b → a ≡ b
some_same a b h = cc

-- the last of a list
pub last_got : {X : Type 0} (xs : List X) (x : X) → slice_get (xs ++ x ∷ []) (length xs) ≡ Some x
last_got [] x = refl
last_got (y ∷ ys) x = last_got ys x

-- what stands in a list stands in a longer one
got_before : {X : Type 0} (xs : List X) (x y : X) (i : ℕ) → slice_get xs i ≡ Some y → slice_get (xs ++ x ∷ []) i ≡ Some y
got_before [] x y i h = absurd (let none : None ≡ Some y = h in cc)
got_before (z ∷ zs) x y zero h = h
got_before (z ∷ zs) x y (suc i) h = got_before zs x y i h

-- and what stands in the longer one stands in it or is the last
got_cases : {X : Type 0} (xs : List X) (x y : X) (i : ℕ) → slice_get (xs ++ x ∷ []) i ≡ Some y
    → (slice_get xs i ≡ Some y) ⊎ ((i ≡ length xs) × (x ≡ y))
got_cases [] x y zero h = inr (refl, some_same x y h)
got_cases [] x y (suc i) h = absurd (let none : None ≡ Some y = h in cc)
got_cases (z ∷ zs) x y zero h = inl h
got_cases (z ∷ zs) x y (suc i) h = elim (got_cases zs x y i h) [ inl a ↦ inl a | inr b ↦ inr (ap suc b.0, b.1) ]

-- a form that is made is that of its node
pub forms_pushed : (ns : List Node) (made : MadeForms) (key : NodeId × ℕ) (form : Form) → length made.keys ≡ length made.forms
    → IsListed (length ns) key.1 (form_at ns key.1 key.0.0) form → AreForms ns made
    → AreForms ns (record { keys = made.keys ++ key ∷ []; forms = made.forms ++ form ∷ [] })
forms_pushed ns made key form same is are place k h = elim (got_cases made.keys key k place h) [
  | inl old ↦
      let has = are place k old in
      record { form = has.form; there = got_before made.forms form has.form place has.there; is = has.is }
  | inr last ↦
      let P : NodeId × ℕ → Type 0 = λ q. IsListed (length ns) q.1 (form_at ns q.1 q.0.0) form in
      record {
        form = form;
        there = ap (λ (i : ℕ). slice_get (made.forms ++ form ∷ []) i) (last.0 ∙ same) ∙ last_got made.forms form;
        is = subst P last.1 is;
      }
]
