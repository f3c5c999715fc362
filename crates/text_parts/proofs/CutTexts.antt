-- A text is cut at the first such byte.
use Rattle.std.proofs.Common.{◌≡◌, ℕ, Bool, true, false, cond, eqb, not, List, [], ◌∷◌, ◌++◌, Option, Some, None, refl, sym, ap, ◌∙◌, subst}
use Rattle.std.specs.List.{list_all}
use Rattle.std.proofs.lemmas.Bool.{and_parts, and_from, eq-eqb, eqb-true, not-true}
use Rattle.std.proofs.lemmas.Option.{same_Some}
use Rattle.text_parts.specs.Cuts.{onto_front, cut_at}
use Rattle.text_parts.specs.Laws.{CutsAreFirst}

-- there is no such byte
abbrev pub lacks : ℕ → List ℕ → Bool
lacks byte text = list_all (λ b. not (eqb b byte)) text

front_some : (b : ℕ) (o : Option (List ℕ × List ℕ)) (x : List ℕ × List ℕ) → onto_front b o ≡ Some x → (y : List ℕ × List ℕ) × (o ≡ Some y) × (x.0 ≡ b ∷ y.0) × (x.1 ≡ y.1)
front_some b None x h = cc
front_some b (Some y) x h =
    let same = same_Some (b ∷ y.0, y.1) x h in
    (y, refl, ap (λ (p : List ℕ × List ℕ). p.0) (sym same), ap (λ (p : List ℕ × List ℕ). p.1) (sym same))

pub cut-known : (byte : ℕ) (text : List ℕ) (x : List ℕ × List ℕ) → cut_at byte text ≡ Some x → (text ≡ x.0 ++ byte ∷ x.1) × (lacks byte x.0 ≡ true)
unfolding cut_at
cut-known byte [] x h = cc
cut-known byte (b ∷ bs) x h =
    elim (eqb b byte) as (λ t. eqb b byte ≡ t → cond t (Some ([], bs)) (onto_front b (cut_at byte bs)) ≡ Some x → (b ∷ bs ≡ x.0 ++ byte ∷ x.1) × (lacks byte x.0 ≡ true)) [
      | true ↦ λ e found.
          let same = same_Some ([], bs) x found in
          subst (λ (p : List ℕ × List ℕ). (b ∷ bs ≡ p.0 ++ byte ∷ p.1) × (lacks byte p.0 ≡ true)) same (ap (λ (y : ℕ). y ∷ bs) (eqb-true b byte e), refl)
      | false ↦ λ e found.
          let p = front_some b (cut_at byte bs) x found in
          let more = cut-known byte bs p.0 p.1 in (
            ap (λ (xs : List ℕ). b ∷ xs) more.0 ∙ sym (ap (λ (xs : List ℕ). xs ++ byte ∷ x.1) p.2 ∙ ap (λ (xs : List ℕ). (b ∷ p.0.0) ++ byte ∷ xs) p.3),
            ap (lacks byte) p.2 ∙ and_from (not (eqb b byte)) (lacks byte p.0.0) (ap not e) more.1,
          )
    ] refl h

pub cut-only : (byte : ℕ) (x y : List ℕ) → eqb byte byte ≡ true → lacks byte x ≡ true → cut_at byte (x ++ byte ∷ y) ≡ Some (x, y)
unfolding cut_at
cut-only byte [] y same h = rw same refl
cut-only byte (b ∷ bs) y same h =
    let p = and_parts (not (eqb b byte)) (lacks byte bs) h in
    let other = not-true (eqb b byte) p.0 in
    rw other (ap (onto_front b) (cut-only byte bs y same p.1))

-- a text without such a byte isn't cut
pub cut-none : (byte : ℕ) (text : List ℕ) → lacks byte text ≡ true → cut_at byte text ≡ None
unfolding cut_at
cut-none byte [] h = refl
cut-none byte (b ∷ bs) h =
    let p = and_parts (not (eqb b byte)) (lacks byte bs) h in
    let other = not-true (eqb b byte) p.0 in
    rw other (ap (onto_front b) (cut-none byte bs p.1))

-- a text is cut at the first such byte, and at no other
pub cuts_first : CutsAreFirst
cuts_first = record {
  none = cut-none;
  some = λ byte before after lacking. cut-only byte before after (eq-eqb byte byte refl) lacking;
  known = λ byte text before after h. cut-known byte text (before, after) h;
}
