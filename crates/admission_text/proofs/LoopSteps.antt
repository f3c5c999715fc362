-- Single steps of the code's loops: what is read so far, and what is left.
use Rattle.std.proofs.Common.{◌≡◌, ℕ, suc, ◌+◌, ◌-◌, ◌<◌, ◌≤◌, Bool, false, List, [], ◌∷◌, ◌++◌, length, Option, Some, None, refl, sym, ap, ◌∙◌, subst, append-nil, append_assoc, length-append, arith}
use Rattle.insn_ops.specs.declared.output.Output.{Output}
use Rattle.admission.specs.declared.expr.Term.{Term}
use Rattle.text_parts.specs.Cuts.{◌>>=◌, first_part, parts_left}
use Rattle.admission_text.specs.Reading.{cut_sign, expr_of, output_of, outputs_of, term_of, terms_by, terms_of}
use Rattle.admission_text.proofs.Pieces.{before_those}
use Rattle.text_parts.proofs.WordTexts.{left-shorter, left_size, parts-first}

before_those-cons : {X : Type 0} (xs : List X) (x : X) (left : Option (List X)) → before_those xs (left >>= λ more. Some (x ∷ more)) ≡ before_those (xs ++ x ∷ []) left
before_those-cons xs x None = refl
before_those-cons xs x (Some more) = ap (λ (ys : List _). Some ys) (sym (append_assoc xs (x ∷ []) more))

length-more : {X : Type 0} (xs kept : List X) (x : X) → kept ≡ xs ++ x ∷ [] → length kept ≡ length xs + 1
length-more xs kept x is = ap length is ∙ length-append xs (x ∷ [])

-- terms

terms-suc : (left : ℕ) (minus : Bool) (text : List ℕ) → terms_of (suc left) minus text ≡ terms_by (cut_sign text) minus text (terms_of left)
unfolding terms_of
terms-suc left minus text = refl

terms-zero : (minus : Bool) (text : List ℕ) → terms_of 0 minus text ≡ None
unfolding terms_of
terms-zero minus text = refl

module _ (text rest : List ℕ) (minus : Bool) (terms : List Term) (so_far : terms_of 8 false text ≡ before_those terms (terms_of (8 - length terms) minus rest)) where
  term-left : (r : Option (List ℕ × Bool × List ℕ)) → length terms < 8 → cut_sign rest ≡ r
      → terms_of 8 false text ≡ before_those terms (terms_by r minus rest (terms_of (8 - (length terms + 1))))
  term-left r more cut =
      let one : 8 - length terms ≡ suc (8 - (length terms + 1)) = omega arith in
      so_far ∙ ap (λ (n : ℕ). before_those terms (terms_of n minus rest)) one ∙ ap (before_those terms) (terms-suc (8 - (length terms + 1)) minus rest)
      ∙ ap (λ (o : Option (List ℕ × Bool × List ℕ)). before_those terms (terms_by o minus rest (terms_of (8 - (length terms + 1))))) cut

  -- a last term that is none
  pub last-none : length terms < 8 → None ≡ cut_sign rest → None ≡ term_of minus rest → None ≡ expr_of text
  unfolding expr_of
  last-none more cut none = let whole = term-left None more (sym cut) in rw (whole, ← none) refl

  -- a last term
  pub last-some : (t : Term) (kept : List Term) → length terms < 8 → None ≡ cut_sign rest → Some t ≡ term_of minus rest → kept ≡ terms ++ t ∷ []
      → Some (record { terms = kept }) ≡ expr_of text
  unfolding expr_of
  last-some t kept more cut some is = let whole = term-left None more (sym cut) in rw (whole, ← some) (ap (λ (ts : List Term). Some (record { terms = ts })) is)

  -- a term that is none, before a sign
  pub more-none : (here after : List ℕ) (next : Bool) → length terms < 8 → Some (here, next, after) ≡ cut_sign rest → None ≡ term_of minus here → None ≡ expr_of text
  unfolding expr_of
  more-none here after next more cut none = let whole = term-left (Some (here, next, after)) more (sym cut) in rw (whole, ← none) refl

  -- a term before a sign
  pub more-some : (here after : List ℕ) (next : Bool) (t : Term) (kept : List Term) → length terms < 8 → Some (here, next, after) ≡ cut_sign rest → Some t ≡ term_of minus here
      → kept ≡ terms ++ t ∷ [] → (terms_of 8 false text ≡ before_those kept (terms_of (8 - length kept) next after)) × (length kept ≤ 8)
  more-some here after next t kept more cut some is =
      let whole = term-left (Some (here, next, after)) more (sym cut) in
      let count = length-more terms kept t is in (
        whole ∙ ap (λ (o : Option Term). before_those terms (o >>= λ u. (terms_of (8 - (length terms + 1)) next after >>= λ us. Some (u ∷ us)))) (sym some)
            ∙ before_those-cons terms t (terms_of (8 - (length terms + 1)) next after)
            ∙ ap (λ (ts : List Term). before_those ts (terms_of (8 - (length terms + 1)) next after)) (sym is)
            ∙ ap (λ (n : ℕ). before_those kept (terms_of (8 - n) next after)) (sym count),
        omega arith,
      )

  -- eight terms, and more behind them
  pub too-many : 8 ≤ length terms → None ≡ expr_of text
  unfolding expr_of
  too-many full =
      let none : 8 - length terms ≡ 0 = omega arith in
      let whole : terms_of 8 false text ≡ None =
      so_far ∙ ap (λ (n : ℕ). before_those terms (terms_of n minus rest)) none ∙ ap (before_those terms) (terms-zero minus rest) in
      rw whole refl

-- outputs

module _ (all left : Option (List ℕ)) (live : List Output) (so_far : outputs_of (parts_left 32 all) ≡ before_those live (outputs_of (parts_left 32 left))) where
  output-left : (text word : List ℕ) (more : Option (List ℕ)) → left ≡ Some text → (word, more) ≡ first_part 32 text
      → outputs_of (parts_left 32 all) ≡ before_those live (output_of word >>= λ output. (outputs_of (parts_left 32 more) >>= λ rest. Some (output ∷ rest)))
  unfolding outputs_of
  output-left text word more is first =
      so_far ∙ ap (λ (o : Option (List ℕ)). before_those live (outputs_of (parts_left 32 o))) is
      ∙ ap (λ (ws : List (List ℕ)). before_those live (outputs_of ws)) (parts-first 32 text)
      ∙ ap (λ (f : List ℕ × Option (List ℕ)). before_those live (outputs_of (f.0 ∷ parts_left 32 f.1))) (sym first)

  pub output-some : (text word : List ℕ) (more : Option (List ℕ)) (o : Output) (kept : List Output) → left ≡ Some text → (word, more) ≡ first_part 32 text → Some o ≡ output_of word
      → kept ≡ live ++ o ∷ [] → outputs_of (parts_left 32 all) ≡ before_those kept (outputs_of (parts_left 32 more))
  output-some text word more o kept is first some grown =
      output-left text word more is first
      ∙ ap (λ (x : Option Output). before_those live (x >>= λ output. (outputs_of (parts_left 32 more) >>= λ rest. Some (output ∷ rest)))) (sym some)
      ∙ before_those-cons live o (outputs_of (parts_left 32 more)) ∙ ap (λ (os : List Output). before_those os (outputs_of (parts_left 32 more))) (sym grown)

  pub output-none : (text word : List ℕ) (more : Option (List ℕ)) → left ≡ Some text → (word, more) ≡ first_part 32 text → None ≡ output_of word → None ≡ outputs_of (parts_left 32 all)
  output-none text word more is first none =
      sym (output-left text word more is first
      ∙ ap (λ (x : Option Output). before_those live (x >>= λ output. (outputs_of (parts_left 32 more) >>= λ rest. Some (output ∷ rest)))) (sym none))

  pub output-end : left ≡ None → Some live ≡ outputs_of (parts_left 32 all)
  unfolding outputs_of
  output-end is = sym (so_far ∙ ap (λ (o : Option (List ℕ)). before_those live (outputs_of (parts_left 32 o))) is ∙ ap (λ (os : List Output). Some os) (append-nil live))

-- what is left gets less
pub left-less : (byte : ℕ) (left more : Option (List ℕ)) (text part : List ℕ) → left ≡ Some text → (part, more) ≡ first_part byte text → left_size more < left_size left
left-less byte left more text part is first =
    subst (λ (o : Option (List ℕ)). left_size more < left_size o) (sym is)
    (subst (λ (f : List ℕ × Option (List ℕ)). left_size f.1 < length text + 1) (sym first) (left-shorter byte text))
