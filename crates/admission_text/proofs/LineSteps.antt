-- Single steps of the code's loop over lines: the draft so far, and what is left.
use Rattle.std.proofs.Common.{◌≡◌, ℕ, List, ◌∷◌, Option, Some, None, Result, Ok, Err, sym, ap, ◌∙◌}
use Rattle.outcomes.specs.Answering.{Gives}
use Rattle.outcomes.specs.Firsts.{◌>>=◌}
use Rattle.outcomes.proofs.Answering.{unless-map}
use Rattle.admission_text.specs.declared.entry.Draft.{Draft}
use Rattle.admission.specs.declared.refusal.AdmitRefusal.{AdmitRefusal}
use Rattle.admission.specs.declared.refusal.AdmitRefusal.TheVariants.{Memory}
use Rattle.text_parts.specs.Cuts.{parts, first_part, parts_left}
use Rattle.admission_text.specs.ReadingLines.{behind_line, behind_lines, next_line, no_draft}
use Rattle.text_parts.proofs.WordTexts.{parts-first}

module _ (left : Option (List ℕ)) (number : ℕ) (d : Draft) (text : List ℕ)
    (so_far : behind_lines 0 no_draft (parts 10 text) ≡ behind_lines number d (parts_left 10 left)) where
  line-left : (rest line : List ℕ) (more : Option (List ℕ)) (next : ℕ) → left ≡ Some rest → (line, more) ≡ first_part 10 rest → next ≡ next_line number
      → behind_lines 0 no_draft (parts 10 text) ≡ (behind_line next d line >>= λ e. behind_lines next e (parts_left 10 more))
  unfolding behind_lines
  line-left rest line more next is first counted =
      so_far ∙ ap (λ (o : Option (List ℕ)). behind_lines number d (parts_left 10 o)) is
      ∙ ap (λ (ls : List (List ℕ)). behind_lines number d ls) (parts-first 10 rest)
      ∙ ap (λ (f : List ℕ × Option (List ℕ)). behind_lines number d (f.0 ∷ parts_left 10 f.1)) (sym first)
      ∙ ap (λ (n : ℕ). behind_line n d line >>= λ e. behind_lines n e (parts_left 10 more)) (sym counted)

  pub line-some : (rest line : List ℕ) (more : Option (List ℕ)) (next : ℕ) (e : Draft) → left ≡ Some rest → (line, more) ≡ first_part 10 rest → next ≡ next_line number
      → behind_line next d line ≡ Ok e → behind_lines 0 no_draft (parts 10 text) ≡ behind_lines next e (parts_left 10 more)
  line-some rest line more next e is first counted read =
      line-left rest line more next is first counted ∙ ap (λ (r : Result Draft AdmitRefusal). r >>= λ f. behind_lines next f (parts_left 10 more)) read

  line-err : (rest line : List ℕ) (more : Option (List ℕ)) (next : ℕ) (e : AdmitRefusal) → left ≡ Some rest → (line, more) ≡ first_part 10 rest → next ≡ next_line number
      → behind_line next d line ≡ Err e → behind_lines 0 no_draft (parts 10 text) ≡ Err e
  line-err rest line more next e is first counted read =
      line-left rest line more next is first counted ∙ ap (λ (r : Result Draft AdmitRefusal). r >>= λ f. behind_lines next f (parts_left 10 more)) read

  -- a line that is refused is the answer
  pub line-stop : (rest line : List ℕ) (more : Option (List ℕ)) (next : ℕ) (e : AdmitRefusal) → left ≡ Some rest → (line, more) ≡ first_part 10 rest → next ≡ next_line number
      → Gives {A = Draft} Memory (Err e) (behind_line next d line) → Gives {A = Draft} Memory (Err e) (behind_lines 0 no_draft (parts 10 text))
  line-stop rest line more next e is first counted gives = unless-map (line-err rest line more next e is first counted) gives

  pub line-end : left ≡ None → behind_lines 0 no_draft (parts 10 text) ≡ Ok d
  unfolding behind_lines
  line-end is = so_far ∙ ap (λ (o : Option (List ℕ)). behind_lines number d (parts_left 10 o)) is
