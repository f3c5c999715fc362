-- The lines of a text, taken off one by one.
use Rattle.std.proofs.Common.{◌≡◌, ℕ, ◌+◌, ◌<◌, ◌≤◌, Bool, true, false, cond, eqb, List, [], ◌∷◌, length, Option, Some, None, refl, ap, ◌∙◌, arith}
use Rattle.std.specs.List.{slice_split, onto_first}
use Rattle.std.specs.Str.Lines.{lines, lines_of_parts, strip_carriage_return}
use Rattle.std.proofs.lemmas.Bool.{ne_eqb}
use Rattle.std.proofs.lemmas.List.Splits.{length-slice_split}
use Rattle.text_parts.specs.Cuts.{cut_at}
use Rattle.text_parts.proofs.WordTexts.{IsCut, cut-outcome}
use Rattle.text_lines.specs.Cutting.{line_of, first_line}

-- what the first line and the rest are
abbrev pub IsFirst : List ℕ → Option (List ℕ × List ℕ) → Type 0
IsFirst text None = lines text ≡ []
IsFirst text (Some parts) = (lines text ≡ parts.0 ∷ lines parts.1) × (length parts.1 < length text)

lines_of_parts-cons : (x : List ℕ) (parts : List (List ℕ)) → 0 < length parts → lines_of_parts (x ∷ parts) ≡ strip_carriage_return x ∷ lines_of_parts parts
lines_of_parts-cons x [] some = absurd (omega arith)
lines_of_parts-cons x (y ∷ more) some = refl

line-from : (text : List ℕ) (r : Option (List ℕ × List ℕ)) → IsCut 10 text r → IsFirst text (line_of text r)
line-from [] None h = refl
line-from (b ∷ bs) None h =
    let long : eqb (length (b ∷ bs)) 0 ≡ false = ne_eqb (length (b ∷ bs)) 0 (λ e. omega arith) in
    let whole : lines (b ∷ bs) ≡ (b ∷ bs) ∷ [] = ap lines_of_parts h ∙ ap (λ (t : Bool). cond t [] ((b ∷ bs) ∷ [])) long in
    rw long (whole, omega arith)
line-from text (Some parts) h =
    let some : 0 < length (slice_split (λ b. eqb b 10) parts.1) = omega (arith, length-slice_split (λ b. eqb b 10) parts.1) in
    (ap lines_of_parts h.0 ∙ lines_of_parts-cons parts.0 (slice_split (λ b. eqb b 10) parts.1) some, h.1)

pub line-outcome : (text : List ℕ) → IsFirst text (first_line text)
unfolding first_line
line-outcome text = line-from text (cut_at 10 text) (cut-outcome 10 text)

-- where a first line is taken off
pub lines-some : (text line rest : List ℕ) → first_line text ≡ Some (line, rest) → (lines text ≡ line ∷ lines rest) × (length rest < length text)
lines-some text line rest e = rw e at (line-outcome text)

-- where there is none
pub lines-none : (text : List ℕ) → first_line text ≡ None → lines text ≡ []
lines-none text e = rw e at (line-outcome text)

one_part : (x : List ℕ) → length (lines_of_parts (x ∷ [])) ≤ 1
one_part x = elim (eqb (length x) 0) as (λ (t : Bool). length (cond t [] (x ∷ [])) ≤ 1) [ true ↦ omega arith | false ↦ omega arith ]

length-onto : (b n : ℕ) (parts : List (List ℕ)) → length (lines_of_parts parts) ≤ n → length (lines_of_parts (onto_first b parts)) ≤ n + 1
length-onto b n [] h = omega arith
length-onto b n (x ∷ []) h = omega (arith, one_part (b ∷ x))
length-onto b n (x ∷ y ∷ more) h = omega arith

length-newline : (n : ℕ) (parts : List (List ℕ)) → length (lines_of_parts parts) ≤ n → length (lines_of_parts ([] ∷ parts)) ≤ n + 1
length-newline n [] h = omega arith
length-newline n (y ∷ more) h = omega arith

-- a text has no more lines than bytes
pub length-lines-le : (text : List ℕ) → length (lines text) ≤ length text
length-lines-le [] = omega arith
length-lines-le (b ∷ bs) =
    let shorter = length-lines-le bs in
    elim (eqb b 10) as (λ (t : Bool). length (lines_of_parts (cond t ([] ∷ slice_split (λ x. eqb x 10) bs) (onto_first b (slice_split (λ x. eqb x 10) bs)))) ≤ length (b ∷ bs)) [
      | true ↦ omega (arith, length-newline (length bs) (slice_split (λ x. eqb x 10) bs) shorter)
      | false ↦ omega (arith, length-onto b (length bs) (slice_split (λ x. eqb x 10) bs) shorter)
    ]
