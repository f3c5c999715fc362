-- The line of the first wrong byte.
use Rattle.std.proofs.Common.{◌≡◌, ℕ, suc, zero, ◌+◌, ◌-◌, ◌≤◌, ◌^◌, min, true, false, cond, eqb, List, [], ◌∷◌, ◌++◌, length, take, refl, sym, ap, ◌∙◌, append_assoc, arith}
use Rattle.std.specs.Prelude.{count_by}
use Rattle.std.proofs.lemmas.List.Recursion.{is_count_by}
use Rattle.certificate_file.specs.Judging.{line_number}
use Rattle.std.proofs.lemmas.List.{length-append, take_at}
use Rattle.certificate_file.specs.declared.certificate.Certificate.{Certificate}
use Rattle.certificate_file.specs.Texts.{certificate_text, CertificateFits, first_lines, IsBadLine}

-- the newlines of a text
abbrev pub newlines_in : List ℕ → ℕ
newlines_in [] = 0
newlines_in (b ∷ bs) = cond (eqb b 10) (suc (newlines_in bs)) (newlines_in bs)

counted : (bs : List ℕ) → newlines_in bs ≡ count_by (λ b. eqb b 10) bs
counted = is_count_by newlines_in (λ b. eqb b 10) refl (λ b bs. ap (λ (n : ℕ). cond (eqb b 10) n (newlines_in bs)) (one_more (newlines_in bs)))
  where
    one_more : (n : ℕ) → suc n ≡ 1 + n
    one_more n = omega arith

-- so many lines end within the front that has so many newlines
lines_within : (n : ℕ) (good rest : List ℕ) → n ≤ newlines_in good → (r : List ℕ) × (good ≡ first_lines n (good ++ rest) ++ r)
lines_within zero good rest h = (good, refl)
lines_within (suc n) [] rest h = absurd (omega arith)
lines_within (suc n) (b ∷ good) rest h =
    elim (eqb b 10) as (λ t. suc n ≤ cond t (suc (newlines_in good)) (newlines_in good)
    → (r : List ℕ) × (b ∷ good ≡ cond t (b ∷ first_lines n (good ++ rest)) (b ∷ first_lines (suc n) (good ++ rest)) ++ r)) [
      | true ↦ λ l. let again = lines_within n good rest (omega arith) in (again.0, ap (λ (t : List ℕ). b ∷ t) again.1)
      | false ↦ λ l. let again = lines_within (suc n) good rest l in (again.0, ap (λ (t : List ℕ). b ∷ t) again.1)
    ] h

one_line : (b : ℕ) (rest : List ℕ) → (x : List ℕ) × (first_lines 1 (b ∷ rest) ≡ b ∷ x)
one_line b rest = elim (eqb b 10) as (λ t. (x : List ℕ) × (cond t (b ∷ first_lines 0 rest) (b ∷ first_lines 1 rest) ≡ b ∷ x)) [
  | true ↦ ([], refl)
  | false ↦ (first_lines 1 rest, refl)
]

-- one line more has the byte behind the front
lines_reach : (good : List ℕ) (b : ℕ) (rest : List ℕ) → (x : List ℕ) × (first_lines (suc (newlines_in good)) (good ++ b ∷ rest) ≡ good ++ b ∷ x)
lines_reach [] b rest = one_line b rest
lines_reach (g0 ∷ good) b rest =
    let again = lines_reach good b rest in
    elim (eqb g0 10) as (λ t. (x : List ℕ) × (cond t (g0 ∷ first_lines (cond t (suc (newlines_in good)) (newlines_in good)) (good ++ b ∷ rest))
    (g0 ∷ first_lines (suc (cond t (suc (newlines_in good)) (newlines_in good))) (good ++ b ∷ rest)) ≡ g0 ∷ (good ++ b ∷ x))) [
      | true ↦ (again.0, ap (λ (t : List ℕ). g0 ∷ t) again.1)
      | false ↦ (again.0, ap (λ (t : List ℕ). g0 ∷ t) again.1)
    ]

-- so many lines are a front of the text
pub lines_front : (n : ℕ) (text : List ℕ) → (r : List ℕ) × (text ≡ first_lines n text ++ r)
lines_front zero text = (text, refl)
lines_front (suc n) [] = ([], refl)
lines_front (suc n) (b ∷ text) =
    elim (eqb b 10) as (λ t. (r : List ℕ) × (b ∷ text ≡ cond t (b ∷ first_lines n text) (b ∷ first_lines (suc n) text) ++ r)) [
      | true ↦ (let again = lines_front n text in (again.0, ap (λ (t : List ℕ). b ∷ t) again.1))
      | false ↦ (let again = lines_front (suc n) text in (again.0, ap (λ (t : List ℕ). b ∷ t) again.1))
    ]

-- the line of a byte that no certificate has there, behind a front of one
pub bad_line : (text good : List ℕ) (b : ℕ) (left : List ℕ) → text ≡ good ++ b ∷ left
    → (c : Certificate) → CertificateFits c → (rest : List ℕ) → certificate_text c ≡ good ++ rest
    → ((w : Certificate) (x : List ℕ) → CertificateFits w → good ++ b ∷ x ≡ certificate_text w → ⊥)
    → IsBadLine text (suc (newlines_in good))
bad_line text good b left parts c fits rest begins wrong = record {
  wrong = λ front.
      let reach = lines_reach good b left in
      wrong front.certificate (reach.0 ++ front.rest) front.fits
      (sym (append_assoc good (b ∷ reach.0) front.rest)
      ∙ (ap (λ (t : List ℕ). t ++ front.rest) (sym reach.1 ∙ ap (λ (t : List ℕ). first_lines (suc (newlines_in good)) t) (sym parts)) ∙ sym front.begins));
  least = λ n low.
      let within = lines_within n good (b ∷ left) (omega arith) in
      record {
        certificate = c;
        fits = fits;
        rest = within.0 ++ rest;
        begins = begins ∙ (ap (λ (t : List ℕ). t ++ rest) within.1
            ∙ (append_assoc (first_lines n (good ++ b ∷ left)) within.0 rest
            ∙ ap (λ (t : List ℕ). first_lines n t ++ (within.0 ++ rest)) (sym parts)));
      };
}

-- the number of that line, as the code finds it
pub told_line : (text good left : List ℕ) → text ≡ good ++ left → line_number text left ≡ min (suc (newlines_in good)) (2 ^ 32 - 1)
told_line text good left parts =
    ap (λ (t : List ℕ). min (count_by (λ b. eqb b 10) t + 1) (2 ^ 32 - 1)) front
    ∙ (ap (λ (n : ℕ). min (n + 1) (2 ^ 32 - 1)) (sym (counted good)) ∙ ap (λ (n : ℕ). min n (2 ^ 32 - 1)) (next (newlines_in good)))
  where
    next : (n : ℕ) → n + 1 ≡ suc n
    next n = omega arith

    front : take (length text - length left) text ≡ good
    front =
        let l = ap (λ (t : List ℕ). length t) parts in
        ap (λ (t : List ℕ). take (length text - length left) t) parts
        ∙ take_at good left (length text - length left) (omega (arith, l, length-append good left))
