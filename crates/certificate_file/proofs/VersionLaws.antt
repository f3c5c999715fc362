-- Other versions.
use Rattle.std.proofs.Common.{◌≡◌, ◌⊎◌, inl, inr, ℕ, ◌<◌, ◌^◌, min, Bool, true, false, not, eqb, List, [], ◌∷◌, ◌++◌, Option, Some, None, Ok, Err, refl, sym, ap, ◌∙◌, subst, arith}
use Rattle.std.specs.Prelude.{codes}
use Rattle.std.specs.Char.{digit_value}
use Rattle.std.specs.Str.Parse.{AllDigits}
use Rattle.std.proofs.lemmas.Bool.{and_from, both_ways, ne_eqb, eq-eqb, false≢true}
use Rattle.std.proofs.lemmas.List.{append-nil}
use Rattle.text_codes.specs.Codes.{IsRead}
use Rattle.text_codes.specs.Readers.{Reading, word_at}
use Rattle.text_codes.proofs.Chains.{known}
use Rattle.text_codes.proofs.Combined.{Anything, word_reads}
use Rattle.text_parts.specs.Cuts.{cut_at, first_part, first_by}
use Rattle.text_parts.specs.Numbers.{capped, decimal_of}
use Rattle.text_parts.proofs.CutTexts.{lacks, cut-known, cut-only, cut-none}
use Rattle.text_parts.proofs.NumberTexts.{decimal-known, decimal-only}
use Rattle.certificate_file.specs.Judging.{is_other_number, is_other_behind, is_other_version}
use Rattle.certificate_file.specs.Texts.{IsOtherVersion}

-- a number that is kept is 1 where it is 1
kept_one : (o : Option ℕ) → is_other_number (capped o) ≡ true → (n : ℕ) × ((o ≡ Some n) × (n ≡ 1 → ⊥))
kept_one None h = absurd (false≢true h)
kept_one (Some n) h = (n, (refl, λ e. both_ways (eqb (min n (2 ^ 64)) 1) (not_true (eqb (min n (2 ^ 64)) 1) h) (eq-eqb (min n (2 ^ 64)) 1 (omega (arith, e)))))
  where
    not_true : (t : Bool) → not t ≡ true → t ≡ false
    not_true true e = absurd (false≢true e)
    not_true false e = refl

kept_other : (n : ℕ) → (n ≡ 1 → ⊥) → is_other_number (capped (Some n)) ≡ true
kept_other n h = ap (λ (t : Bool). not t) (ne_eqb (min n (2 ^ 64)) 1 (λ e. h (omega (arith, e))))

-- what stands on a line, and what is behind it
line_known : (text : List ℕ) → (rest : List ℕ) × ((text ≡ (first_part 10 text).0 ++ rest) × ((rest ≡ []) ⊎ ((behind : List ℕ) × (rest ≡ 10 ∷ behind))))
unfolding first_part
line_known text = along (cut_at 10 text) refl
  where
    along : (o : Option (List ℕ × List ℕ)) → cut_at 10 text ≡ o
        → (rest : List ℕ) × ((text ≡ (first_by text o).0 ++ rest) × ((rest ≡ []) ⊎ ((behind : List ℕ) × (rest ≡ 10 ∷ behind))))
    along None e = ([], (sym (append-nil text), inl refl))
    along (Some x) e = (10 ∷ x.1, ((cut-known 10 text x e).0, inr (x.1, refl)))

-- digits have no newline
digits_lack : (ds : List ℕ) → AllDigits 10 ds → lacks 10 ds ≡ true
digits_lack [] h = refl
digits_lack (d ∷ ds) h =
    and_from _ _ (ap (λ (t : Bool). not t) (ne_eqb d 10 (λ e. (let l : digit_value 10 < 10 = subst (λ (c : ℕ). digit_value c < 10) e h.0 in omega (arith, l))))) (digits_lack ds h.1)

line_of : (digits rest : List ℕ) → lacks 10 digits ≡ true → (rest ≡ []) ⊎ ((behind : List ℕ) × (rest ≡ 10 ∷ behind)) → (first_part 10 (digits ++ rest)).0 ≡ digits
unfolding first_part
line_of digits rest h ends = elim ends [
  | inl none ↦ subst (λ (t : List ℕ). (first_by (digits ++ t) (cut_at 10 (digits ++ t))).0 ≡ digits) (sym none) at_end
  | inr more ↦ subst (λ (t : List ℕ). (first_by (digits ++ t) (cut_at 10 (digits ++ t))).0 ≡ digits) (sym more.1)
      (ap (λ (o : Option (List ℕ × List ℕ)). (first_by (digits ++ 10 ∷ more.0) o).0) (cut-only 10 digits more.0 refl h))
]
  where
    at_end : (first_by (digits ++ []) (cut_at 10 (digits ++ []))).0 ≡ digits
    at_end = subst (λ (t : List ℕ). (first_by t (cut_at 10 t)).0 ≡ digits) (sym (append-nil digits)) (ap (λ (o : Option (List ℕ × List ℕ)). (first_by digits o).0) (cut-none 10 digits h))

word_parts : (text : List ℕ) (q : Reading (Unit {0})) → IsRead (λ (u : Unit {0}). codes "align-certificate ") Anything text q → is_other_behind q ≡ true → IsOtherVersion text
word_parts text (Err left) read h = absurd (false≢true h)
word_parts text (Ok x) read h =
    let number = kept_one (decimal_of (first_part 10 x.1).0) h in
    let line = line_known x.1 in
    record {
      digits = (first_part 10 x.1).0;
      rest = line.0;
      number = number.0;
      spelled = read.parts ∙ ap (λ (t : List ℕ). codes "align-certificate " ++ t) line.1.0;
      decimal = decimal-known (first_part 10 x.1).0 number.0 number.1.0;
      other = number.1.1;
      ends = line.1.1;
    }

-- the test is right, both ways

pub version_known : (text : List ℕ) → is_other_version text ≡ true → IsOtherVersion text
unfolding is_other_version
version_known text h = word_parts text (word_at (codes "align-certificate ") text) ((word_reads (codes "align-certificate ")).right text) h

pub version_only : (text : List ℕ) → IsOtherVersion text → is_other_version text ≡ true
unfolding is_other_version
version_only text v =
    let front = known (λ (u : Unit {0}). codes "align-certificate ") Anything (word_at (codes "align-certificate ")) (word_reads (codes "align-certificate ")) tt (v.digits ++ v.rest) tt in
    let at : word_at (codes "align-certificate ") text ≡ Ok (tt, v.digits ++ v.rest) = ap (λ (t : List ℕ). word_at (codes "align-certificate ") t) v.spelled ∙ front in
    ap is_other_behind at
    ∙ (ap (λ (t : List ℕ). is_other_number (capped (decimal_of t))) (line_of v.digits v.rest (digits_lack v.digits v.decimal.digits.1) v.ends)
    ∙ (ap (λ (o : Option ℕ). is_other_number (capped o)) (decimal-only v.digits v.number v.decimal) ∙ kept_other v.number v.other))
