-- The answer is the verdict.
use Rattle.std.proofs.Common.{◌≡◌, ◌⊎◌, inl, inr, ℕ, suc, ◌-◌, ◌^◌, min, Bool, true, false, cond, List, [], ◌∷◌, ◌++◌, Result, Ok, Err, refl, sym, ap, ◌∙◌, append_assoc}
use Rattle.std.specs.Prelude.{codes}
use Rattle.std.proofs.lemmas.Bool.{both_ways, cases_order, false_from_ne_true}
use Rattle.std.proofs.lemmas.List.{append-nil}
use Rattle.text_codes.specs.Codes.{IsRead}
use Rattle.text_codes.specs.Readers.{Reading, word_at}
use Rattle.text_parts.specs.Cuts.{cut_at, first_part}
use Rattle.text_parts.specs.Numbers.{decimal_of, digits_of}
use Rattle.text_codes.proofs.Chains.{free, known}
use Rattle.certificate_file.specs.declared.certificate.Certificate.{Certificate}
use Rattle.certificate_file.specs.declared.refusal.CertRefusal.{CertRefusal}
use Rattle.certificate_file.specs.declared.refusal.CertRefusal.TheVariants.{Version, Truncated, BadLine, Memory}
use Rattle.certificate_file.specs.Judging.{is_other_version, judged, answer_of}
use Rattle.certificate_file.specs.Texts.{certificate_text, CertificateFits, IsFront, IsTruncated, first_lines, IsBadLine, IsOtherVersion, IsVerdict}
use Rattle.certificate_file.specs.TreeReading.{certificate_at}
use Rattle.certificate_file.proofs.LineLaws.{newlines_in, lines_front, bad_line, told_line}
use Rattle.certificate_file.proofs.TreeTexts.{certificate_reads}
use Rattle.certificate_file.proofs.VersionLaws.{version_known, version_only}

judged_right : (text : List ℕ) → (IsOtherVersion text → ⊥) → (q : Reading Certificate) → IsRead certificate_text CertificateFits text q → IsVerdict text (judged text q)
judged_right text known_version (Ok (c, [])) read = (read.fits, read.parts ∙ append-nil (certificate_text c))
judged_right text known_version (Ok (c, b ∷ rest)) read = (
  known_version,
  (
    suc (newlines_in (certificate_text c)),
    (
      bad_line text (certificate_text c) b rest read.parts c read.fits [] (sym (append-nil (certificate_text c))) wrong,
      told_line text (certificate_text c) (b ∷ rest) read.parts,
    ),
  ),
)
  where
    none : (x : List ℕ) → b ∷ x ≡ [] → ⊥
    none x e = cc

    wrong : (w : Certificate) (x : List ℕ) → CertificateFits w → certificate_text c ++ b ∷ x ≡ certificate_text w → ⊥
    wrong w x h e = none x (free certificate_text CertificateFits certificate_at certificate_reads c w (b ∷ x) [] read.fits h (e ∙ sym (append-nil (certificate_text w)))).1
judged_right text known_version (Err []) read = (
  known_version,
  record {
    certificate = read.value;
    fits = read.fits;
    next = read.next;
    rest = read.more;
    begins = read.begins ∙ ap (λ (t : List ℕ). t ++ read.next ∷ read.more) (sym (append-nil read.good) ∙ sym read.parts);
  },
)
judged_right text known_version (Err (b ∷ left)) read = (
  known_version,
  (
    suc (newlines_in read.good),
    (
      bad_line text read.good b left read.parts read.value read.fits (read.next ∷ read.more) read.begins
          (λ w x h e. read.wrong w x [] h (e ∙ sym (append-nil (certificate_text w)))),
      told_line text read.good (b ∷ left) read.parts,
    ),
  ),
)

-- what is answered is so
pub answer_right : (text : List ℕ) → IsVerdict text (answer_of text)
answer_right text =
    elim (is_other_version text) as (λ t. is_other_version text ≡ t → IsVerdict text (cond t (Err Version) (judged text (certificate_at text)))) [
      | true ↦ λ e. version_known text e
      | false ↦ λ e. judged_right text (λ v. both_ways (is_other_version text) e (version_only text v)) (certificate_at text) (certificate_reads.right text)
    ] refl

-- no other verdict holds

known_front : (rest : List ℕ) → is_other_version (codes "align-certificate 1\nnodes " ++ rest) ≡ false
unfolding is_other_version word_at first_part cut_at decimal_of digits_of
known_front rest = refl

not_other : (text : List ℕ) → (IsOtherVersion text → ⊥) → is_other_version text ≡ false
not_other text h = false_from_ne_true (is_other_version text) (λ e. h (version_known text e))

judged_alone : (text : List ℕ) → is_other_version text ≡ false → answer_of text ≡ judged text (certificate_at text)
judged_alone text e = ap (λ (t : Bool). cond {A = Result Certificate CertRefusal} t (Err Version) (judged text (certificate_at text))) e

truncated_at : (text : List ℕ) → IsTruncated text → (q : Reading Certificate) → IsRead certificate_text CertificateFits text q → judged text q ≡ Err Truncated
truncated_at text cut (Ok x) read =
    absurd (none x.1 cut.next cut.rest
    (free certificate_text CertificateFits certificate_at certificate_reads x.0 cut.certificate (x.1 ++ cut.next ∷ cut.rest) [] read.fits cut.fits
    (sym (append_assoc (certificate_text x.0) x.1 (cut.next ∷ cut.rest)) ∙ (ap (λ (t : List ℕ). t ++ cut.next ∷ cut.rest) (sym read.parts)
    ∙ (sym cut.begins ∙ sym (append-nil (certificate_text cut.certificate)))))).1)
  where
    none : (x : List ℕ) (b : ℕ) (y : List ℕ) → x ++ b ∷ y ≡ [] → ⊥
    none [] b y e = cc
    none (a ∷ x) b y e = cc
truncated_at text cut (Err []) read = refl
truncated_at text cut (Err (b ∷ left)) read =
    absurd (read.wrong cut.certificate (left ++ cut.next ∷ cut.rest) [] cut.fits
    (sym (append_assoc read.good (b ∷ left) (cut.next ∷ cut.rest)) ∙ (ap (λ (t : List ℕ). t ++ cut.next ∷ cut.rest) (sym read.parts)
    ∙ (sym cut.begins ∙ sym (append-nil (certificate_text cut.certificate))))))

-- the lines of the front of a certificate are one
front_of : (text : List ℕ) (n : ℕ) (c : Certificate) (rest : List ℕ) → CertificateFits c → certificate_text c ≡ text ++ rest → IsFront (first_lines n text)
front_of text n c rest fits e =
    let lines = lines_front n text in
    record { certificate = c; fits = fits; rest = lines.0 ++ rest; begins = e ∙ (ap (λ (t : List ℕ). t ++ rest) lines.1 ∙ append_assoc (first_lines n text) lines.0 rest) }

one_line : (text : List ℕ) (m n : ℕ) → IsBadLine text m → IsBadLine text n → m ≡ n
one_line text m n h k = elim (cases_order m n) [
  | inl same ↦ same
  | inr other ↦ elim other [ inl less ↦ absurd (h.wrong (k.least m less)) | inr more ↦ absurd (k.wrong (h.least n more)) ]
]

told_alike : (text : List ℕ) (told line : ℕ) → IsBadLine text line → told ≡ min line (2 ^ 32 - 1) → (r : Result Certificate CertRefusal) → (t : ℕ) → r ≡ Err (BadLine t)
    → (other : ℕ) × (IsBadLine text other × (t ≡ min other (2 ^ 32 - 1))) → r ≡ Err (BadLine told)
told_alike text told line bad is r t e found =
    e ∙ ap (λ (n : ℕ). let f : Result Certificate CertRefusal = Err (BadLine n) in f)
    (found.1.1 ∙ (ap (λ (n : ℕ). min n (2 ^ 32 - 1)) (one_line text found.0 line found.1.0 bad) ∙ sym is))

bad_at : (text : List ℕ) (told line : ℕ) → (IsOtherVersion text → ⊥) → IsBadLine text line → told ≡ min line (2 ^ 32 - 1) → (q : Reading Certificate)
    → IsRead certificate_text CertificateFits text q → judged text q ≡ Err (BadLine told)
bad_at text told line known_version bad is (Ok (c, [])) read =
    absurd (bad.wrong (front_of text line c [] read.fits (sym (append-nil (certificate_text c)) ∙ (sym read.parts ∙ sym (append-nil text)))))
bad_at text told line known_version bad is (Ok (c, b ∷ rest)) read =
    told_alike text told line bad is (judged text (Ok (c, b ∷ rest))) _ refl (judged_right text known_version (Ok (c, b ∷ rest)) read).1
bad_at text told line known_version bad is (Err []) read =
    absurd (bad.wrong (front_of text line read.value (read.next ∷ read.more) read.fits
    (read.begins ∙ ap (λ (t : List ℕ). t ++ read.next ∷ read.more) (sym (append-nil read.good) ∙ sym read.parts))))
bad_at text told line known_version bad is (Err (b ∷ left)) read =
    told_alike text told line bad is (judged text (Err (b ∷ left))) _ refl (judged_right text known_version (Err (b ∷ left)) read).1

-- what holds of a text is what it is answered, unless memory is what is told
pub answer_only : (text : List ℕ) (r : Result Certificate CertRefusal) → IsVerdict text r → (r ≡ Err Memory) ⊎ (answer_of text ≡ r)
answer_only text (Ok c) h =
    let version : is_other_version text ≡ false = ap is_other_version h.1 ∙ known_front _ in
    let at : certificate_at text ≡ Ok (c, []) =
    ap certificate_at (h.1 ∙ sym (append-nil (certificate_text c))) ∙ known certificate_text CertificateFits certificate_at certificate_reads c [] h.0 in
    inr (judged_alone text version ∙ ap (judged text) at)
answer_only text (Err Version) h = inr (ap (λ (t : Bool). cond {A = Result Certificate CertRefusal} t (Err Version) (judged text (certificate_at text))) (version_only text h))
answer_only text (Err Truncated) h =
    inr (judged_alone text (not_other text h.0) ∙ truncated_at text h.1 (certificate_at text) (certificate_reads.right text))
answer_only text (Err (BadLine told)) h =
    inr (judged_alone text (not_other text h.0) ∙ bad_at text told h.1.0 h.0 h.1.1.0 h.1.1.1 (certificate_at text) (certificate_reads.right text))
answer_only text (Err Memory) h = inl refl
