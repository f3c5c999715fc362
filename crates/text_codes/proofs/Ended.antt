-- Numbers with a sign, and those that only one byte may end.
use Rattle.std.proofs.Common.{◌≡◌, ◌⊎◌, inl, inr, ℕ, ◌<◌, ◌^◌, Bool, true, false, cond, List, [], ◌∷◌, ◌++◌, length, refl, sym, ap, ◌∙◌, subst, arith}
use Rattle.std.specs.Prelude.{decimal}
use Rattle.std.specs.Char.{digit_value}
use Rattle.std.specs.Str.Parse.{AllDigits}
use Rattle.std.proofs.lemmas.Bool.{true≢false, false≢true}
use Rattle.std.proofs.lemmas.Fmt.{decimal_nonempty}
use Rattle.text_codes.specs.Codes.{Reads}
use Rattle.text_codes.specs.Numbers.{ended, IsEnded, IsRange, IsWithin, number_at, settled_at, signed_text, IsSigned, signed_at}
use Rattle.text_codes.specs.Readers.{made_at}
use Rattle.text_codes.proofs.Choices.{choose_reads}
use Rattle.text_codes.proofs.Combined.{made_reads}
use Rattle.text_codes.proofs.Decimals.{all_digits}
use Rattle.text_codes.proofs.NumberReading.{number_reads}

pub settled_reads : (limit low : ℕ) (ends : ℕ → ℕ → Bool) (end : ℕ → ℕ) → IsRange limit low ends
    → ((n : ℕ) → ends n (end n) ≡ true) → ((n c : ℕ) → ends n c ≡ true → c ≡ end n)
    → Reads (λ n. decimal n ++ end n ∷ []) (IsWithin limit low) (settled_at limit low ends)
settled_reads limit low ends end range there only =
    made_reads (λ n. decimal n ++ end n ∷ []) (IsWithin limit low) ended (IsEnded limit low ends) (λ (v : ℕ × ℕ). v.0) (number_at limit low ends)
    (record {
      text = λ u h. ap (λ (c : ℕ). decimal u.0 ++ c ∷ []) (sym (only u.0 u.1 h.last));
      fits = λ u h. (h.least, h.below);
      from = λ n h. ((n, end n), (record { least = h.0; below = h.1; last = there n }, refl));
    })
    (number_reads limit low ends range)

-- a number begins with no sign
unsigned : (limit low : ℕ) (ends : ℕ → ℕ → Bool) → IsRange limit low ends → (v : ℕ × ℕ) → IsEnded limit low ends v
    → (x y : List ℕ) → ended v ++ x ≡ 45 ∷ y → ⊥
unsigned limit low ends range v h x y e =
    let small : v.0 < 2 ^ 64 = omega (arith, h.below, range.short) in
    of_digits (decimal v.0) (all_digits v.0 small) (decimal_nonempty v.0 small) e
  where
    of_digits : (ds : List ℕ) → AllDigits 10 ds → 0 < length ds → (ds ++ v.1 ∷ []) ++ x ≡ 45 ∷ y → ⊥
    of_digits [] all filled e = omega arith
    of_digits (d ∷ ds) all filled e =
        let is : d ≡ 45 = heads d 45 ((ds ++ v.1 ∷ []) ++ x) y e in
        let low : digit_value 45 < 10 = subst (λ (c : ℕ). digit_value c < 10) is all.0 in omega (arith, low)
      where
        heads : (b c : ℕ) (x y : List ℕ) → b ∷ x ≡ c ∷ y → b ≡ c
        heads b c x y e = cc

pub signed_reads : (below above : ℕ) (ends : ℕ → ℕ → Bool) → IsRange below 1 ends → IsRange above 0 ends
    → Reads signed_text (IsSigned below above ends) (signed_at below above ends)
signed_reads below above ends low high =
    choose_reads 45 signed_text (IsSigned below above ends) (λ (v : Bool × (ℕ × ℕ)). ended v.1) Negative Positive
    (made_at (λ (v : ℕ × ℕ). (true, v)) (number_at below 1 ends)) (made_at (λ (v : ℕ × ℕ). (false, v)) (number_at above 0 ends))
    (record {
      text = λ v h. ap (λ (b : Bool). cond b (45 ∷ ended v.1) (ended v.1)) h.0;
      other = λ v x y h e. unsigned above 0 ends high v.1 h.1 x y (ap (λ (b : Bool). cond b (45 ∷ ended v.1) (ended v.1) ++ x) (sym h.0) ∙ e);
      first = λ v h. first v.0 v.1 h.0 h.1;
      second = λ v h. second v.0 v.1 h.0 h.1;
      either = λ v h. either v.0 v.1 h;
    })
    (made_reads (λ (v : Bool × (ℕ × ℕ)). ended v.1) Negative ended (IsEnded below 1 ends) (λ (v : ℕ × ℕ). (true, v)) (number_at below 1 ends)
    (record { text = λ u h. refl; fits = λ u h. (refl, h); from = λ v h. (v.1, (h.1, signed_is true v h.0)) }) (number_reads below 1 ends low))
    (made_reads signed_text Positive ended (IsEnded above 0 ends) (λ (v : ℕ × ℕ). (false, v)) (number_at above 0 ends)
    (record { text = λ u h. refl; fits = λ u h. (refl, h); from = λ v h. (v.1, (h.1, signed_is false v h.0)) }) (number_reads above 0 ends high))
  where
    Negative : Bool × (ℕ × ℕ) → Type 0
    Negative v = (v.0 ≡ true) × IsEnded below 1 ends v.1

    Positive : Bool × (ℕ × ℕ) → Type 0
    Positive v = (v.0 ≡ false) × IsEnded above 0 ends v.1

    signed_is : (b : Bool) (v : Bool × (ℕ × ℕ)) → v.0 ≡ b → (b, v.1) ≡ v
    signed_is b v e = ap (λ (c : Bool). let p : Bool × (ℕ × ℕ) = (c, v.1) in p) (sym e)

    first : (b : Bool) (v : ℕ × ℕ) → b ≡ true → IsEnded below 1 ends v → IsSigned below above ends (b, v)
    first true v e h = h
    first false v e h = absurd (false≢true e)

    second : (b : Bool) (v : ℕ × ℕ) → b ≡ false → IsEnded above 0 ends v → IsSigned below above ends (b, v)
    second true v e h = absurd (true≢false e)
    second false v e h = h

    either : (b : Bool) (v : ℕ × ℕ) → IsSigned below above ends (b, v) → Negative (b, v) ⊎ Positive (b, v)
    either true v h = inl (refl, h)
    either false v h = inr (refl, h)
