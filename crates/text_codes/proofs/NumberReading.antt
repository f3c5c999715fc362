-- Numbers are read rightly.
use Rattle.std.proofs.Common.{◌≡◌, inl, inr, ℕ, suc, zero, ◌+◌, ◌*◌, ◌<◌, ◌≤◌, ◌^◌, Bool, true, false, ◌&&◌, cond, ltb, leb, List, [], ◌∷◌, ◌++◌, length, get_or, Ok, Err, refl, sym, ap, ◌∙◌, subst, append_assoc, arith}
use Rattle.std.specs.Prelude.{decimal}
use Rattle.std.specs.Char.{digit_value}
use Rattle.std.specs.Str.Parse.{AllDigits}
use Rattle.std.proofs.lemmas.Bool.{and_parts, and_from, ltb-true, leb-true, lt-ltb, le-leb, both_ways, cases_lt}
use Rattle.std.proofs.lemmas.Fmt.{decimal_injective, decimal_digit, decimal_nonempty, first_decimal}
use Rattle.std.proofs.lemmas.List.{append-nil, length-append}
use Rattle.text_codes.specs.Codes.{IsRead, Reads}
use Rattle.text_codes.specs.Numbers.{ended, IsEnded, IsRange, goes_on, digits_at, number_at}
use Rattle.text_codes.proofs.Decimals.{all_digits, digit_is, decimal_one, decimal_more, within, decimal_longer, decimal_zero}

module _ (limit low : ℕ) (ends : ℕ → ℕ → Bool) (range : IsRange limit low ends) where
  -- a text with a number at its front, against the digits of n and what is behind them
  behind_digits : (n : ℕ) → n < limit → (t : List ℕ) (w : ℕ × ℕ) (y : List ℕ) → IsEnded limit low ends w → decimal n ++ t ≡ ended w ++ y
      → (r : List ℕ) × ((decimal w.0 ≡ decimal n ++ r) × (t ≡ r ++ w.1 ∷ y))
  behind_digits n h t w y hw e =
      within (decimal n) t (decimal w.0) w.1 y (all_digits n (omega (arith, range.short))) (range.apart w.0 w.1 hw.last)
      (e ∙ append_assoc (decimal w.0) (w.1 ∷ []) y)

  no_longer : (n : ℕ) → n < limit → (b : ℕ) (r : List ℕ) (w : ℕ × ℕ) → IsEnded limit low ends w → decimal w.0 ≡ decimal n ++ b ∷ r
      → goes_on limit n b ≡ true
  no_longer zero h b r w hw e = absurd (decimal_zero w.0 b r (omega (arith, hw.below, range.short)) e)
  no_longer (suc n) h b r w hw e =
      let small : w.0 < 2 ^ 64 = omega (arith, hw.below, range.short) in
      let digit : digit_value b < 10 = last_digit (decimal (suc n)) b r (subst (λ (l : List ℕ). AllDigits 10 l) e (all_digits w.0 small)) in
      let more = decimal_longer w.0 (suc n) b r small (omega (arith, range.short)) e in
      and_from _ _ (lt-ltb (digit_value b) 10 digit)
      (and_from _ _ (lt-ltb 0 (suc n) (omega arith)) (lt-ltb (suc n * 10 + digit_value b) limit (omega (arith, hw.below))))
    where
      last_digit : (ds : List ℕ) (b : ℕ) (r : List ℕ) → AllDigits 10 (ds ++ b ∷ r) → digit_value b < 10
      last_digit [] b r h = h.0
      last_digit (d ∷ ds) b r h = last_digit ds b r h.1

  same_number : (n : ℕ) → n < limit → (w : ℕ × ℕ) → IsEnded limit low ends w → decimal w.0 ≡ decimal n ++ [] → w.0 ≡ n
  same_number n h w hw e = decimal_injective w.0 n (omega (arith, hw.below, range.short)) (omega (arith, range.short)) (e ∙ append-nil (decimal n))

  pub digits_right : (text : List ℕ) (n : ℕ) → low ≤ n → n < limit
      → IsRead ended (IsEnded limit low ends) (decimal n ++ text) (digits_at limit ends n text)
  unfolding digits_at
  digits_right [] n least below =
      let c = range.some n in
      record {
        good = decimal n;
        parts = refl;
        value = (n, c.0);
        fits = record { least = least; below = below; last = c.1 };
        next = c.0;
        more = [];
        begins = refl;
        wrong = λ w y hw e.
            let d = behind_digits n below [] w y hw (append-nil (decimal n) ∙ e) in nothing d.0 w.1 y d.1.1;
      }
    where
      nothing : (r : List ℕ) (c : ℕ) (y : List ℕ) → [] ≡ r ++ c ∷ y → ⊥
      nothing [] c y e = cc
      nothing (x ∷ r) c y e = cc
  digits_right (b ∷ text) n least below =
      elim (goes_on limit n b) as (λ t. goes_on limit n b ≡ t → IsRead ended (IsEnded limit low ends) (decimal n ++ b ∷ text)
      (cond t (digits_at limit ends (n * 10 + digit_value b) text) (cond (ends n b) (Ok ((n, b), text)) (Err (b ∷ text))))) [
        | true ↦ λ e.
            let p = and_parts (ltb (digit_value b) 10) (ltb 0 n && ltb (n * 10 + digit_value b) limit) e in
            let q = and_parts (ltb 0 n) (ltb (n * 10 + digit_value b) limit) p.1 in
            let digit = ltb-true (digit_value b) 10 p.0 in let some = ltb-true 0 n q.0 in
            let under = ltb-true (n * 10 + digit_value b) limit q.1 in
            subst (λ (t : List ℕ). IsRead ended (IsEnded limit low ends) t (digits_at limit ends (n * 10 + digit_value b) text))
            (ap (λ (t : List ℕ). t ++ text) (decimal_more n b some digit (omega (arith, range.short))) ∙ append_assoc (decimal n) (b ∷ []) text)
            (digits_right text (n * 10 + digit_value b) (omega arith) under)
        | false ↦ λ e.
            elim (ends n b) as (λ t. ends n b ≡ t → IsRead ended (IsEnded limit low ends) (decimal n ++ b ∷ text)
            (cond t (Ok ((n, b), text)) (Err (b ∷ text)))) [
              | true ↦ λ u. record {
                fits = record { least = least; below = below; last = u };
                parts = sym (append_assoc (decimal n) (b ∷ []) text);
                only = λ w y hw is. let d = behind_digits n below (b ∷ text) w y hw is in found e d.0 w y hw d.1.0 d.1.1;
              }
              | false ↦ λ u. record {
                good = decimal n;
                parts = refl;
                value = (n, (range.some n).0);
                fits = record { least = least; below = below; last = (range.some n).1 };
                next = (range.some n).0;
                more = [];
                begins = refl;
                wrong = λ w x y hw is. let d = behind_digits n below (b ∷ x) w y hw is in stopped e u d.0 x w y hw d.1.0 d.1.1;
              }
            ] refl
      ] refl
    where
      heads : (b c : ℕ) (x y : List ℕ) → b ∷ x ≡ c ∷ y → b ≡ c
      heads b c x y e = cc

      tails : (b c : ℕ) (x y : List ℕ) → b ∷ x ≡ c ∷ y → x ≡ y
      tails b c x y e = cc

      goes : (d : ℕ) (r x : List ℕ) (w : ℕ × ℕ) (y : List ℕ) → IsEnded limit low ends w → decimal w.0 ≡ decimal n ++ d ∷ r → b ∷ x ≡ d ∷ (r ++ w.1 ∷ y)
          → goes_on limit n b ≡ true
      goes d r x w y hw is e = no_longer n below b r w hw (is ∙ ap (λ (c : ℕ). decimal n ++ c ∷ r) (sym (heads b d x (r ++ w.1 ∷ y) e)))

      found : goes_on limit n b ≡ false → (r : List ℕ) (w : ℕ × ℕ) (y : List ℕ) → IsEnded limit low ends w → decimal w.0 ≡ decimal n ++ r → b ∷ text ≡ r ++ w.1 ∷ y
          → (w ≡ (n, b)) × (y ≡ text)
      found stays [] w y hw is e =
          (pair_is w.0 w.1 n b (same_number n below w hw is) (sym (heads b w.1 text y e)), sym (tails b w.1 text y e))
        where
          pair_is : (a b c d : ℕ) → a ≡ c → b ≡ d → ◌≡◌ {A = ℕ × ℕ} (a, b) (c, d)
          pair_is a b c d e f = ap (λ (x : ℕ). let p : ℕ × ℕ = (x, b) in p) e ∙ ap (λ (x : ℕ). let p : ℕ × ℕ = (c, x) in p) f
      found stays (d ∷ r) w y hw is e = absurd (both_ways (goes_on limit n b) stays (goes d r text w y hw is e))

      stopped : goes_on limit n b ≡ false → ends n b ≡ false → (r x : List ℕ) (w : ℕ × ℕ) (y : List ℕ) → IsEnded limit low ends w → decimal w.0 ≡ decimal n ++ r
          → b ∷ x ≡ r ++ w.1 ∷ y → ⊥
      stopped stays nor [] x w y hw is e =
          both_ways (ends n b) nor (ap (λ (c : ℕ). ends n c) (heads b w.1 x y e) ∙ (ap (λ (m : ℕ). ends m w.1) (sym (same_number n below w hw is)) ∙ hw.last))
      stopped stays nor (d ∷ r) x w y hw is e = both_ways (goes_on limit n b) stays (goes d r x w y hw is e)

  -- the first digit of a number, and the byte that a text of one begins with
  first_digit : (w : ℕ × ℕ) → IsEnded limit low ends w → (b : ℕ) (x y : List ℕ) → b ∷ x ≡ ended w ++ y
      → (digit_value b < 10) × (low ≤ digit_value b)
  first_digit w hw b x y e =
      let small : w.0 < 2 ^ 64 = omega (arith, hw.below, range.short) in
      let front : b ∷ x ≡ decimal w.0 ++ w.1 ∷ y = e ∙ append_assoc (decimal w.0) (w.1 ∷ []) y in
      of_digits (decimal w.0) (all_digits w.0 small) (decimal_nonempty w.0 small) (λ some. first_decimal w.0 some small) front
    where
      of_digits : (ds : List ℕ) → AllDigits 10 ds → 0 < length ds → (0 < w.0 → 48 < get_or ds 0 0) → b ∷ x ≡ ds ++ w.1 ∷ y
          → (digit_value b < 10) × (low ≤ digit_value b)
      of_digits [] all filled leading e = absurd (omega arith)
      of_digits (d ∷ ds) all filled leading e =
          let is : b ≡ d = heads b d x (ds ++ w.1 ∷ y) e in
          let digit : digit_value b < 10 = subst (λ (c : ℕ). digit_value c < 10) (sym is) all.0 in (
            digit,
            elim (cases_lt 0 w.0) [
              | inl some ↦ (let high = leading some in let value = digit_is b digit in let r = range.least in omega arith)
              | inr none ↦ (let r = hw.least in omega arith)
            ],
          )
        where
          heads : (b c : ℕ) (x y : List ℕ) → b ∷ x ≡ c ∷ y → b ≡ c
          heads b c x y e = cc

  number_right : (text : List ℕ) → IsRead ended (IsEnded limit low ends) text (number_at limit low ends text)
  unfolding number_at
  number_right [] =
      let c = range.some 1 in
      record {
        good = [];
        parts = refl;
        value = (1, c.0);
        fits = record { least = range.least; below = omega (arith, range.long); last = c.1 };
        next = 49;
        more = c.0 ∷ [];
        begins = ap (λ (l : List ℕ). l ++ c.0 ∷ []) (decimal_digit 1 (omega arith));
        wrong = λ w y hw e. let l : length {A = ℕ} [] ≡ length (ended w ++ y) = ap (λ (t : List ℕ). length t) e in omega (arith, l, length-append (ended w) y, length-append (decimal w.0) (w.1 ∷ []));
      }
  number_right (b ∷ text) =
      elim (ltb (digit_value b) 10 && leb low (digit_value b)) as (λ t. (ltb (digit_value b) 10 && leb low (digit_value b)) ≡ t
      → IsRead ended (IsEnded limit low ends) (b ∷ text) (cond t (digits_at limit ends (digit_value b) text) (Err (b ∷ text)))) [
        | true ↦ λ e.
            let p = and_parts (ltb (digit_value b) 10) (leb low (digit_value b)) e in
            let digit = ltb-true (digit_value b) 10 p.0 in let least = leb-true low (digit_value b) p.1 in
            subst (λ (t : List ℕ). IsRead ended (IsEnded limit low ends) t (digits_at limit ends (digit_value b) text))
            (ap (λ (t : List ℕ). t ++ text) (decimal_one b digit))
            (digits_right text (digit_value b) least (omega (arith, range.long)))
        | false ↦ λ e.
            let c = range.some 1 in
            record {
              good = [];
              parts = refl;
              value = (1, c.0);
              fits = record { least = range.least; below = omega (arith, range.long); last = c.1 };
              next = 49;
              more = c.0 ∷ [];
              begins = ap (λ (l : List ℕ). l ++ c.0 ∷ []) (decimal_digit 1 (omega arith));
              wrong = λ w x y hw is.
                  let d = first_digit w hw b x y is in
                  both_ways _ e (and_from _ _ (lt-ltb (digit_value b) 10 d.0) (le-leb low (digit_value b) d.1));
            }
      ] refl

  pub number_reads : Reads ended (IsEnded limit low ends) (number_at limit low ends)
  number_reads = record { right = number_right }
