-- Prefixes of a text whose bytes pass a test, and blanks cut off.
use Rattle.std.proofs.Common.{◌≡◌, ℕ, suc, ◌+◌, ◌-◌, ◌<◌, ◌≤◌, Bool, true, false, cond, ◌&&◌, List, [], ◌∷◌, ◌++◌, length, take, drop, get_or, refl, ap, ◌∙◌, sym, add-one, append-nil, append_assoc, drop-cons, length-drop, arith}
use Rattle.std.specs.List.{list_all}
use Rattle.std.proofs.Math.Seq.{take-suc, take-length}
use Rattle.std.proofs.Math.ListN.{drop_of_length-le}
use Rattle.text_lines.specs.Bytes.{is_blank}
use Rattle.text_lines.specs.Words.{is_solid, prefix_of, behind_prefix, trim_end}

-- a text is its prefix and what stands behind it
pub prefix-whole : (p : ℕ → Bool) (text : List ℕ) → prefix_of p text ++ behind_prefix p text ≡ text
unfolding prefix_of behind_prefix
prefix-whole p [] = refl
prefix-whole p (b ∷ bs) =
    elim (p b) as (λ t. cond t (b ∷ prefix_of p bs) [] ++ cond t (behind_prefix p bs) (b ∷ bs) ≡ b ∷ bs)
    [ true ↦ ap (λ (xs : List ℕ). b ∷ xs) (prefix-whole p bs) | false ↦ refl ]

-- a byte that passes is the prefix's first one
pub prefix-pass : (p : ℕ → Bool) (b : ℕ) (bs : List ℕ) → p b ≡ true → prefix_of p (b ∷ bs) ≡ b ∷ prefix_of p bs
unfolding prefix_of
prefix-pass p b bs h = rw h refl

pub behind-pass : (p : ℕ → Bool) (b : ℕ) (bs : List ℕ) → p b ≡ true → behind_prefix p (b ∷ bs) ≡ behind_prefix p bs
unfolding behind_prefix
behind-pass p b bs h = rw h refl

-- at a byte that doesn't pass the prefix ends
pub prefix-fail : (p : ℕ → Bool) (b : ℕ) (bs : List ℕ) → p b ≡ false → prefix_of p (b ∷ bs) ≡ []
unfolding prefix_of
prefix-fail p b bs h = rw h refl

pub behind-fail : (p : ℕ → Bool) (b : ℕ) (bs : List ℕ) → p b ≡ false → behind_prefix p (b ∷ bs) ≡ b ∷ bs
unfolding behind_prefix
behind-fail p b bs h = rw h refl

-- what a cut of the text at a place n says: all before it passes
pub record IsCutAt (p : ℕ → Bool) (text : List ℕ) (n : ℕ) : Type 0 where
  pub within : n ≤ length text
  pub front : prefix_of p text ≡ take n text ++ prefix_of p (drop n text)
  pub behind : behind_prefix p text ≡ behind_prefix p (drop n text)

pub cut-begins : (p : ℕ → Bool) (text : List ℕ) → IsCutAt p text 0
cut-begins p text = record { within = omega arith; front = refl; behind = refl }

-- one byte more that passes
pub cut-passes : (p : ℕ → Bool) (text : List ℕ) (n : ℕ) → IsCutAt p text n → n < length text → p (get_or text n 0) ≡ true → IsCutAt p text (n + 1)
cut-passes p text n h within pass =
    let here : drop n text ≡ get_or text n 0 ∷ drop (n + 1) text = rw (add-one, drop-cons text n 0) refl in
    let front : prefix_of p (drop n text) ≡ get_or text n 0 ∷ prefix_of p (drop (n + 1) text) =
    ap (prefix_of p) here ∙ prefix-pass p (get_or text n 0) (drop (n + 1) text) pass in
    let behind : behind_prefix p (drop n text) ≡ behind_prefix p (drop (n + 1) text) =
    ap (behind_prefix p) here ∙ behind-pass p (get_or text n 0) (drop (n + 1) text) pass in
    let taken : take (n + 1) text ≡ take n text ++ get_or text n 0 ∷ [] = rw add-one (take-suc text n 0 within) in
    record {
      within = omega arith;
      front = h.front ∙ ap (λ (xs : List ℕ). take n text ++ xs) front ∙ sym (rw taken (simp append_assoc));
      behind = h.behind ∙ behind;
    }

-- a byte that doesn't pass
pub cut-fails : (p : ℕ → Bool) (text : List ℕ) (n : ℕ) → IsCutAt p text n → n < length text → p (get_or text n 0) ≡ false
    → (prefix_of p text ≡ take n text) × (behind_prefix p text ≡ drop n text)
cut-fails p text n h within fail =
    let here : drop n text ≡ get_or text n 0 ∷ drop (n + 1) text = rw (add-one, drop-cons text n 0) refl in (
      h.front ∙ ap (λ (xs : List ℕ). take n text ++ xs) (ap (prefix_of p) here ∙ prefix-fail p (get_or text n 0) (drop (n + 1) text) fail) ∙ append-nil (take n text),
      h.behind ∙ ap (behind_prefix p) here ∙ behind-fail p (get_or text n 0) (drop (n + 1) text) fail ∙ sym here,
    )

prefix-nil : (p : ℕ → Bool) (text : List ℕ) → text ≡ [] → (prefix_of p text ≡ []) × (behind_prefix p text ≡ text)
unfolding prefix_of behind_prefix
prefix-nil p [] none = (refl, refl)
prefix-nil p (b ∷ bs) none = cc

-- the end of the text
pub cut-ends : (p : ℕ → Bool) (text : List ℕ) (n : ℕ) → IsCutAt p text n → length text ≤ n → (prefix_of p text ≡ take n text) × (behind_prefix p text ≡ drop n text)
cut-ends p text n h all =
    let none = prefix-nil p (drop n text) (drop_of_length-le text all) in
    (h.front ∙ ap (λ (xs : List ℕ). take n text ++ xs) none.0 ∙ append-nil (take n text), h.behind ∙ none.1)

and_false : (a : Bool) → (a && false) ≡ false
and_false true = refl
and_false false = refl

-- a byte at the end
blank-push : (xs : List ℕ) (c : ℕ) → is_blank c ≡ true → list_all is_blank (xs ++ c ∷ []) ≡ list_all is_blank xs
blank-push [] c h = rw h refl
blank-push (x ∷ xs) c h = ap (λ t. is_blank x && t) (blank-push xs c h)

solid-push : (xs : List ℕ) (c : ℕ) → is_blank c ≡ false → list_all is_blank (xs ++ c ∷ []) ≡ false
solid-push [] c h = rw h refl
solid-push (x ∷ xs) c h = ap (λ t. is_blank x && t) (solid-push xs c h) ∙ and_false (is_blank x)

-- a blank at the end is cut off
pub trim_end-blank : (xs : List ℕ) (c : ℕ) → is_blank c ≡ true → trim_end (xs ++ c ∷ []) ≡ trim_end xs
unfolding trim_end
trim_end-blank [] c h = rw h refl
trim_end-blank (x ∷ xs) c h =
    ap (λ t. cond (is_blank x && t) [] (x ∷ trim_end (xs ++ c ∷ []))) (blank-push xs c h)
    ∙ ap (λ (ys : List ℕ). cond (is_blank x && list_all is_blank xs) [] (x ∷ ys)) (trim_end-blank xs c h)

-- a text that ends with no blank stays
pub trim_end-solid : (xs : List ℕ) (c : ℕ) → is_blank c ≡ false → trim_end (xs ++ c ∷ []) ≡ xs ++ c ∷ []
unfolding trim_end
trim_end-solid [] c h = rw h refl
trim_end-solid (x ∷ xs) c h =
    ap (λ t. cond t [] (x ∷ trim_end (xs ++ c ∷ []))) (solid-push (x ∷ xs) c h) ∙ ap (λ (ys : List ℕ). x ∷ ys) (trim_end-solid xs c h)

-- one blank off the end of the first n bytes
pub trim_end-before : (text : List ℕ) (n : ℕ) → 0 < n → n ≤ length text → is_blank (get_or text (n - 1) 0) ≡ true
    → trim_end (take n text) ≡ trim_end text → trim_end (take (n - 1) text) ≡ trim_end text
trim_end-before text n some within h same =
    let place : n ≡ suc (n - 1) = omega arith in
    let taken : take n text ≡ take (n - 1) text ++ get_or text (n - 1) 0 ∷ [] = ap (λ k. take k text) place ∙ take-suc text (n - 1) 0 (omega arith) in
    sym (trim_end-blank (take (n - 1) text) (get_or text (n - 1) 0) h) ∙ sym (ap trim_end taken) ∙ same

-- the first n bytes end with no blank
pub trim_end-stays : (text : List ℕ) (n : ℕ) → 0 < n → n ≤ length text → is_blank (get_or text (n - 1) 0) ≡ false → trim_end (take n text) ≡ take n text
trim_end-stays text n some within h =
    let place : n ≡ suc (n - 1) = omega arith in
    let taken : take n text ≡ take (n - 1) text ++ get_or text (n - 1) 0 ∷ [] = ap (λ k. take k text) place ∙ take-suc text (n - 1) 0 (omega arith) in
    ap trim_end taken ∙ trim_end-solid (take (n - 1) text) (get_or text (n - 1) 0) h ∙ sym taken

-- no byte at all
pub trim_end-none : (text : List ℕ) (n : ℕ) → n ≤ 0 → trim_end (take n text) ≡ take n text
unfolding trim_end
trim_end-none text n none = let e : n ≡ 0 = omega arith in rw e refl

solid_by : (t : Bool) (b : ℕ) → is_blank b ≡ t → is_solid b ≡ cond t false true
solid_by t b h = rw h refl

-- one byte more of a word
pub word-passes : (text : List ℕ) (n : ℕ) → IsCutAt is_solid text n → n < length text → is_blank (get_or text n 0) ≡ false → IsCutAt is_solid text (n + 1)
word-passes text n h within solid = cut-passes is_solid text n h within (solid_by false (get_or text n 0) solid)

-- a blank behind a word
pub word-fails : (text : List ℕ) (n : ℕ) → IsCutAt is_solid text n → n < length text → is_blank (get_or text n 0) ≡ true
    → (prefix_of is_solid text ≡ take n text) × (behind_prefix is_solid text ≡ drop n text)
word-fails text n h within blank = cut-fails is_solid text n h within (solid_by true (get_or text n 0) blank)

-- all that stands behind the first n bytes
pub all-behind : (text : List ℕ) (n : ℕ) → take (length text - n) (drop n text) ≡ drop n text
all-behind text n = ap (λ k. take k (drop n text)) (sym (length-drop n text)) ∙ take-length (drop n text)
