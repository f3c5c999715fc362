-- Blanks cut off both ends, and words cut off, both ways.
use Rattle.std.proofs.Common.{◌≡◌, ℕ, Bool, true, false, cond, ◌&&◌, List, [], ◌∷◌, ◌++◌, refl, sym, ap, ◌∙◌, subst, append-nil, append_assoc}
use Rattle.std.specs.List.{list_all}
use Rattle.std.proofs.lemmas.Bool.{and_parts, and_from, and_left, and_right}
use Rattle.std.proofs.lemmas.List.Folds.{list_all-append}
use Rattle.text_lines.specs.Bytes.{is_blank}
use Rattle.text_lines.specs.Words.{IsTrimmed, IsPadded, HasWord, is_solid, prefix_of, behind_prefix, trim_end, trim}
use Rattle.text_lines.proofs.Prefixes.{prefix-whole, prefix-pass, prefix-fail, behind-pass, behind-fail}

-- prefixes

-- bytes that pass before a text
pub behind-all : (p : ℕ → Bool) (front text : List ℕ) → list_all p front ≡ true → behind_prefix p (front ++ text) ≡ behind_prefix p text
behind-all p [] text h = refl
behind-all p (b ∷ bs) text h = let e = and_parts (p b) (list_all p bs) h in behind-pass p b (bs ++ text) e.0 ∙ behind-all p bs text e.1

pub prefix-all : (p : ℕ → Bool) (front text : List ℕ) → list_all p front ≡ true → prefix_of p (front ++ text) ≡ front ++ prefix_of p text
prefix-all p [] text h = refl
prefix-all p (b ∷ bs) text h =
    let e = and_parts (p b) (list_all p bs) h in
    prefix-pass p b (bs ++ text) e.0 ∙ ap (λ (xs : List ℕ). b ∷ xs) (prefix-all p bs text e.1)

-- the text is empty or its first byte doesn't pass
abbrev pub Stops : (ℕ → Bool) → List ℕ → Type 0
Stops p text = (b : ℕ) (more : List ℕ) → text ≡ b ∷ more → p b ≡ false

-- before such a text there is no prefix
pub prefix-stops : (p : ℕ → Bool) (text : List ℕ) → Stops p text → (prefix_of p text ≡ []) × (behind_prefix p text ≡ text)
unfolding prefix_of behind_prefix
prefix-stops p [] h = (refl, refl)
prefix-stops p (b ∷ bs) h = let e = h b bs refl in (prefix-fail p b bs e, behind-fail p b bs e)

-- what passes and then stops is the prefix
pub prefix-only : (p : ℕ → Bool) (front text : List ℕ) → list_all p front ≡ true → Stops p text
    → (prefix_of p (front ++ text) ≡ front) × (behind_prefix p (front ++ text) ≡ text)
prefix-only p front text h stops =
    let e = prefix-stops p text stops in
    (prefix-all p front text h ∙ ap (λ (xs : List ℕ). front ++ xs) e.0 ∙ append-nil front, behind-all p front text h ∙ e.1)

pub prefix-passes : (p : ℕ → Bool) (text : List ℕ) → list_all p (prefix_of p text) ≡ true
unfolding prefix_of
prefix-passes p [] = refl
prefix-passes p (b ∷ bs) =
    elim (p b) as (λ (t : Bool). p b ≡ t → list_all p (cond t (b ∷ prefix_of p bs) []) ≡ true)
    [ true ↦ λ e. and_from (p b) _ e (prefix-passes p bs) | false ↦ λ e. refl ] refl

pub behind-stops : (p : ℕ → Bool) (text : List ℕ) → Stops p (behind_prefix p text)
unfolding behind_prefix
behind-stops p [] = λ b more e. cc
behind-stops p (c ∷ cs) =
    elim (p c) as (λ (t : Bool). p c ≡ t → Stops p (cond t (behind_prefix p cs) (c ∷ cs)))
    [ true ↦ λ e. behind-stops p cs | false ↦ λ e. λ b more is. let same : c ≡ b = cc in subst (λ x. p x ≡ false) same e ] refl

-- words

blank-stops : (b : ℕ) → is_solid b ≡ false → is_blank b ≡ true
blank-stops b = elim (is_blank b) as (λ (t : Bool). cond t false true ≡ false → t ≡ true) [ true ↦ λ e. refl | false ↦ λ e. cc ]

solid-stops : (b : ℕ) → is_blank b ≡ true → is_solid b ≡ false
solid-stops b e = rw e refl

-- the first word, as it is cut off
pub word-known : (text : List ℕ) → HasWord text (prefix_of is_solid text) (behind_prefix is_solid text)
word-known text =
    record {
      spelled = sym (prefix-whole is_solid text);
      solid = prefix-passes is_solid text;
      cut = λ b more is. blank-stops b (behind-stops is_solid text b more is);
    }

-- a text has one first word
pub word-only : (text word rest : List ℕ) → HasWord text word rest → (prefix_of is_solid text ≡ word) × (behind_prefix is_solid text ≡ rest)
word-only text word rest h =
    let e = prefix-only is_solid word rest h.solid (λ b more is. solid-stops b (h.cut b more is)) in
    (ap (prefix_of is_solid) h.spelled ∙ e.0, ap (behind_prefix is_solid) h.spelled ∙ e.1)

-- trimming

-- the text doesn't end with a blank
abbrev Ends : List ℕ → Type 0
Ends text = (front : List ℕ) (b : ℕ) → text ≡ front ++ b ∷ [] → is_blank b ≡ false

ends-rest : (x : ℕ) (xs : List ℕ) → Ends (x ∷ xs) → Ends xs
ends-rest x xs h = λ front b e. h (x ∷ front) b (ap (λ (ys : List ℕ). x ∷ ys) e)

not_blank : (x : ℕ) (xs : List ℕ) → Ends (x ∷ xs) → list_all is_blank (x ∷ xs) ≡ false
not_blank x [] h = and_left (is_blank x) true (h [] x refl)
not_blank x (y ∷ ys) h = and_right (is_blank x) _ (not_blank y ys (ends-rest x (y ∷ ys) h))

trim_end-ends : (text : List ℕ) → Ends text → trim_end text ≡ text
unfolding trim_end
trim_end-ends [] h = refl
trim_end-ends (x ∷ xs) h =
    ap (λ t. cond t [] (x ∷ trim_end xs)) (not_blank x xs h) ∙ ap (λ (ys : List ℕ). x ∷ ys) (trim_end-ends xs (ends-rest x xs h))

and_true : (a : Bool) → (a && true) ≡ a
and_true true = refl
and_true false = refl

-- blanks at the end are cut off
trim_end-blanks : (xs right : List ℕ) → list_all is_blank right ≡ true → trim_end (xs ++ right) ≡ trim_end xs
unfolding trim_end
trim_end-blanks [] [] h = refl
trim_end-blanks [] (r ∷ rs) h = ap (λ t. cond t [] (r ∷ trim_end rs)) h
trim_end-blanks (x ∷ xs) right h =
    let all : list_all is_blank ((x ∷ xs) ++ right) ≡ list_all is_blank (x ∷ xs) = list_all-append is_blank (x ∷ xs) right ∙ ap (λ t. list_all is_blank (x ∷ xs) && t) h ∙ and_true (list_all is_blank (x ∷ xs)) in
    ap (λ t. cond t [] (x ∷ trim_end (xs ++ right))) all ∙ ap (λ (ys : List ℕ). cond (list_all is_blank (x ∷ xs)) [] (x ∷ ys)) (trim_end-blanks xs right h)

-- a text is what is left of it and then blanks
end-known : (text : List ℕ) → (right : List ℕ) × (text ≡ trim_end text ++ right) × (list_all is_blank right ≡ true)
unfolding trim_end
end-known [] = ([], refl, refl)
end-known (x ∷ xs) =
    elim (list_all is_blank (x ∷ xs)) as (λ (t : Bool). list_all is_blank (x ∷ xs) ≡ t → (right : List ℕ) × (x ∷ xs ≡ cond t [] (x ∷ trim_end xs) ++ right) × (list_all is_blank right ≡ true))
    [ true ↦ λ e. (x ∷ xs, refl, e) | false ↦ λ e. let h = end-known xs in (h.0, ap (λ (ys : List ℕ). x ∷ ys) h.1, h.2) ] refl

trim_end-nil : (text : List ℕ) → trim_end text ≡ [] → list_all is_blank text ≡ true
unfolding trim_end
trim_end-nil [] h = refl
trim_end-nil (x ∷ xs) h =
    elim (list_all is_blank (x ∷ xs)) as (λ (t : Bool). cond t [] (x ∷ trim_end xs) ≡ [] → t ≡ true) [ true ↦ λ e. refl | false ↦ λ e. cc ] h

pub no_push : {P : Type 0} (front : List ℕ) (b : ℕ) → [] ≡ front ++ b ∷ [] → P
no_push [] b e = cc
no_push (f ∷ fs) b e = cc

solid_first : (a t : Bool) → t ≡ true → (a && t) ≡ false → a ≡ false
solid_first true t e h = sym e ∙ h
solid_first false t e h = refl

last_of : (x : ℕ) (xs front : List ℕ) (b : ℕ) → Ends (trim_end xs) → list_all is_blank (x ∷ xs) ≡ false → x ∷ trim_end xs ≡ front ++ b ∷ [] → is_blank b ≡ false
last_of x xs [] b h some is =
    let none : trim_end xs ≡ [] = cc in
    let same : x ≡ b = cc in
    let all = trim_end-nil xs none in
    subst (λ y. is_blank y ≡ false) same (solid_first (is_blank x) (list_all is_blank xs) all some)
last_of x xs (f ∷ fs) b h some is = h fs b cc

left-ends : (text : List ℕ) → Ends (trim_end text)
unfolding trim_end
left-ends [] = λ front b e. no_push front b e
left-ends (x ∷ xs) =
    elim (list_all is_blank (x ∷ xs)) as (λ (t : Bool). list_all is_blank (x ∷ xs) ≡ t → Ends (cond t [] (x ∷ trim_end xs)))
    [ true ↦ λ e. λ front b is. no_push front b is | false ↦ λ e. λ front b is. last_of x xs front b (left-ends xs) e is ] refl

-- what is left of a text without the blanks at both ends
pub trim-known : (text : List ℕ) → IsPadded text (trim text)
unfolding trim
trim-known text =
    let rest = behind_prefix is_blank text in
    let end = end-known rest in
    record {
      left = prefix_of is_blank text;
      right = end.0;
      spelled = sym (prefix-whole is_blank text) ∙ ap (λ (xs : List ℕ). prefix_of is_blank text ++ xs) end.1 ∙ simp append_assoc;
      left_blank = prefix-passes is_blank text;
      right_blank = end.2;
      trimmed = record {
        begins = λ b more is. behind-stops is_blank text b (more ++ end.0) (end.1 ∙ ap (λ (xs : List ℕ). xs ++ end.0) is);
        ends = left-ends rest;
      };
    }

trim_padded : (inner left right : List ℕ) → list_all is_blank left ≡ true → list_all is_blank right ≡ true → IsTrimmed inner
    → trim_end (behind_prefix is_blank (left ++ (inner ++ right))) ≡ inner
unfolding behind_prefix
trim_padded [] left right l r trimmed =
    ap trim_end (behind-all is_blank left right l ∙ ap (behind_prefix is_blank) (sym (append-nil right)) ∙ behind-all is_blank right [] r) ∙ trim_end-ends [] (λ front b e. no_push front b e)
trim_padded (b ∷ bs) left right l r trimmed =
    ap trim_end (behind-all is_blank left ((b ∷ bs) ++ right) l ∙ behind-fail is_blank b (bs ++ right) (trimmed.begins b bs refl))
    ∙ trim_end-blanks (b ∷ bs) right r ∙ trim_end-ends (b ∷ bs) trimmed.ends

-- and only that is
pub trim-only : (text inner : List ℕ) → IsPadded text inner → trim text ≡ inner
unfolding trim
trim-only text inner h =
    ap (λ (xs : List ℕ). trim_end (behind_prefix is_blank xs)) (h.spelled ∙ append_assoc h.left inner h.right)
    ∙ trim_padded inner h.left h.right h.left_blank h.right_blank h.trimmed
