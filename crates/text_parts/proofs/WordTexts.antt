-- Texts cut at a byte, and the words of a line.
use Rattle.std.proofs.Common.{◌≡◌, ℕ, ◌+◌, ◌<◌, Bool, true, false, cond, eqb, List, [], ◌∷◌, ◌++◌, length, Option, Some, None, is_none, refl, sym, ap, ◌∙◌, arith}
use Rattle.std.specs.List.{onto_first}
use Rattle.std.proofs.lemmas.Bool.{eqb-true}
use Rattle.std.proofs.lemmas.Option.{same_Some}
use Rattle.std.proofs.lemmas.List.Splits.{slice_split-cons_yes, slice_split-cons_no, length-slice_split}
use Rattle.text_parts.specs.Cuts.{◌>>=◌, cut_at, first_by, first_part, five_words, four_words, one_word, onto_front, parts, parts_left, three_words, two_words}
use Rattle.text_parts.specs.Laws.{CutsAreParts}
use Rattle.text_parts.proofs.Options.{bind_some}

-- how much is left of a text: more where it is one more part
abbrev pub left_size : Option (List ℕ) → ℕ
left_size None = 0
left_size (Some text) = length text + 1

pub first-same : {X : Type 0} {x y : X} {xs ys : List X} → x ∷ xs ≡ y ∷ ys → x ≡ y
first-same e = cc

pub rest-same : {X : Type 0} {x y : X} {xs ys : List X} → x ∷ xs ≡ y ∷ ys → xs ≡ ys
rest-same e = cc

-- what a cut at this byte is
abbrev pub IsCut : ℕ → List ℕ → Option (List ℕ × List ℕ) → Type 0
IsCut byte text None = parts byte text ≡ text ∷ []
IsCut byte text (Some found) = (parts byte text ≡ found.0 ∷ parts byte found.1) × (length found.1 < length text) × (text ≡ found.0 ++ byte ∷ found.1)

cut-here : (byte b : ℕ) (bs : List ℕ) → eqb b byte ≡ true → IsCut byte (b ∷ bs) (Some ([], bs))
cut-here byte b bs same = (slice_split-cons_yes (λ x. eqb x byte) b bs same, omega arith, ap (λ (x : ℕ). x ∷ bs) (eqb-true b byte same))

cut-later : (byte b : ℕ) (bs : List ℕ) (r : Option (List ℕ × List ℕ)) → eqb b byte ≡ false → IsCut byte bs r → IsCut byte (b ∷ bs) (onto_front b r)
cut-later byte b bs None other h = slice_split-cons_no (λ x. eqb x byte) b bs other ∙ ap (onto_first b) h
cut-later byte b bs (Some found) other h =
    (slice_split-cons_no (λ x. eqb x byte) b bs other ∙ ap (onto_first b) h.0, omega (arith, h.1), ap (λ (x : List ℕ). b ∷ x) h.2)

pub cut-outcome : (byte : ℕ) (text : List ℕ) → IsCut byte text (cut_at byte text)
unfolding cut_at
cut-outcome byte [] = refl
cut-outcome byte (b ∷ bs) =
    elim (eqb b byte) as (λ (t : Bool). eqb b byte ≡ t → IsCut byte (b ∷ bs) (cond t (Some ([], bs)) (onto_front b (cut_at byte bs))))
    [ true ↦ λ e. cut-here byte b bs e | false ↦ λ e. cut-later byte b bs (cut_at byte bs) e (cut-outcome byte bs) ] refl

first-by : (byte : ℕ) (text : List ℕ) (r : Option (List ℕ × List ℕ)) → IsCut byte text r → parts byte text ≡ (first_by text r).0 ∷ parts_left byte (first_by text r).1
first-by byte text None h = h
first-by byte text (Some found) h = h.0

-- the first part, and the parts of what stands behind it
pub parts-first : (byte : ℕ) (text : List ℕ) → parts byte text ≡ (first_part byte text).0 ∷ parts_left byte (first_part byte text).1
unfolding first_part
parts-first byte text = first-by byte text (cut_at byte text) (cut-outcome byte text)

size-by : (byte : ℕ) (text : List ℕ) (r : Option (List ℕ × List ℕ)) → IsCut byte text r → left_size (first_by text r).1 < length text + 1
size-by byte text None h = omega arith
size-by byte text (Some found) h = omega (arith, h.1)

-- less is left behind it
pub left-shorter : (byte : ℕ) (text : List ℕ) → left_size (first_part byte text).1 < length text + 1
unfolding first_part
left-shorter byte text = size-by byte text (cut_at byte text) (cut-outcome byte text)

-- words of which a further one follows
cut-some : (text : List ℕ) (found : List ℕ × List ℕ) → cut_at 32 text ≡ Some found → parts 32 text ≡ found.0 ∷ parts 32 found.1
cut-some text found e = (rw e at (cut-outcome 32 text)).0

some-part : (byte : ℕ) (text : List ℕ) → parts byte text ≡ [] → ⊥
some-part byte text none = omega (arith, length-slice_split (λ b. eqb b byte) text, ap length none)

more-by : (text a x : List ℕ) (xs : List (List ℕ)) (r : Option (List ℕ × List ℕ)) → IsCut 32 text r → parts 32 text ≡ a ∷ x ∷ xs
    → (rest : List ℕ) × (r ≡ Some (a, rest)) × (parts 32 rest ≡ x ∷ xs)
more-by text a x xs None cut is = absurd (cc)
more-by text a x xs (Some found) cut is =
    let same : found.0 ≡ a = first-same (sym cut.0 ∙ is) in
    (found.1, ap (λ (y : List ℕ). Some (y, found.1)) same, rest-same (sym cut.0 ∙ is))

-- where two words or more stand, the first is cut off
pub cut-more : (text a x : List ℕ) (xs : List (List ℕ)) → parts 32 text ≡ a ∷ x ∷ xs → (rest : List ℕ) × (cut_at 32 text ≡ Some (a, rest)) × (parts 32 rest ≡ x ∷ xs)
cut-more text a x xs is = more-by text a x xs (cut_at 32 text) (cut-outcome 32 text) is

one-by : (text a : List ℕ) (r : Option (List ℕ × List ℕ)) → IsCut 32 text r → parts 32 text ≡ a ∷ [] → (r ≡ None) × (text ≡ a)
one-by text a None cut is = (refl, first-same (sym cut ∙ is))
one-by text a (Some found) cut is = absurd (some-part 32 found.1 (rest-same (sym cut.0 ∙ is)))

-- where one word stands, nothing is cut off
pub cut-one : (text a : List ℕ) → parts 32 text ≡ a ∷ [] → (cut_at 32 text ≡ None) × (text ≡ a)
cut-one text a is = one-by text a (cut_at 32 text) (cut-outcome 32 text) is

alone-by : (text a : List ℕ) (r : Option (List ℕ × List ℕ)) → IsCut 32 text r → cond (is_none r) (Some text) None ≡ Some a → parts 32 text ≡ a ∷ []
alone-by text a None cut h = cut ∙ ap (λ (x : List ℕ). x ∷ []) (same_Some text a h)
alone-by text a (Some found) cut h = absurd (cc)

pub one-known : (text a : List ℕ) → one_word text ≡ Some a → parts 32 text ≡ a ∷ []
unfolding one_word
one-known text a h = alone-by text a (cut_at 32 text) (cut-outcome 32 text) h

pub one-only : (text a : List ℕ) → parts 32 text ≡ a ∷ [] → one_word text ≡ Some a
unfolding one_word
one-only text a is = let p = cut-one text a is in rw (p.0) (ap (λ (x : List ℕ). Some x) p.1)

-- a word, and what is read behind it
chain-some : {B C : Type 0} (next : List ℕ → Option B) (make : List ℕ → B → C) (r : Option (List ℕ × List ℕ)) (w : C)
    → (r >>= λ found. (next found.1 >>= λ more. Some (make found.0 more))) ≡ Some w
    → (found : List ℕ × List ℕ) × (more : B) × (r ≡ Some found) × (next found.1 ≡ Some more) × (make found.0 more ≡ w)
chain-some next make None w h = absurd (cc)
chain-some next make (Some found) w h = let p = bind_some (next found.1) (λ more. Some (make found.0 more)) w h in (found, p.0, refl, p.1, same_Some (make found.0 p.0) w p.2)

pub two-known : (text : List ℕ) (w : List ℕ × List ℕ) → two_words text ≡ Some w → parts 32 text ≡ w.0 ∷ w.1 ∷ []
unfolding two_words
two-known text w h =
    let p = chain-some one_word (λ x y. (x, y)) (cut_at 32 text) w h in
    cut-some text p.0 p.2 ∙ ap (λ (ws : List (List ℕ)). p.0.0 ∷ ws) (one-known p.0.1 p.1 p.3) ∙ ap (λ (v : List ℕ × List ℕ). v.0 ∷ v.1 ∷ []) p.4

pub two-only : (text a b : List ℕ) → parts 32 text ≡ a ∷ b ∷ [] → two_words text ≡ Some (a, b)
unfolding two_words
two-only text a b is = let p = cut-more text a b [] is in rw (p.1, one-only p.0 b p.2) refl

pub three-known : (text : List ℕ) (w : List ℕ × List ℕ × List ℕ) → three_words text ≡ Some w → parts 32 text ≡ w.0 ∷ w.1 ∷ w.2 ∷ []
unfolding three_words
three-known text w h =
    let p = chain-some two_words (λ x y. (x, y.0, y.1)) (cut_at 32 text) w h in
    cut-some text p.0 p.2 ∙ ap (λ (ws : List (List ℕ)). p.0.0 ∷ ws) (two-known p.0.1 p.1 p.3) ∙ ap (λ (v : List ℕ × List ℕ × List ℕ). v.0 ∷ v.1 ∷ v.2 ∷ []) p.4

pub three-only : (text a b c : List ℕ) → parts 32 text ≡ a ∷ b ∷ c ∷ [] → three_words text ≡ Some (a, b, c)
unfolding three_words
three-only text a b c is = let p = cut-more text a b (c ∷ []) is in rw (p.1, two-only p.0 b c p.2) refl

pub four-known : (text : List ℕ) (w : List ℕ × List ℕ × List ℕ × List ℕ) → four_words text ≡ Some w → parts 32 text ≡ w.0 ∷ w.1 ∷ w.2 ∷ w.3 ∷ []
unfolding four_words
four-known text w h =
    let p = chain-some three_words (λ x y. (x, y.0, y.1, y.2)) (cut_at 32 text) w h in
    cut-some text p.0 p.2 ∙ ap (λ (ws : List (List ℕ)). p.0.0 ∷ ws) (three-known p.0.1 p.1 p.3)
    ∙ ap (λ (v : List ℕ × List ℕ × List ℕ × List ℕ). v.0 ∷ v.1 ∷ v.2 ∷ v.3 ∷ []) p.4

pub four-only : (text a b c d : List ℕ) → parts 32 text ≡ a ∷ b ∷ c ∷ d ∷ [] → four_words text ≡ Some (a, b, c, d)
unfolding four_words
four-only text a b c d is = let p = cut-more text a b (c ∷ d ∷ []) is in rw (p.1, three-only p.0 b c d p.2) refl

pub five-known : (text : List ℕ) (w : List ℕ × List ℕ × List ℕ × List ℕ × List ℕ) → five_words text ≡ Some w → parts 32 text ≡ w.0 ∷ w.1 ∷ w.2 ∷ w.3 ∷ w.4 ∷ []
unfolding five_words
five-known text w h =
    let p = chain-some four_words (λ x y. (x, y.0, y.1, y.2, y.3)) (cut_at 32 text) w h in
    cut-some text p.0 p.2 ∙ ap (λ (ws : List (List ℕ)). p.0.0 ∷ ws) (four-known p.0.1 p.1 p.3)
    ∙ ap (λ (v : List ℕ × List ℕ × List ℕ × List ℕ × List ℕ). v.0 ∷ v.1 ∷ v.2 ∷ v.3 ∷ v.4 ∷ []) p.4

pub five-only : (text a b c d e : List ℕ) → parts 32 text ≡ a ∷ b ∷ c ∷ d ∷ e ∷ [] → five_words text ≡ Some (a, b, c, d, e)
unfolding five_words
five-only text a b c d e is = let p = cut-more text a b (c ∷ d ∷ e ∷ []) is in rw (p.1, four-only p.0 b c d e p.2) refl

-- three words are not five
pub five-none : (text a b c : List ℕ) → parts 32 text ≡ a ∷ b ∷ c ∷ [] → five_words text ≡ None
five-none text a b c is = none_by (five_words text) refl
  where
    none_by : (r : Option (List ℕ × List ℕ × List ℕ × List ℕ × List ℕ)) → five_words text ≡ r → r ≡ None
    none_by None e = refl
    none_by (Some w) e = let known = five-known text w e in absurd (omega (arith, ap length (sym is ∙ known)))

-- the parts of a text are those of its cut
pub cuts_parts : CutsAreParts
cuts_parts = record {
  none = λ byte text h. rw h at (cut-outcome byte text);
  some = λ byte text before after h. (rw h at (cut-outcome byte text)).0;
}
