-- Texts cut at commas outside parentheses, at parentheses and at a last byte.
use Rattle.std.proofs.Common.{◌≡◌, ◌≢◌, ℕ, suc, ◌+◌, ◌-◌, ◌<◌, inl, inr, true, false, ◌&&◌, cond, eqb, ltb, List, [], ◌∷◌, ◌++◌, length, take, get_or, Some, None, refl, sym, ap, ◌∙◌, subst, arith, length-append}
use Rattle.std.proofs.lemmas.Bool.{and_parts, and_cases, ltb-true, lt-ltb, eqb-true, eqb-false, ne_eqb}
use Rattle.std.proofs.lemmas.Option.{same_Some}
use Rattle.std.proofs.Math.Seq.{take-append_seam, get_or-append_seam, take-suc, take-length}
use Rattle.text_parts.specs.Cuts.{◌>>=◌, cut_at}
use Rattle.text_parts.proofs.CutTexts.{cut-known, cut-none, cut-only, lacks}
use Rattle.text_parts.proofs.Options.{bind_some, chosen_then}
use Rattle.att_statements.specs.Operands.{open_behind, open_after, IsUncut, AreParts, IsParenthesised}
use Rattle.att_statements.specs.ReadingOperands.{onto_first, are_none, parts_from, before_byte, parenthesised}
use Rattle.att_statements.proofs.NumberTexts.{heads}

-- commas

-- and go on alike
pub tails : (a b : ℕ) (xs ys : List ℕ) → a ∷ xs ≡ b ∷ ys → xs ≡ ys
tails a b xs ys e = cc

no_comma : (n : ℕ) → IsUncut n []
no_comma n [] after e = cc
no_comma n (x ∷ before) after e = cc

-- one byte more before a part
uncut-onto : (n b : ℕ) (part : List ℕ) → (b ≡ 44 → 0 < n) → IsUncut (open_behind n b) part → IsUncut n (b ∷ part)
uncut-onto n b part first later [] after e = first (heads b 44 part after e)
uncut-onto n b part first later (x ∷ before) after e =
    let same : b ≡ x = heads b x part (before ++ 44 ∷ after) e in
    subst (λ (y : ℕ). 0 < open_after (open_behind n y) before) same (later before after (tails b x part (before ++ 44 ∷ after) e))

parts-onto : (n b : ℕ) (bs : List ℕ) (parts : List (List ℕ)) → (b ≡ 44 → 0 < n) → AreParts (open_behind n b) bs parts → AreParts n (b ∷ bs) (onto_first b parts)
parts-onto n b bs [] first are = absurd are
parts-onto n b bs (part ∷ []) first are = (ap (λ (xs : List ℕ). b ∷ xs) are.0, uncut-onto n b part first are.1)
parts-onto n b bs (part ∷ next ∷ parts) first are =
    (are.0, ap (λ (xs : List ℕ). b ∷ xs) are.1, uncut-onto n b part first are.2, are.3, are.4)

parts-cut : (n b : ℕ) (bs : List ℕ) (parts : List (List ℕ)) → b ≡ 44 → n ≡ 0 → AreParts 0 bs parts → AreParts n (b ∷ bs) ([] ∷ parts)
parts-cut n b bs [] comma closed are = absurd are
parts-cut n b bs (part ∷ parts) comma closed are = (bs, ap (λ (x : ℕ). x ∷ bs) comma, no_comma n, closed, are)

comma_inside : (n b : ℕ) → (eqb b 44 && eqb n 0) ≡ false → b ≡ 44 → 0 < n
comma_inside n b h is =
    elim (and_cases (eqb b 44) (eqb n 0) h)
    [ inl other ↦ absurd (eqb-false b 44 other is) | inr some ↦ let other : n ≢ 0 = eqb-false n 0 some in omega arith ]

-- what is cut are the parts
pub parts-known : (n : ℕ) (text : List ℕ) → AreParts n text (parts_from n text)
unfolding parts_from
parts-known n [] = (refl, no_comma n)
parts-known n (b ∷ bs) =
    elim (eqb b 44 && eqb n 0) as (λ t. (eqb b 44 && eqb n 0) ≡ t → AreParts n (b ∷ bs) (cond t ([] ∷ parts_from 0 bs) (onto_first b (parts_from (open_behind n b) bs)))) [
      | true ↦ λ e.
          let p = and_parts (eqb b 44) (eqb n 0) e in
          parts-cut n b bs (parts_from 0 bs) (eqb-true b 44 p.0) (eqb-true n 0 p.1) (parts-known 0 bs)
      | false ↦ λ e. parts-onto n b bs (parts_from (open_behind n b) bs) (comma_inside n b e) (parts-known (open_behind n b) bs)
    ] refl

-- a text without its first byte is uncut, too
uncut-behind : (n b : ℕ) (part : List ℕ) → IsUncut n (b ∷ part) → IsUncut (open_behind n b) part
uncut-behind n b part uncut before after e = uncut (b ∷ before) after (ap (λ (xs : List ℕ). b ∷ xs) e)

first_inside : (n b : ℕ) (part : List ℕ) → IsUncut n (b ∷ part) → (eqb b 44 && eqb n 0) ≡ false
first_inside n b part uncut =
    elim (eqb b 44) as (λ t. eqb b 44 ≡ t → (t && eqb n 0) ≡ false) [
      | true ↦ λ e.
          let inside : 0 < n = uncut [] part (ap (λ (x : ℕ). x ∷ part) (eqb-true b 44 e)) in ne_eqb n 0 (λ z. omega arith)
      | false ↦ λ e. refl
    ] refl

parts-one : (n : ℕ) (part : List ℕ) → IsUncut n part → parts_from n part ≡ part ∷ []
unfolding parts_from
parts-one n [] uncut = refl
parts-one n (b ∷ bs) uncut =
    let inside = first_inside n b bs uncut in
    let more = parts-one (open_behind n b) bs (uncut-behind n b bs uncut) in
    rw (inside, more) refl

parts-more : (n : ℕ) (part rest : List ℕ) → IsUncut n part → open_after n part ≡ 0 → parts_from n (part ++ 44 ∷ rest) ≡ part ∷ parts_from 0 rest
unfolding parts_from
parts-more n [] rest uncut closed = rw closed refl
parts-more n (b ∷ bs) rest uncut closed =
    let inside = first_inside n b bs uncut in
    let more = parts-more (open_behind n b) bs rest (uncut-behind n b bs uncut) closed in
    rw (inside, more) refl

-- the parts are what is cut
pub parts-only : (n : ℕ) (text : List ℕ) (parts : List (List ℕ)) → AreParts n text parts → parts_from n text ≡ parts
parts-only n text [] are = absurd are
parts-only n text (part ∷ []) are = ap (parts_from n) are.0 ∙ parts-one n part are.1
parts-only n text (part ∷ next ∷ parts) are =
    ap (parts_from n) are.1 ∙ parts-more n part are.0 are.2 are.3 ∙ ap (λ (ps : List (List ℕ)). part ∷ ps) (parts-only 0 are.0 (next ∷ parts) are.4)

-- parentheses

-- the last byte
last_off : (byte : ℕ) (text : List ℕ) → 0 < length text → get_or text (length text - 1) 0 ≡ byte → text ≡ take (length text - 1) text ++ byte ∷ []
last_off byte text some is =
    let count : suc (length text - 1) ≡ length text = omega arith in
    sym (ap (λ (k : ℕ). take k text) count ∙ take-length text)
    ∙ take-suc text (length text - 1) 0 (omega arith)
    ∙ ap (λ (b : ℕ). take (length text - 1) text ++ b ∷ []) is

pub before_byte-known : (byte : ℕ) (text before : List ℕ) → before_byte byte text ≡ Some before → text ≡ before ++ byte ∷ []
unfolding before_byte
before_byte-known byte text before h =
    let p = chosen_then (ltb 0 (length text) && eqb (get_or text (length text - 1) 0) byte) (Some (take (length text - 1) text)) before h in
    let tests = and_parts (ltb 0 (length text)) (eqb (get_or text (length text - 1) 0) byte) p.0 in
    last_off byte text (ltb-true 0 (length text) tests.0) (eqb-true (get_or text (length text - 1) 0) byte tests.1)
    ∙ ap (λ (xs : List ℕ). xs ++ byte ∷ []) (same_Some (take (length text - 1) text) before p.1)

pub before_byte-only : (byte : ℕ) (before : List ℕ) → eqb byte byte ≡ true → before_byte byte (before ++ byte ∷ []) ≡ Some before
unfolding before_byte
before_byte-only byte before same =
    let count : length (before ++ byte ∷ []) ≡ length before + 1 = length-append before (byte ∷ []) in
    let few : length (before ++ byte ∷ []) - 1 ≡ length before = omega arith in
    let some : ltb 0 (length (before ++ byte ∷ [])) ≡ true = lt-ltb 0 (length (before ++ byte ∷ [])) (omega arith) in
    let last : get_or (before ++ byte ∷ []) (length before) 0 ≡ byte = get_or-append_seam before byte [] 0 in
    rw (some, few, last, same) (ap (λ (xs : List ℕ). Some xs) (take-append_seam before (byte ∷ [])))

pub parenthesised-known : (text : List ℕ) (x : List ℕ × List ℕ) → parenthesised text ≡ Some x → IsParenthesised text x.0 x.1
unfolding parenthesised
parenthesised-known text x h =
    let cut = bind_some (cut_at 40 text) (λ cut. before_byte 41 cut.1 >>= λ inside. Some (cut.0, inside)) x h in
    let inside = bind_some (before_byte 41 cut.0.1) (λ inside. Some (cut.0.0, inside)) x cut.2 in
    let parts = cut-known 40 text cut.0 cut.1 in
    let ends = before_byte-known 41 cut.0.1 inside.0 inside.1 in
    subst (λ (p : List ℕ × List ℕ). IsParenthesised text p.0 p.1) (same_Some (cut.0.0, inside.0) x inside.2)
    (record { spelled = parts.0 ∙ ap (λ (xs : List ℕ). cut.0.0 ++ 40 ∷ xs) ends; first = parts.1 })

pub parenthesised-only : (text before inside : List ℕ) → IsParenthesised text before inside → parenthesised text ≡ Some (before, inside)
unfolding parenthesised
parenthesised-only text before inside p =
    let cut = cut-only 40 before (inside ++ 41 ∷ []) refl p.first in
    let last = before_byte-only 41 inside refl in
    rw (p.spelled, cut, last) refl

pub parenthesised-none : (text : List ℕ) → lacks 40 text ≡ true → parenthesised text ≡ None
unfolding parenthesised
parenthesised-none text h = let none = cut-none 40 text h in rw none refl

-- a text before the first of some parts
abbrev pub onto_parts : List ℕ → List (List ℕ) → List (List ℕ)
onto_parts front [] = []
onto_parts front (part ∷ parts) = (front ++ part) ∷ parts

some-first : (n : ℕ) (text : List ℕ) (parts : List (List ℕ)) → AreParts n text parts → false ≡ are_none parts
some-first n text [] are = absurd are
some-first n text (part ∷ parts) are = refl

-- each text has a part
pub some_parts : (text : List ℕ) → false ≡ are_none (parts_from 0 text)
some_parts text = some-first 0 text (parts_from 0 text) (parts-known 0 text)
