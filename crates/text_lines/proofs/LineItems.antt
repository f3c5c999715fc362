-- Labels and statements of a line, both ways.
use Rattle.std.proofs.Common.{◌≡◌, ◌≢◌, ℕ, zero, suc, ◌<◌, ◌≤◌, Bool, true, false, cond, eqb, ◌||◌, ◌⊎◌, inl, inr, List, [], ◌∷◌, ◌++◌, length, Option, Some, None, refl, sym, ap, ◌∙◌, subst, append-nil, append_assoc, length-append, arith}
use Rattle.std.specs.List.{list_all}
use Rattle.std.proofs.lemmas.Bool.{both_ways, and_parts, and_from, or_left, eqb-true}
use Rattle.std.proofs.lemmas.List.Folds.{list_all-append}
use Rattle.text_lines.specs.Bytes.{is_blank, is_name_start, is_name_byte}
use Rattle.text_lines.specs.Words.{IsName, is_name, IsPadded, prefix_of, behind_prefix, trim}
use Rattle.text_lines.specs.Lines.{Item, Label, Statement, is_visible, IsUncommented, IsLabelled, AreSpelled, IsLine}
use Rattle.text_lines.specs.Cutting.{visible_part, colon_behind, label_at, statement_items, items_by, items_from, items_left}
use Rattle.text_lines.proofs.Prefixes.{prefix-whole}
use Rattle.text_lines.proofs.Trimming.{prefix-only, prefix-passes, behind-stops, no_push, trim-known, trim-only}

-- names

pub name-known : (name : List ℕ) → is_name name ≡ true → IsName name
unfolding is_name
name-known [] h = cc
name-known (b ∷ bs) h = and_parts (is_name_start b) (list_all is_name_byte bs) h

pub name-only : (name : List ℕ) → IsName name → is_name name ≡ true
unfolding is_name
name-only [] h = absurd h
name-only (b ∷ bs) h = and_from (is_name_start b) (list_all is_name_byte bs) h.0 h.1

not_start : (b c : ℕ) → eqb b c ≡ true → is_name_start c ≡ false → is_name_start b ≡ true → ⊥
not_start b c same none start = both_ways (is_name_start b) (subst (λ x. is_name_start x ≡ false) (sym (eqb-true b c same)) none) start

-- no name begins with a blank
start-solid : (b : ℕ) → is_name_start b ≡ true → is_blank b ≡ false
start-solid b h =
    elim (eqb b 32) as (λ (t : Bool). eqb b 32 ≡ t → (t || eqb b 9) ≡ false) [
      | true ↦ λ e. absurd (not_start b 32 e refl h)
      | false ↦ λ _. elim (eqb b 9) as (λ (t : Bool). eqb b 9 ≡ t → t ≡ false) [ true ↦ λ e. absurd (not_start b 9 e refl h) | false ↦ λ _. refl ] refl
    ] refl

pub name-bytes : (name : List ℕ) → IsName name → list_all is_name_byte name ≡ true
name-bytes [] h = absurd h
name-bytes (b ∷ bs) h = and_from (is_name_byte b) (list_all is_name_byte bs) (or_left (is_name_start b) _ h.0) h.1

name-stops : (name rest : List ℕ) → IsName name → (b : ℕ) (more : List ℕ) → name ++ rest ≡ b ∷ more → is_blank b ≡ false
name-stops [] rest h b more e = absurd h
name-stops (c ∷ cs) rest h b more e = let same : c ≡ b = cc in subst (λ x. is_blank x ≡ false) same (start-solid c h.0)

-- labels

-- what stands before a colon and behind it
abbrev IsColon : List ℕ → List ℕ → Option (List ℕ × List ℕ) → Type 0
IsColon name after None = Unit {0}
IsColon name after (Some found) = (name ≡ found.0) × (after ≡ 58 ∷ found.1) × (is_name name ≡ true)

colon-outcome : (name after : List ℕ) → IsColon name after (colon_behind name after)
colon-outcome name [] = tt
colon-outcome name (b ∷ rest) =
    elim (eqb b 58) as (λ (t : Bool). eqb b 58 ≡ t → IsColon name (b ∷ rest) (cond t (cond (is_name name) (Some (name, rest)) None) None)) [
      | true ↦ λ same.
          elim (is_name name) as (λ (t : Bool). is_name name ≡ t → IsColon name (b ∷ rest) (cond t (Some (name, rest)) None))
          [ true ↦ λ named. (refl, ap (λ x. x ∷ rest) (eqb-true b 58 same), named) | false ↦ λ _. tt ] refl
      | false ↦ λ _. tt
    ] refl

-- a label that is found is there
pub label-known : (text name rest : List ℕ) → label_at text ≡ Some (name, rest) → IsLabelled text name rest
unfolding label_at
label-known text name rest h =
    let named = behind_prefix is_blank text in
    let out : IsColon (prefix_of is_name_byte named) (behind_prefix is_name_byte named) (Some (name, rest)) =
    subst (IsColon (prefix_of is_name_byte named) (behind_prefix is_name_byte named)) h (colon-outcome (prefix_of is_name_byte named) (behind_prefix is_name_byte named)) in
    let behind : named ≡ name ++ 58 ∷ rest = sym (prefix-whole is_name_byte named) ∙ rw (out.0, out.1) refl in
    record {
      blanks = prefix_of is_blank text;
      spelled = sym (prefix-whole is_blank text) ∙ ap (λ (xs : List ℕ). prefix_of is_blank text ++ xs) behind;
      blank = prefix-passes is_blank text;
      named = name-known name (subst (λ x. is_name x ≡ true) out.0 out.2);
    }

colon_is : (name rest : List ℕ) → IsName name → colon_behind name (58 ∷ rest) ≡ Some (name, rest)
colon_is name rest h = let e = name-only name h in rw e refl

no_colon : (b : ℕ) (more rest : List ℕ) → 58 ∷ rest ≡ b ∷ more → is_name_byte b ≡ false
no_colon b more rest e = let same : 58 ≡ b = cc in subst (λ x. is_name_byte x ≡ false) same refl

-- a label that is there is found
pub label-only : (text name rest : List ℕ) → IsLabelled text name rest → label_at text ≡ Some (name, rest)
unfolding label_at
label-only text name rest h =
    let behind : behind_prefix is_blank text ≡ name ++ 58 ∷ rest =
    ap (behind_prefix is_blank) h.spelled ∙ (prefix-only is_blank h.blanks (name ++ 58 ∷ rest) h.blank (name-stops name (58 ∷ rest) h.named)).1 in
    let cut = prefix-only is_name_byte name (58 ∷ rest) (name-bytes name h.named) (λ b more e. no_colon b more rest e) in
    let cut_first : prefix_of is_name_byte (behind_prefix is_blank text) ≡ name = ap (prefix_of is_name_byte) behind ∙ cut.0 in
    let cut_rest : behind_prefix is_name_byte (behind_prefix is_blank text) ≡ 58 ∷ rest = ap (behind_prefix is_name_byte) behind ∙ cut.1 in
    rw (cut_first, cut_rest) (colon_is name rest h.named)

-- what stands behind a label is shorter
pub label-shorter : (text name rest : List ℕ) → IsLabelled text name rest → length rest < length text
label-shorter text name rest h =
    let e : length text ≡ length (h.blanks ++ (name ++ 58 ∷ rest)) = ap length h.spelled in
    omega (arith, length-append h.blanks (name ++ 58 ∷ rest), length-append name (58 ∷ rest))

-- a text without label
pub label-none : (text : List ℕ) → ((name rest : List ℕ) → IsLabelled text name rest → ⊥) → label_at text ≡ None
label-none text h =
    elim (label_at text) as (λ (o : Option (List ℕ × List ℕ)). label_at text ≡ o → o ≡ None)
    [ None ↦ λ _. refl | Some found ↦ λ e. absurd (h found.0 found.1 (label-known text found.0 found.1 e)) ] refl

none-label : (text : List ℕ) → label_at text ≡ None → (name rest : List ℕ) → IsLabelled text name rest → ⊥
none-label text none name rest h = let e = label-only text name rest h in cc

-- statements

blank_padded : (text : List ℕ) → list_all is_blank text ≡ true → IsPadded text []
blank_padded text h =
    record {
      left = text;
      right = [];
      spelled = sym (append-nil (text ++ []) ∙ append-nil text);
      left_blank = h;
      right_blank = refl;
      trimmed = record { begins = λ b rest e. cc; ends = λ front b e. no_push front b e };
    }

padded_blank : (text : List ℕ) → IsPadded text [] → list_all is_blank text ≡ true
padded_blank text h =
    ap (list_all is_blank) (h.spelled ∙ append_assoc h.left [] h.right) ∙ list_all-append is_blank h.left h.right ∙ and_from _ _ h.left_blank h.right_blank

statement_by : (k : ℕ) (text x : List ℕ) → IsPadded text x → label_at text ≡ None → AreSpelled k text (statement_items k x)
statement_by k text [] h none = padded_blank text h
statement_by k text (b ∷ bs) h none = (refl, record { padded = h; some = λ e. cc; unlabelled = none-label text none })

statement_is : (k : ℕ) (x : List ℕ) → x ≢ [] → statement_items k x ≡ Statement x k ∷ []
statement_is k [] some = absurd (some refl)
statement_is k (b ∷ bs) some = refl

from-none : (n k : ℕ) (text : List ℕ) → label_at text ≡ None → items_from n k text ≡ statement_items k (trim text)
unfolding items_from
from-none zero k text none = refl
from-none (suc n) k text none = ap (items_by (items_from n k) k text) none

from-some : (n k : ℕ) (text name rest : List ℕ) → label_at text ≡ Some (name, rest) → items_from (suc n) k text ≡ Label name k ∷ items_from n k rest
unfolding items_from
from-some n k text name rest some = ap (items_by (items_from n k) k text) some

-- a line's items

nil_unlabelled : (name rest : List ℕ) → IsLabelled [] name rest → ⊥
nil_unlabelled name rest h = omega (arith, label-shorter [] name rest h)

blank_unlabelled : (text : List ℕ) → list_all is_blank text ≡ true → (name rest : List ℕ) → IsLabelled text name rest → ⊥
blank_unlabelled text h name rest label =
    let none : behind_prefix is_blank text ≡ [] = ap (behind_prefix is_blank) (sym (append-nil text)) ∙ (prefix-only is_blank text [] h (λ b more e. cc)).1 in
    let some : behind_prefix is_blank text ≡ name ++ 58 ∷ rest =
    ap (behind_prefix is_blank) label.spelled ∙ (prefix-only is_blank label.blanks (name ++ 58 ∷ rest) label.blank (name-stops name (58 ∷ rest) label.named)).1 in
    let long : length (name ++ 58 ∷ rest) ≡ 0 = ap length (sym some ∙ none) in
    omega (arith, length-append name (58 ∷ rest))

items-known : (n k : ℕ) (text : List ℕ) → length text ≤ n → AreSpelled k text (items_from n k text)
unfolding items_from
items-known zero k [] short = statement_by k [] (trim []) (trim-known []) (label-none [] nil_unlabelled)
items-known zero k (b ∷ bs) short = absurd (omega arith)
items-known (suc n) k text short =
    elim (label_at text) as (λ (o : Option (List ℕ × List ℕ)). label_at text ≡ o → AreSpelled k text (items_by (items_from n k) k text o)) [
      | None ↦ λ e. statement_by k text (trim text) (trim-known text) e
      | Some found ↦ λ e.
          let here = label-known text found.0 found.1 e in
          (refl, (found.1, here, items-known n k found.1 (omega (arith, label-shorter text found.0 found.1 here))))
    ] refl

items-only : (n k : ℕ) (text : List ℕ) (items : List Item) → length text ≤ n → AreSpelled k text items → items ≡ items_from n k text
items-only n k text [] short h =
    let blank = blank_padded text h in
    let none = label-none text (blank_unlabelled text h) in
    ap (statement_items k) (sym (trim-only text [] blank)) ∙ sym (from-none n k text none)
items-only n k text (Statement x j ∷ []) short h =
    let none = label-none text h.1.unlabelled in
    ap (λ i. Statement x i ∷ []) h.0 ∙ sym (statement_is k x h.1.some) ∙ ap (statement_items k) (sym (trim-only text x h.1.padded)) ∙ sym (from-none n k text none)
items-only n k text (Statement x j ∷ item ∷ items) short h = absurd h
items-only zero k text (Label name j ∷ items) short h = absurd (omega (arith, label-shorter text name h.1.0 h.1.1))
items-only (suc n) k text (Label name j ∷ items) short h =
    let later = items-only n k h.1.0 items (omega (arith, label-shorter text name h.1.0 h.1.1)) h.1.2 in
    ap (λ i. Label name i ∷ items) h.0 ∙ ap (λ (is : List Item). Label name k ∷ is) later ∙ sym (from-some n k text name h.1.0 (label-only text name h.1.0 h.1.1))

-- the items of a text on line k are spelled there
pub left-known : (k : ℕ) (text : List ℕ) → AreSpelled k text (items_left k text)
unfolding items_left
left-known k text = items-known (length text) k text (omega arith)

-- and only they are
pub left-only : (k : ℕ) (text : List ℕ) (items : List Item) → AreSpelled k text items → items ≡ items_left k text
unfolding items_left
left-only k text items h = items-only (length text) k text items (omega arith) h

-- behind a label
pub left-label : (k : ℕ) (text name rest : List ℕ) → label_at text ≡ Some (name, rest) → items_left k text ≡ Label name k ∷ items_left k rest
left-label k text name rest e = sym (left-only k text (Label name k ∷ items_left k rest) (refl, (rest, label-known text name rest e, left-known k rest)))

-- without a label
pub left-none : (k : ℕ) (text : List ℕ) → label_at text ≡ None → items_left k text ≡ statement_items k (trim text)
unfolding items_left
left-none k text e = from-none (length text) k text e

-- comments

hash_is : (b : ℕ) → is_visible b ≡ false → b ≡ 35
hash_is b = elim (eqb b 35) as (λ (t : Bool). eqb b 35 ≡ t → cond t false true ≡ false → b ≡ 35) [ true ↦ λ e h. eqb-true b 35 e | false ↦ λ e h. cc ] refl

hash_begins : (comment : List ℕ) → ((b : ℕ) (more : List ℕ) → comment ≡ b ∷ more → is_visible b ≡ false) → (comment ≡ []) ⊎ ((rest : List ℕ) × (comment ≡ 35 ∷ rest))
hash_begins [] h = inl refl
hash_begins (b ∷ bs) h = inr (bs, ap (λ x. x ∷ bs) (hash_is b (h b bs refl)))

pub visible-known : (line : List ℕ) → IsUncommented line (visible_part line)
unfolding visible_part
visible-known line =
    record {
      comment = behind_prefix is_visible line;
      spelled = sym (prefix-whole is_visible line);
      clear = prefix-passes is_visible line;
      begins = hash_begins (behind_prefix is_visible line) (behind-stops is_visible line);
    }

comment_stops : (comment : List ℕ) → (comment ≡ []) ⊎ ((rest : List ℕ) × (comment ≡ 35 ∷ rest)) → (b : ℕ) (more : List ℕ) → comment ≡ b ∷ more → is_visible b ≡ false
comment_stops comment (inl none) b more e = cc
comment_stops comment (inr some) b more e = let same : 35 ≡ b = cc in subst (λ x. is_visible x ≡ false) same refl

pub visible-only : (line visible : List ℕ) → IsUncommented line visible → visible_part line ≡ visible
unfolding visible_part
visible-only line visible h =
    ap (prefix_of is_visible) h.spelled ∙ (prefix-only is_visible visible h.comment h.clear (comment_stops h.comment h.begins)).0

pub line-known : (k : ℕ) (line : List ℕ) → IsLine k line (items_left k (visible_part line))
line-known k line = (visible_part line, visible-known line, left-known k (visible_part line))

pub line-only : (k : ℕ) (line : List ℕ) (items : List Item) → IsLine k line items → items ≡ items_left k (visible_part line)
line-only k line items h = left-only k h.0 items h.2 ∙ ap (items_left k) (sym (visible-only line h.0 h.1))
