-- Single turns of the loops that cut a text.
use Rattle.std.proofs.Common.{◌≡◌, ℕ, ◌+◌, ◌<◌, ◌≤◌, true, false, cond, List, [], ◌∷◌, ◌++◌, length, take, map, get_or, Some, None, refl, sym, ap, ◌∙◌, append-nil, append_assoc, arith}
use Rattle.std.specs.Str.Lines.{lines}
use Rattle.std.proofs.lemmas.Bool.{ne_eqb, lt-ltb, le-ltb}
use Rattle.std.proofs.lemmas.List.{map-append}
use Rattle.text_lines.specs.Words.{trim}
use Rattle.text_lines.specs.Lines.{Item, Label, Statement, is_visible}
use Rattle.text_lines.specs.Cutting.{visible_part, first_line, label_at, statement_items, items_left, items_at, items_of_text, long_line}
use Rattle.text_lines.specs.Views.{seen}
use Rattle.text_lines.specs.declared.items.Item.{Item as KeptItem}
use Rattle.text_lines.proofs.Prefixes.{IsCutAt, cut-passes, cut-fails, cut-ends}
use Rattle.text_lines.proofs.LineItems.{left-label, left-none, label-known, label-shorter}
use Rattle.text_lines.proofs.TextLines.{lines-some, lines-none}

-- comments

pub visible-passes : (line : List ℕ) (n : ℕ) → IsCutAt is_visible line n → n < length line → (get_or line n 0 ≡ 35 → ⊥) → IsCutAt is_visible line (n + 1)
visible-passes line n h within other =
    let e = ne_eqb (get_or line n 0) 35 other in cut-passes is_visible line n h within (ap (λ t. cond t false true) e)

pub visible-fails : (line : List ℕ) (n : ℕ) → IsCutAt is_visible line n → n < length line → get_or line n 0 ≡ 35 → take n line ≡ visible_part line
unfolding visible_part
visible-fails line n h within hash = sym (cut-fails is_visible line n h within (ap is_visible hash)).0

pub visible-ends : (line : List ℕ) (n : ℕ) → IsCutAt is_visible line n → length line ≤ n → take n line ≡ visible_part line
unfolding visible_part
visible-ends line n h all = sym (cut-ends is_visible line n h all).0

-- items of a line

pub items-pushed : (kept : List KeptItem) (item : KeptItem) → map seen (kept ++ item ∷ []) ≡ map seen kept ++ seen item ∷ []
items-pushed kept item = map-append seen kept (item ∷ [])

pub label-next : (items : List Item) (k : ℕ) (rest name after : List ℕ) → label_at rest ≡ Some (name, after)
    → (items ++ Label name k ∷ []) ++ items_left k after ≡ items ++ items_left k rest
label-next items k rest name after is =
    append_assoc items (Label name k ∷ []) (items_left k after) ∙ ap (λ (x : List Item). items ++ x) (sym (left-label k rest name after is))

pub label-less : (rest name after : List ℕ) → label_at rest ≡ Some (name, after) → length after < length rest
label-less rest name after is = label-shorter rest name after (label-known rest name after is)

pub statement-last : (items : List Item) (k : ℕ) (rest text : List ℕ) → label_at rest ≡ None → text ≡ trim rest → (length text ≡ 0 → ⊥)
    → items ++ Statement text k ∷ [] ≡ items ++ items_left k rest
statement-last items k rest [] none is some = absurd (some refl)
statement-last items k rest (b ∷ bs) none is some = ap (λ (x : List Item). items ++ x) (ap (statement_items k) is ∙ sym (left-none k rest none))

pub statement-empty : (items : List Item) (k : ℕ) (rest text : List ℕ) → label_at rest ≡ None → text ≡ trim rest → length text ≡ 0 → items ≡ items ++ items_left k rest
statement-empty items k rest [] none is empty =
    sym (append-nil items) ∙ ap (λ (x : List Item). items ++ x) (ap (statement_items k) is ∙ sym (left-none k rest none))
statement-empty items k rest (b ∷ bs) none is empty = absurd (omega arith)

-- lines

pub items-begin : (items : List KeptItem) (text : List ℕ) → items ≡ [] → map seen items ++ items_at 1 (lines text) ≡ items_of_text text
unfolding items_of_text
items-begin items text none = ap (λ (x : List KeptItem). map seen x ++ items_at 1 (lines text)) none

pub items-next : (items more : List Item) (k : ℕ) (rest here after : List ℕ) → first_line rest ≡ Some (here, after) → more ≡ items ++ items_left k (visible_part here)
    → more ++ items_at (k + 1) (lines after) ≡ items ++ items_at k (lines rest)
unfolding items_at
items-next items more k rest here after is pushed =
    let cut = (lines-some rest here after is).0 in
    rw (cut, pushed) (append_assoc items (items_left k (visible_part here)) (items_at (k + 1) (lines after)))

pub items-end : (items : List Item) (k : ℕ) (rest : List ℕ) → first_line rest ≡ None → items ++ items_at k (lines rest) ≡ items
unfolding items_at
items-end items k rest none = let e = lines-none rest none in rw e (append-nil items)

pub line-less : (rest here after : List ℕ) → first_line rest ≡ Some (here, after) → length after < length rest
line-less rest here after is = (lines-some rest here after is).1

pub line-counts : (rest here after : List ℕ) → first_line rest ≡ Some (here, after) → length (lines rest) ≡ length (lines after) + 1
line-counts rest here after is = let e : length (lines rest) ≡ length (here ∷ lines after) = ap length (lines-some rest here after is).0 in omega arith

pub line-none : (rest : List ℕ) → first_line rest ≡ None → length (lines rest) ≡ 0
line-none rest none = ap length (lines-none rest none)

-- long lines

pub long-here : (k : ℕ) (rest here after : List ℕ) → first_line rest ≡ Some (here, after) → 4096 < length here → long_line k (lines rest) ≡ Some k
unfolding long_line
long-here k rest here after is long =
    let cut = (lines-some rest here after is).0 in
    let e = lt-ltb 4096 (length here) long in
    rw (cut, e) refl

pub long-later : (k : ℕ) (rest here after : List ℕ) → first_line rest ≡ Some (here, after) → length here ≤ 4096 → long_line (k + 1) (lines after) ≡ long_line k (lines rest)
unfolding long_line
long-later k rest here after is short =
    let cut = (lines-some rest here after is).0 in
    let e = le-ltb 4096 (length here) short in
    rw (cut, e) refl

pub long-end : (k : ℕ) (rest : List ℕ) → first_line rest ≡ None → long_line k (lines rest) ≡ None
unfolding long_line
long-end k rest none = let e = lines-none rest none in rw e refl
