-- The items of whole texts, both ways, and their order.
use Rattle.std.proofs.Common.{◌≡◌, ℕ, ◌+◌, ◌≤◌, List, [], ◌∷◌, ◌++◌, refl, sym, ap, ◌∙◌, subst, arith}
use Rattle.std.specs.Str.Lines.{lines}
use Rattle.text_lines.specs.Lines.{Item, Label, Statement, AreSpelled, AreLines}
use Rattle.text_lines.specs.Texts.{AreItems}
use Rattle.text_lines.specs.Cutting.{visible_part, items_left, items_at, items_of_text}
use Rattle.text_lines.proofs.LineItems.{line-known, line-only}

lines-known : (k : ℕ) (ls : List (List ℕ)) → AreLines k ls (items_at k ls)
unfolding items_at
lines-known k [] = refl
lines-known k (line ∷ ls) = (items_left k (visible_part line), items_at (k + 1) ls, line-known k line, lines-known (k + 1) ls, refl)

lines-only : (k : ℕ) (ls : List (List ℕ)) (items : List Item) → AreLines k ls items → items ≡ items_at k ls
unfolding items_at
lines-only k [] items h = h
lines-only k (line ∷ ls) items h =
    h.4 ∙ ap (λ (x : List Item). x ++ h.1) (line-only k line h.0 h.2) ∙ ap (λ (x : List Item). items_left k (visible_part line) ++ x) (lines-only (k + 1) ls h.1 h.3)

-- a text holds the items that are read of it
pub items-known : (text : List ℕ) → AreItems text (items_of_text text)
unfolding items_of_text
items-known text = lines-known 1 (lines text)

-- so does a text of which these items were read
pub items-held : (text : List ℕ) (items : List Item) → items ≡ items_of_text text → AreItems text items
items-held text items is = subst (AreItems text) (sym is) (items-known text)

-- and no other ones
pub items-only : (text : List ℕ) (items : List Item) → AreItems text items → items ≡ items_of_text text
unfolding items_of_text
items-only text items h = lines-only 1 (lines text) items h

-- the order of items

-- the line of an item
abbrev pub line_of : Item → ℕ
line_of (Label name k) = k
line_of (Statement x k) = k

-- the first line that an item may have behind this one
abbrev pub next_line : Item → ℕ
next_line (Label name k) = k
next_line (Statement x k) = k + 1

-- from line m on lines don't fall, and a statement is the last of its line
abbrev pub AreOrdered : ℕ → List Item → Type 0
AreOrdered m [] = Unit {0}
AreOrdered m (i ∷ is) = (m ≤ line_of i) × AreOrdered (next_line i) is

pub ordered-from : (m n : ℕ) (is : List Item) → m ≤ n → AreOrdered n is → AreOrdered m is
ordered-from m n [] h order = tt
ordered-from m n (i ∷ is) h order = (omega (arith, order.0), order.1)

next-line : (i : Item) → line_of i ≤ next_line i
next-line (Label name k) = omega arith
next-line (Statement x k) = omega arith

-- a part of ordered items is ordered
pub ordered-front : (m : ℕ) (xs ys : List Item) → AreOrdered m (xs ++ ys) → AreOrdered m xs
ordered-front m [] ys order = tt
ordered-front m (x ∷ xs) ys order = (order.0, ordered-front (next_line x) xs ys order.1)

pub ordered-behind : (m : ℕ) (xs ys : List Item) → AreOrdered m (xs ++ ys) → AreOrdered m ys
ordered-behind m [] ys order = order
ordered-behind m (x ∷ xs) ys order =
    ordered-from m (next_line x) ys (omega (arith, order.0, next-line x)) (ordered-behind (next_line x) xs ys order.1)

-- an item behind others has no lesser line
pub ordered-at : (m : ℕ) (before : List Item) (i : Item) (after : List Item) → AreOrdered m (before ++ i ∷ after) → m ≤ line_of i
ordered-at m before i after order = (ordered-behind m before (i ∷ after) order).0

line-ordered : (k : ℕ) (text : List ℕ) (items later : List Item) → AreSpelled k text items → AreOrdered (k + 1) later → AreOrdered k (items ++ later)
line-ordered k text [] later h order = ordered-from k (k + 1) later (omega arith) order
line-ordered k text (Label name j ∷ items) later h order =
    (omega (arith, h.0), subst (λ m. AreOrdered m (items ++ later)) (sym h.0) (line-ordered k h.1.0 items later h.1.2 order))
line-ordered k text (Statement x j ∷ []) later h order = (omega (arith, h.0), subst (λ m. AreOrdered (m + 1) later) (sym h.0) order)
line-ordered k text (Statement x j ∷ item ∷ items) later h order = absurd h

lines-ordered : (k : ℕ) (ls : List (List ℕ)) (items : List Item) → AreLines k ls items → AreOrdered k items
lines-ordered k [] items h = subst (AreOrdered k) (sym h) tt
lines-ordered k (line ∷ ls) items h =
    subst (AreOrdered k) (sym h.4) (line-ordered k h.2.0 h.0 h.1 h.2.2 (lines-ordered (k + 1) ls h.1 h.3))

-- the items of a text are ordered
pub items-ordered : (text : List ℕ) → AreOrdered 1 (items_of_text text)
items-ordered text = lines-ordered 1 (lines text) (items_of_text text) (items-known text)
