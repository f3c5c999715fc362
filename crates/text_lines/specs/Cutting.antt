-- How texts are cut, as functions on lists.
use Rattle.std.specs.Prelude.{ℕ, suc, zero, ◌+◌, ◌==◌, if◌then◌else◌, List, [], ◌∷◌, ◌++◌, length, Option, Some, None}
use Rattle.std.specs.Str.Lines.{lines, strip_carriage_return}
use Rattle.text_parts.specs.Cuts.{cut_at}
use Rattle.text_lines.specs.Bytes.{is_blank, is_name_byte}
use Rattle.text_lines.specs.Words.{is_name, prefix_of, behind_prefix, trim}
use Rattle.text_lines.specs.Lines.{Item, Label, Statement, is_visible}
use Rattle.text_lines.specs.Texts.{is_long}

-- the first line and what follows it, where a newline cuts the text here
abbrev pub line_of : List ℕ → Option (List ℕ × List ℕ) → Option (List ℕ × List ℕ)
line_of text None = if length text == 0 then None else Some (text, [])
line_of text (Some parts) = Some (strip_carriage_return parts.0, parts.1)

-- the first line and what follows it
unfoldable pub first_line : List ℕ → Option (List ℕ × List ℕ)
first_line text = line_of text (cut_at 10 text)

-- the first long line, where lines are counted from k on
unfoldable pub long_line : ℕ → List (List ℕ) → Option ℕ
long_line k [] = None
long_line k (line ∷ lines) = if is_long line then Some k else long_line (k + 1) lines

-- the line without its comment
unfoldable pub visible_part : List ℕ → List ℕ
visible_part line = prefix_of is_visible line

-- a name and what stands behind its colon
abbrev pub colon_behind : List ℕ → List ℕ → Option (List ℕ × List ℕ)
colon_behind name [] = None
colon_behind name (b ∷ rest) = if b == 58 then (if is_name name then Some (name, rest) else None) else None

-- the label that a text begins with, behind blanks, and the rest
unfoldable pub label_at : List ℕ → Option (List ℕ × List ℕ)
label_at text =
    let named = behind_prefix is_blank text in
    colon_behind (prefix_of is_name_byte named) (behind_prefix is_name_byte named)

-- a statement, if there is one
abbrev pub statement_items : ℕ → List ℕ → List Item
statement_items k [] = []
statement_items k (b ∷ bs) = Statement (b ∷ bs) k ∷ []

-- the items of a text on line k of at most n labels: those behind the first label, or the statement
abbrev pub items_by : (List ℕ → List Item) → ℕ → List ℕ → Option (List ℕ × List ℕ) → List Item
items_by behind k text None = statement_items k (trim text)
items_by behind k text (Some found) = Label found.0 k ∷ behind found.1

-- the labels of a text on line k, at most n, and then its statement
unfoldable pub items_from : ℕ → ℕ → List ℕ → List Item
items_from zero k text = statement_items k (trim text)
items_from (suc n) k text = items_by (items_from n k) k text (label_at text)

-- the items of a text on line k
unfoldable pub items_left : ℕ → List ℕ → List Item
items_left k text = items_from (length text) k text

-- the items of lines, counted from k on
unfoldable pub items_at : ℕ → List (List ℕ) → List Item
items_at k [] = []
items_at k (line ∷ lines) = items_left k (visible_part line) ++ items_at (k + 1) lines

-- the items of a text
unfoldable pub items_of_text : List ℕ → List Item
items_of_text text = items_at 1 (lines text)
