-- What the code reads of statements, against what statements are and what may be wrong with them.
use Rattle.std.proofs.Common.{◌≡◌, ℕ, ◌≤◌, ◌⊎◌, inl, inr, Bool, true, false, ◌||◌, cond, zero, suc, List, [], ◌∷◌, length, map, Option, Some, None, Result, Ok, Err, slice_get, codes, refl, sym, ap, ◌∙◌, subst, arith}
use Rattle.std.specs.List.{list_all, list_any, AllByRecursion}
use Rattle.std.specs.Option.{option_map}
use Rattle.std.specs.Str.{bytes_eq}
use Rattle.std.proofs.lemmas.Bool.{and_parts, or_parts, both_ways}
use Rattle.std.proofs.lemmas.Option.{same_Some}
use Rattle.std.proofs.lemmas.Slice.Eq.{bytes_eq-Decides}
use Rattle.insn_ops.specs.declared.op.Op.{Op}
use Rattle.insn_table.specs.declared.insn.Operand.{Operand}
use Rattle.insn_table.specs.declared.insn.Insn.{Insn}
use Rattle.insn_spellings.specs.declared.shape.Shape.{Shape}
use Rattle.insn_table.specs.declared.fitting.Misfit.{Misfit}
use Rattle.insn_table.specs.declared.fitting.Misfit.TheVariants as misfits
use Rattle.insn_spellings.specs.Rows.{named}
use Rattle.insn_spellings.specs.Spellings.{table_rows}
use Rattle.insn_table.specs.Classes.{OperandForm, numbers_fit}
use Rattle.insn_table.specs.Forms.{fits_of, found_form, judged_by, insn_of}
use Rattle.text_lines.specs.Bytes.{is_blank}
use Rattle.text_lines.specs.Words.{is_solid, prefix_of, behind_prefix, trim, IsPadded, HasWord}
use Rattle.text_lines.specs.Kinds.{rank}
use Rattle.text_lines.specs.Statements.{FindsTargets, IsStatement, Reads}
use Rattle.text_lines.specs.declared.refusal.ReadKind.{ReadKind}
use Rattle.text_lines.specs.declared.refusal.ReadKind.TheVariants.{UnknownInstruction, PoolRefused, BadOperand, BadNumber, UnknownLabel}
use Rattle.text_lines.proofs.Trimming.{word-known, word-only, trim-known, trim-only}
use Rattle.att_statements.specs.Operands.{Written, Immediate, Label, Plain, IsOperandPart, IsPoolPart}
use Rattle.att_statements.specs.Statements.{LeadsTo, IsRepeatedReturn, IsReadAs, AreOperands, HasParts, AreWritten, HasPlace, IsWithin, four, IsMade, IsInsnText, HasSuch, IsMisfit, IsLost, IsBadStatement}
use Rattle.att_statements.specs.ReadingOperands.{parts_from, is_pool_part}
use Rattle.att_statements.specs.ReadingStatements as reading
use Rattle.att_statements.specs.ReadingStatements.{is_repeated_return, shown_of, operands_of, part_of, parts_in, no_part, gathered, four_in, fitted_by, insn_with, insn_by, statement_of}
use Rattle.att_statements.specs.declared.part.Part.{Part}
use Rattle.att_statements.proofs.PartTexts.{parts-known, parts-only}
use Rattle.att_statements.proofs.WrittenTexts.{pool-known, pool-only, pool-says_nothing}
use Rattle.att_statements.proofs.PartLists as lists
use Rattle.att_statements.proofs.PartLists.{any-such, such-any, padded, all_parts, parts-read, none-parts, parts-none, operands_from, stand-known, stand-only, four-operands, written-count, any-padded, four-parts, within-known, beyond-known, lost-known, placed-known, part-only, no-target, none-placed}

-- a statement's mnemonic and its operands' texts

abbrev pub mnemonic_of : List ℕ → List ℕ
mnemonic_of text = prefix_of is_solid (shown_of text)

abbrev pub texts_of : List ℕ → List (List ℕ)
texts_of text = operands_of (behind_prefix is_solid (shown_of text))

repeated-known : (text : List ℕ) → is_repeated_return text ≡ true → IsRepeatedReturn text
unfolding is_repeated_return
repeated-known text h =
    let p = and_parts (bytes_eq (prefix_of is_solid text) (codes "rep")) (bytes_eq (trim (behind_prefix is_solid text)) (codes "ret")) h in
    let rep = (bytes_eq-Decides (prefix_of is_solid text) (codes "rep")).0 p.0 in
    let ret = (bytes_eq-Decides (trim (behind_prefix is_solid text)) (codes "ret")).0 p.1 in (
      behind_prefix is_solid text,
      subst (λ (w : List ℕ). HasWord text w (behind_prefix is_solid text)) rep (word-known text),
      subst (IsPadded (behind_prefix is_solid text)) ret (trim-known (behind_prefix is_solid text)),
    )

repeated-only : (text : List ℕ) → IsRepeatedReturn text → is_repeated_return text ≡ true
unfolding is_repeated_return
repeated-only text (rest, word, padded) =
    let cut = word-only text (codes "rep") rest word in
    let trimmed = trim-only rest (codes "ret") padded in
    let first = cut.0 in
    let behind = cut.1 in
    rw (first, behind, trimmed) refl

shown-by : (text : List ℕ) (t : Bool) → is_repeated_return text ≡ t → IsReadAs text (cond t (codes "ret") text)
shown-by text true h = inl (repeated-known text h, refl)
shown-by text false h = inr (λ r. both_ways (is_repeated_return text) h (repeated-only text r), refl)

shown-known : (text : List ℕ) → IsReadAs text (shown_of text)
unfolding shown_of
shown-known text = shown-by text (is_repeated_return text) refl

not-repeated : (text : List ℕ) → (IsRepeatedReturn text → ⊥) → is_repeated_return text ≡ false
not-repeated text none =
    elim (is_repeated_return text) as (λ t. is_repeated_return text ≡ t → t ≡ false)
    [ true ↦ λ e. absurd (none (repeated-known text e)) | false ↦ λ e. refl ] refl

shown-only : (text shown : List ℕ) → IsReadAs text shown → shown_of text ≡ shown
unfolding shown_of
shown-only text shown (inl p) = let e = repeated-only text p.0 in rw (e, p.1) refl
shown-only text shown (inr p) = let e = not-repeated text p.0 in rw (e, p.1) refl

operands-by : (text : List ℕ) (t : Bool) → list_all is_blank text ≡ t → AreOperands text (cond t [] (parts_from 0 text))
operands-by text true h = inl (h, refl)
operands-by text false h = inr (h, parts-known 0 text)

operands-known : (text : List ℕ) → AreOperands text (operands_of text)
unfolding operands_of
operands-known text = operands-by text (list_all is_blank text) refl

operands-only : (text : List ℕ) (parts : List (List ℕ)) → AreOperands text parts → operands_of text ≡ parts
unfolding operands_of
operands-only text parts (inl p) = let e = p.0 in rw (e, p.1) refl
operands-only text parts (inr p) = let e = p.0 in rw e (parts-only 0 text parts p.1)

-- a statement has the parts that are read of it
has-known : (text : List ℕ) → HasParts text (mnemonic_of text) (texts_of text)
has-known text =
    record {
      shown = shown_of text;
      rest = behind_prefix is_solid (shown_of text);
      read = shown-known text;
      word = word-known (shown_of text);
      operands = operands-known (behind_prefix is_solid (shown_of text));
    }

-- and no others
has-only : (text mnemonic : List ℕ) (parts : List (List ℕ)) → HasParts text mnemonic parts → (mnemonic_of text ≡ mnemonic) × (texts_of text ≡ parts)
has-only text mnemonic parts h =
    let shown = shown-only text h.shown h.read in
    let cut = word-only h.shown mnemonic h.rest h.word in (
      ap (prefix_of is_solid) shown ∙ cut.0,
      ap operands_of (ap (behind_prefix is_solid) shown ∙ cut.1) ∙ operands-only h.rest parts h.operands,
    )

-- the line plays no part in why the table takes no such operands

fit-alike : (b : Bool) (i j : Insn) (misfit : Misfit) → cond b (Ok i) (Err misfits.BadNumber) ≡ Err misfit → cond b (Ok j) (Err misfits.BadNumber) ≡ Err misfit
fit-alike true i j misfit h = cc
fit-alike false i j misfit h = h

judged-alike : (form : Option OperandForm) (i j : Insn) (misfit : Misfit) → i.args ≡ j.args → judged_by form i ≡ Err misfit → judged_by form j ≡ Err misfit
judged-alike None i j misfit same h = h
judged-alike (Some form) i j misfit same h =
    fit-alike (numbers_fit j.args form) i j misfit
    (subst (λ (a : List Operand). cond (numbers_fit a form) (Ok i) (Err misfits.BadNumber) ≡ Err misfit) same h)

misfit-line : (shape : Shape) (args : List Operand) (k line : ℕ) (misfit : Misfit) → fits_of shape args k ≡ Err misfit → fits_of shape args line ≡ Err misfit
misfit-line shape args k line misfit h =
    judged-alike (found_form shape (insn_of shape args k)) (insn_of shape args k) (insn_of shape args line) misfit refl h

-- the operands that are read, as the instruction's four
abbrev args_of : List Part → List Operand
args_of parts = map (λ (part : Part). part.operand) parts

-- what is read of a statement that is made so
made-read : (target : List ℕ → Option ℕ) (L : List ℕ → ℕ → Type 0) (text : List ℕ) (shape : Shape) (ws : List Written) (os : List Operand)
    → FindsTargets target L → IsMade L text shape ws os
    → (named table_rows (mnemonic_of text) ≡ Some shape)
    × (parts_in target shape.op 4 (texts_of text) ≡ Some (padded 4 (all_parts target shape.op ws)))
    × (args_of (padded 4 (all_parts target shape.op ws)) ≡ four os)
    × (length ws ≤ 4)
made-read target L text shape ws os finds made =
    let has = has-only text made.mnemonic made.parts made.has in
    let count = written-count made.parts ws made.spelled in
    let few : length ws ≤ 4 = omega (arith, made.few) in (
      ap (named table_rows) has.0 ∙ made.row,
      ap (parts_in target shape.op 4) has.1 ∙ parts-read target shape.op 4 made.parts ws made.spelled made.few,
      four-operands target shape.op ws few ∙ ap four (sym (stand-only target L shape.op ws os finds made.stand)),
      few,
    )

-- how a statement is made of what is read
made-from : (target : List ℕ → Option ℕ) (L : List ℕ → ℕ → Type 0) (text : List ℕ) (shape : Shape) (parts : List Part)
    → FindsTargets target L → named table_rows (mnemonic_of text) ≡ Some shape → parts_in target shape.op 4 (texts_of text) ≡ Some parts
    → (ws : List Written) × IsMade L text shape ws (operands_from target shape.op ws) × (parts ≡ padded 4 (all_parts target shape.op ws))
    × (args_of parts ≡ four (operands_from target shape.op ws)) × AreWritten (texts_of text) ws × (length ws ≤ 4)
made-from target L text shape parts finds row read =
    let known = lists.parts-known target shape.op 4 (texts_of text) parts read in
    let count = written-count (texts_of text) known.0 known.1 in
    let few : length known.0 ≤ 4 = omega (arith, known.2) in (
      known.0,
      record {
        mnemonic = mnemonic_of text;
        parts = texts_of text;
        has = has-known text;
        row = row;
        few = known.2;
        spelled = known.1;
        stand = stand-known target L shape.op known.0 finds;
      },
      known.3,
      ap args_of known.3 ∙ four-operands target shape.op known.0 few,
      known.1,
      few,
    )

-- what each fault says of what is read

unknown-fact : (L : List ℕ → ℕ → Type 0) (text : List ℕ) → IsBadStatement L text UnknownInstruction → named table_rows (mnemonic_of text) ≡ None
unknown-fact L text (mnemonic, parts, has, none) = ap (named table_rows) (has-only text mnemonic parts has).0 ∙ none

pool-fact : (L : List ℕ → ℕ → Type 0) (text : List ℕ) → IsBadStatement L text PoolRefused → list_any is_pool_part (texts_of text) ≡ true
pool-fact L text (mnemonic, parts, has, such) =
    ap (list_any is_pool_part) (has-only text mnemonic parts has).1 ∙ such-any is_pool_part IsPoolPart parts pool-only such

-- what is read of a statement is what it is made of
same-made : (target : List ℕ → Option ℕ) (L : List ℕ → ℕ → Type 0) (text : List ℕ) (shape other : Shape) (ws : List Written) (os : List Operand) (parts : List Part)
    → FindsTargets target L → IsMade L text other ws os → named table_rows (mnemonic_of text) ≡ Some shape → parts_in target shape.op 4 (texts_of text) ≡ Some parts
    → (other ≡ shape) × (parts ≡ padded 4 (all_parts target shape.op ws)) × (four os ≡ args_of parts) × (length ws ≤ 4)
same-made target L text shape other ws os parts finds made row read =
    let m = made-read target L text other ws os finds made in
    let same : other ≡ shape = same_Some other shape (sym m.0 ∙ row) in
    let moved = subst (λ (x : Shape). (parts_in target x.op 4 (texts_of text) ≡ Some (padded 4 (all_parts target x.op ws))) × (args_of (padded 4 (all_parts target x.op ws)) ≡ four os)) same (m.1, m.2) in
    let parts_are : parts ≡ padded 4 (all_parts target shape.op ws) = same_Some parts (padded 4 (all_parts target shape.op ws)) (sym read ∙ moved.0) in
    (same, parts_are, sym moved.1 ∙ ap args_of (sym parts_are), m.3)

misfit-fact : (target : List ℕ → Option ℕ) (L : List ℕ → ℕ → Type 0) (text : List ℕ) (shape : Shape) (parts : List Part) (line : ℕ) (misfit : Misfit)
    → FindsTargets target L → named table_rows (mnemonic_of text) ≡ Some shape → parts_in target shape.op 4 (texts_of text) ≡ Some parts
    → IsMisfit L text misfit → fits_of shape (args_of parts) line ≡ Err misfit
misfit-fact target L text shape parts line misfit finds row read m =
    let same = same-made target L text shape m.shape m.written m.operands parts finds m.made row read in
    let fails : fits_of shape (args_of parts) 0 ≡ Err misfit =
    ap (λ (x : Shape). fits_of x (args_of parts) 0) (sym same.0) ∙ ap (λ (xs : List Operand). fits_of m.shape xs 0) (sym same.2) ∙ m.fails in
    misfit-line shape (args_of parts) 0 line misfit fails

operand-fact : (target : List ℕ → Option ℕ) (L : List ℕ → ℕ → Type 0) (text : List ℕ) (shape : Shape) (parts : List Part) (line : ℕ)
    → FindsTargets target L → named table_rows (mnemonic_of text) ≡ Some shape → parts_in target shape.op 4 (texts_of text) ≡ Some parts
    → IsBadStatement L text BadOperand → fits_of shape (args_of parts) line ≡ Err misfits.BadOperand
operand-fact target L text shape parts line finds row read (inl (mnemonic, texts, has, none)) =
    absurd (none-parts target shape.op 4 texts parts none (ap (parts_in target shape.op 4) (sym (has-only text mnemonic texts has).1) ∙ read))
operand-fact target L text shape parts line finds row read (inr m) = misfit-fact target L text shape parts line misfits.BadOperand finds row read m

abbrev is_wide : Part → Bool
is_wide part = part.beyond

abbrev is_lost : Part → Bool
is_lost part = part.lost

any-map : {X Y : Type 0} (p : Y → Bool) (f : X → Y) (xs : List X) → list_any p (map f xs) ≡ list_any (λ x. p (f x)) xs
any-map p f [] = refl
any-map p f (x ∷ xs) = ap (λ t. p (f x) || t) (any-map p f xs)

length-parts : (target : List ℕ → Option ℕ) (op : Op) (ws : List Written) → length (all_parts target op ws) ≡ length ws
length-parts target op [] = refl
length-parts target op (w ∷ ws) = ap suc (length-parts target op ws)

-- a test of the parts that are read
any-part : (target : List ℕ → Option ℕ) (op : Op) (p : Part → Bool) (ws : List Written) → p no_part ≡ false → length ws ≤ 4
    → list_any p (padded 4 (all_parts target op ws)) ≡ list_any (λ w. p (part_of target op w)) ws
any-part target op p ws none few =
    let count = length-parts target op ws in
    any-padded p 4 (all_parts target op ws) none (omega arith) ∙ any-map p (part_of target op) ws

wide-test : (target : List ℕ → Option ℕ) (op : Op) (w : Written) → (IsWithin op w → ⊥) → (part_of target op w).beyond ≡ true
wide-test target op w wide =
    elim (part_of target op w).beyond as (λ t. (part_of target op w).beyond ≡ t → t ≡ true)
    [ true ↦ λ e. refl | false ↦ λ e. absurd (wide (within-known target op w e)) ] refl

number-fact : (target : List ℕ → Option ℕ) (L : List ℕ → ℕ → Type 0) (text : List ℕ) (shape : Shape) (parts : List Part) (line : ℕ)
    → FindsTargets target L → named table_rows (mnemonic_of text) ≡ Some shape → parts_in target shape.op 4 (texts_of text) ≡ Some parts
    → IsBadStatement L text BadNumber → (fits_of shape (args_of parts) line ≡ Err misfits.BadNumber) ⊎ (list_any is_wide parts ≡ true)
number-fact target L text shape parts line finds row read (inl m) = inl (misfit-fact target L text shape parts line misfits.BadNumber finds row read m)
number-fact target L text shape parts line finds row read (inr m) =
    let same = same-made target L text shape m.shape m.written m.operands parts finds m.made row read in
    let beyond = subst (λ (x : Shape). HasSuch (λ w. IsWithin x.op w → ⊥) m.written) same.0 m.beyond in
    let any = such-any (λ w. (part_of target shape.op w).beyond) (λ w. IsWithin shape.op w → ⊥) m.written (wide-test target shape.op) beyond in
    inr (ap (list_any is_wide) same.1 ∙ any-part target shape.op is_wide m.written refl same.3 ∙ any)

-- a label without a place is lost
lost-at : (target : List ℕ → Option ℕ) (L : List ℕ → ℕ → Type 0) (op : Op) (texts : List (List ℕ)) (ws : List Written) (k : ℕ) (text : List ℕ) → FindsTargets target L
    → AreWritten texts ws → slice_get texts k ≡ Some text → IsLost L text → list_any (λ w. (part_of target op w).lost) ws ≡ true
lost-at target L op [] ws k text finds are there lost = cc
lost-at target L op (first ∷ texts) [] k text finds are there lost = absurd are
lost-at target L op (first ∷ texts) (w ∷ ws) zero text finds are there (name, says, none) =
    let is : IsOperandPart text w = subst (λ (x : List ℕ). IsOperandPart x w) (same_Some first text there) are.0 in
    let same : part_of target op w ≡ part_of target op (Label name) =
    same_Some (part_of target op w) (part_of target op (Label name)) (sym (part-only target op text w is) ∙ part-only target op text (Label name) says) in
    let lost : (part_of target op w).lost ≡ true = ap is_lost same ∙ none-placed (target name) (no-target target L name (target name) finds refl none) in
    rw lost refl
lost-at target L op (first ∷ texts) (w ∷ ws) (suc k) text finds are there lost =
    let later = lost-at target L op texts ws k text finds are.1 there lost in
    elim (part_of target op w).lost as (λ t. (t || list_any (λ v. (part_of target op v).lost) ws) ≡ true) [ true ↦ refl | false ↦ later ]

label-fact : (target : List ℕ → Option ℕ) (L : List ℕ → ℕ → Type 0) (text : List ℕ) (shape : Shape) (parts : List Part)
    → FindsTargets target L → named table_rows (mnemonic_of text) ≡ Some shape → parts_in target shape.op 4 (texts_of text) ≡ Some parts
    → IsBadStatement L text UnknownLabel → list_any is_lost parts ≡ true
label-fact target L text shape parts finds row read (mnemonic, texts, has, such) =
    let m = made-from target L text shape parts finds row read in
    let there = ap (λ (xs : List (List ℕ)). slice_get xs such.place) (has-only text mnemonic texts has).1 ∙ such.there in
    let lost = lost-at target L shape.op (texts_of text) m.0 such.place such.item finds m.4 there such.such in
    ap (list_any is_lost) m.2 ∙ any-part target shape.op is_lost m.0 refl m.5 ∙ lost

-- what was answered is right

-- the faults that come before this rank don't hold
abbrev IsLeast : (List ℕ → ℕ → Type 0) → List ℕ → ℕ → Type 0
IsLeast L text k = (other : ReadKind) → IsBadStatement L text other → k ≤ rank other

least-pool : (L : List ℕ → ℕ → Type 0) (text : List ℕ) → (IsBadStatement L text UnknownInstruction → ⊥) → IsLeast L text 7
least-pool L text unknown UnknownInstruction bad = absurd (unknown bad)
least-pool L text unknown PoolRefused bad = omega arith
least-pool L text unknown BadOperand bad = omega arith
least-pool L text unknown BadNumber bad = omega arith
least-pool L text unknown UnknownLabel bad = omega arith
least-pool L text unknown _ bad = absurd bad

least-operand : (L : List ℕ → ℕ → Type 0) (text : List ℕ) → (IsBadStatement L text UnknownInstruction → ⊥) → (IsBadStatement L text PoolRefused → ⊥) → IsLeast L text 8
least-operand L text unknown pool UnknownInstruction bad = absurd (unknown bad)
least-operand L text unknown pool PoolRefused bad = absurd (pool bad)
least-operand L text unknown pool BadOperand bad = omega arith
least-operand L text unknown pool BadNumber bad = omega arith
least-operand L text unknown pool UnknownLabel bad = omega arith
least-operand L text unknown pool _ bad = absurd bad

least-number : (L : List ℕ → ℕ → Type 0) (text : List ℕ) → (IsBadStatement L text UnknownInstruction → ⊥) → (IsBadStatement L text PoolRefused → ⊥)
    → (IsBadStatement L text BadOperand → ⊥) → IsLeast L text 9
least-number L text unknown pool operand UnknownInstruction bad = absurd (unknown bad)
least-number L text unknown pool operand PoolRefused bad = absurd (pool bad)
least-number L text unknown pool operand BadOperand bad = absurd (operand bad)
least-number L text unknown pool operand BadNumber bad = omega arith
least-number L text unknown pool operand UnknownLabel bad = omega arith
least-number L text unknown pool operand _ bad = absurd bad

least-label : (L : List ℕ → ℕ → Type 0) (text : List ℕ) → (IsBadStatement L text UnknownInstruction → ⊥) → (IsBadStatement L text PoolRefused → ⊥)
    → (IsBadStatement L text BadOperand → ⊥) → (IsBadStatement L text BadNumber → ⊥) → IsLeast L text 10
least-label L text unknown pool operand number UnknownInstruction bad = absurd (unknown bad)
least-label L text unknown pool operand number PoolRefused bad = absurd (pool bad)
least-label L text unknown pool operand number BadOperand bad = absurd (operand bad)
least-label L text unknown pool operand number BadNumber bad = absurd (number bad)
least-label L text unknown pool operand number UnknownLabel bad = omega arith
least-label L text unknown pool operand number _ bad = absurd bad

none-bad : (L : List ℕ → ℕ → Type 0) (text : List ℕ) → (IsBadStatement L text UnknownInstruction → ⊥) → (IsBadStatement L text PoolRefused → ⊥)
    → (IsBadStatement L text BadOperand → ⊥) → (IsBadStatement L text BadNumber → ⊥) → (IsBadStatement L text UnknownLabel → ⊥)
    → (kind : ReadKind) → IsBadStatement L text kind → ⊥
none-bad L text unknown pool operand number label UnknownInstruction bad = unknown bad
none-bad L text unknown pool operand number label PoolRefused bad = pool bad
none-bad L text unknown pool operand number label BadOperand bad = operand bad
none-bad L text unknown pool operand number label BadNumber bad = number bad
none-bad L text unknown pool operand number label UnknownLabel bad = label bad
none-bad L text unknown pool operand number label _ bad = bad

-- statements have faults of these ranks alone
fault-range : (L : List ℕ → ℕ → Type 0) (text : List ℕ) (kind : ReadKind) → IsBadStatement L text kind → (6 ≤ rank kind) × (rank kind ≤ 10)
fault-range L text UnknownInstruction bad = (omega arith, omega arith)
fault-range L text PoolRefused bad = (omega arith, omega arith)
fault-range L text BadOperand bad = (omega arith, omega arith)
fault-range L text BadNumber bad = (omega arith, omega arith)
fault-range L text UnknownLabel bad = (omega arith, omega arith)
fault-range L text _ bad = absurd bad

-- the answer is right
abbrev IsRight : (List ℕ → ℕ → Type 0) → List ℕ → ℕ → Result Insn ReadKind → Type 0
IsRight L text line r = IsStatement (IsBadStatement L) (IsInsnText L) text line r

-- what is known where the mnemonic and the operands are
record AreRead (target : List ℕ → Option ℕ) (L : List ℕ → ℕ → Type 0) (text : List ℕ) (shape : Shape) (parts : List Part) : Type 0 where
  finds : FindsTargets target L
  row : named table_rows (mnemonic_of text) ≡ Some shape
  pool : list_any is_pool_part (texts_of text) ≡ false
  read : parts_in target shape.op 4 (texts_of text) ≡ Some parts

no-unknown : (L : List ℕ → ℕ → Type 0) (text : List ℕ) (shape : Shape) → named table_rows (mnemonic_of text) ≡ Some shape → IsBadStatement L text UnknownInstruction → ⊥
no-unknown L text shape row bad = let none = unknown-fact L text bad in cc

no-pool : (L : List ℕ → ℕ → Type 0) (text : List ℕ) → list_any is_pool_part (texts_of text) ≡ false → IsBadStatement L text PoolRefused → ⊥
no-pool L text none bad = both_ways (list_any is_pool_part (texts_of text)) none (pool-fact L text bad)

no-operand : (target : List ℕ → Option ℕ) (L : List ℕ → ℕ → Type 0) (text : List ℕ) (shape : Shape) (parts : List Part) (line : ℕ) → AreRead target L text shape parts
    → (fits_of shape (args_of parts) line ≡ Err misfits.BadOperand → ⊥) → IsBadStatement L text BadOperand → ⊥
no-operand target L text shape parts line r fits bad = fits (operand-fact target L text shape parts line r.finds r.row r.read bad)

number-contrary : (target : List ℕ → Option ℕ) (L : List ℕ → ℕ → Type 0) (text : List ℕ) (shape : Shape) (parts : List Part) (line : ℕ) (i : Insn)
    → fits_of shape (args_of parts) line ≡ Ok i → list_any is_wide parts ≡ false
    → (fits_of shape (args_of parts) line ≡ Err misfits.BadNumber) ⊎ (list_any is_wide parts ≡ true) → ⊥
number-contrary target L text shape parts line i fits none (inl e) = cc
number-contrary target L text shape parts line i fits none (inr e) = both_ways (list_any is_wide parts) none e

no-number : (target : List ℕ → Option ℕ) (L : List ℕ → ℕ → Type 0) (text : List ℕ) (shape : Shape) (parts : List Part) (line : ℕ) (i : Insn) → AreRead target L text shape parts
    → fits_of shape (args_of parts) line ≡ Ok i → list_any is_wide parts ≡ false → IsBadStatement L text BadNumber → ⊥
no-number target L text shape parts line i r fits none bad =
    number-contrary target L text shape parts line i fits none (number-fact target L text shape parts line r.finds r.row r.read bad)

-- each test of a list passes for all or fails for one
all-within : (target : List ℕ → Option ℕ) (op : Op) (ws : List Written) → list_any (λ w. (part_of target op w).beyond) ws ≡ false → AllByRecursion (IsWithin op) ws
all-within target op [] h = tt
all-within target op (w ∷ ws) h =
    let p = or_parts (part_of target op w).beyond (list_any (λ v. (part_of target op v).beyond) ws) h in
    (within-known target op w p.0, all-within target op ws p.1)

all-placed : (target : List ℕ → Option ℕ) (L : List ℕ → ℕ → Type 0) (op : Op) (ws : List Written) → FindsTargets target L
    → list_any (λ w. (part_of target op w).lost) ws ≡ false → AllByRecursion (HasPlace L) ws
all-placed target L op [] finds h = tt
all-placed target L op (w ∷ ws) finds h =
    let p = or_parts (part_of target op w).lost (list_any (λ v. (part_of target op v).lost) ws) h in
    (placed-known target L op w finds p.0, all-placed target L op ws finds p.1)

not-within : (target : List ℕ → Option ℕ) (op : Op) (w : Written) → IsWithin op w → (part_of target op w).beyond ≡ false
not-within target op w within =
    elim (part_of target op w).beyond as (λ t. (part_of target op w).beyond ≡ t → t ≡ false)
    [ true ↦ λ e. absurd (beyond-known target op w e within) | false ↦ λ e. refl ] refl

not-lost : (target : List ℕ → Option ℕ) (L : List ℕ → ℕ → Type 0) (op : Op) (w : Written) → FindsTargets target L → HasPlace L w → (part_of target op w).lost ≡ false
not-lost target L op w finds placed =
    elim (part_of target op w).lost as (λ t. (part_of target op w).lost ≡ t → t ≡ false)
    [ true ↦ λ e. absurd (lost-known target L op w finds e placed) | false ↦ λ e. refl ] refl

none-within : (target : List ℕ → Option ℕ) (op : Op) (ws : List Written) → AllByRecursion (IsWithin op) ws → list_any (λ w. (part_of target op w).beyond) ws ≡ false
none-within target op [] all = refl
none-within target op (w ∷ ws) all =
    let first = not-within target op w all.0 in
    let more = none-within target op ws all.1 in rw (first, more) refl

none-lost : (target : List ℕ → Option ℕ) (L : List ℕ → ℕ → Type 0) (op : Op) (ws : List Written) → FindsTargets target L → AllByRecursion (HasPlace L) ws
    → list_any (λ w. (part_of target op w).lost) ws ≡ false
none-lost target L op [] finds all = refl
none-lost target L op (w ∷ ws) finds all =
    let first = not-lost target L op w finds all.0 in
    let more = none-lost target L op ws finds all.1 in rw (first, more) refl

-- a written label without a place is a lost part
lost-one : (L : List ℕ → ℕ → Type 0) (text : List ℕ) (w : Written) → IsOperandPart text w → (HasPlace L w → ⊥) → IsLost L text
lost-one L text (Immediate negative n) says lost = absurd (lost tt)
lost-one L text (Label name) says lost = (name, says, λ place at. lost (place, at))
lost-one L text (Plain operand) says lost = absurd (lost tt)

lost-such : (L : List ℕ → ℕ → Type 0) (texts : List (List ℕ)) (ws : List Written) (k : ℕ) (w : Written) → AreWritten texts ws → slice_get ws k ≡ Some w
    → (HasPlace L w → ⊥) → HasSuch (IsLost L) texts
lost-such L [] [] k w are there lost = cc
lost-such L [] (v ∷ ws) k w are there lost = absurd are
lost-such L (text ∷ texts) [] k w are there lost = cc
lost-such L (text ∷ texts) (v ∷ ws) zero w are there lost =
    record { place = 0; item = text; there = refl; such = lost-one L text v are.0 (subst (λ (x : Written). HasPlace L x → ⊥) (sym (same_Some v w there)) lost) }
lost-such L (text ∷ texts) (v ∷ ws) (suc k) w are there lost =
    let later = lost-such L texts ws k w are.1 there lost in
    record { place = suc later.place; item = later.item; there = later.there; such = later.such }

-- the table takes the operands
right-made : (target : List ℕ → Option ℕ) (L : List ℕ → ℕ → Type 0) (text : List ℕ) (line : ℕ) (shape : Shape) (parts : List Part) (i : Insn) (wide lost : Bool)
    → AreRead target L text shape parts → fits_of shape (args_of parts) line ≡ Ok i → list_any is_wide parts ≡ wide → list_any is_lost parts ≡ lost
    → IsRight L text line (cond wide (Err BadNumber) (cond lost (Err UnknownLabel) (Ok i)))
right-made target L text line shape parts i true lost r fits is_true is =
    let m = made-from target L text shape parts r.finds r.row r.read in
    let any : list_any (λ w. (part_of target shape.op w).beyond) m.0 ≡ true =
    sym (any-part target shape.op is_wide m.0 refl m.5) ∙ ap (list_any is_wide) (sym m.2) ∙ is_true in
    let such = any-such (λ w. (part_of target shape.op w).beyond) (λ w. IsWithin shape.op w → ⊥) m.0 (beyond-known target shape.op) any in (
      inr (record { shape = shape; written = m.0; operands = operands_from target shape.op m.0; made = m.1; beyond = such }),
      least-number L text (no-unknown L text shape r.row) (no-pool L text r.pool) (no-operand target L text shape parts line r (λ e. cc)),
    )
right-made target L text line shape parts i false true r fits is_false is_true =
    let m = made-from target L text shape parts r.finds r.row r.read in
    let any : list_any (λ w. (part_of target shape.op w).lost) m.0 ≡ true =
    sym (any-part target shape.op is_lost m.0 refl m.5) ∙ ap (list_any is_lost) (sym m.2) ∙ is_true in
    let such = any-such (λ w. (part_of target shape.op w).lost) (λ w. HasPlace L w → ⊥) m.0 (λ w e. lost-known target L shape.op w r.finds e) any in (
      (mnemonic_of text, texts_of text, has-known text, lost-such L (texts_of text) m.0 such.place such.item m.4 such.there such.such),
      least-label L text (no-unknown L text shape r.row) (no-pool L text r.pool) (no-operand target L text shape parts line r (λ e. cc))
          (λ bad. no-number target L text shape parts line i r fits is_false bad),
    )
right-made target L text line shape parts i false false r fits no_wide no_lost =
    let m = made-from target L text shape parts r.finds r.row r.read in
    let within : list_any (λ w. (part_of target shape.op w).beyond) m.0 ≡ false =
    sym (any-part target shape.op is_wide m.0 refl m.5) ∙ ap (list_any is_wide) (sym m.2) ∙ no_wide in
    let placed : list_any (λ w. (part_of target shape.op w).lost) m.0 ≡ false =
    sym (any-part target shape.op is_lost m.0 refl m.5) ∙ ap (list_any is_lost) (sym m.2) ∙ no_lost in (
      record {
        shape = shape;
        written = m.0;
        operands = operands_from target shape.op m.0;
        made = m.1;
        within = all-within target shape.op m.0 within;
        placed = all-placed target L shape.op m.0 r.finds placed;
        fits = ap (λ (xs : List Operand). fits_of shape xs line) (sym m.3) ∙ fits;
      },
      none-bad L text (no-unknown L text shape r.row) (no-pool L text r.pool) (no-operand target L text shape parts line r (λ e. cc))
          (λ bad. no-number target L text shape parts line i r fits no_wide bad)
          (λ bad. both_ways (list_any is_lost parts) no_lost (label-fact target L text shape parts r.finds r.row r.read bad)),
    )

misfit-from : (target : List ℕ → Option ℕ) (L : List ℕ → ℕ → Type 0) (text : List ℕ) (line : ℕ) (shape : Shape) (parts : List Part) (misfit : Misfit)
    → AreRead target L text shape parts → fits_of shape (args_of parts) line ≡ Err misfit → IsMisfit L text misfit
misfit-from target L text line shape parts misfit r fits =
    let m = made-from target L text shape parts r.finds r.row r.read in
    record {
      shape = shape;
      written = m.0;
      operands = operands_from target shape.op m.0;
      made = m.1;
      fails = ap (λ (xs : List Operand). fits_of shape xs 0) (sym m.3) ∙ misfit-line shape (args_of parts) line 0 misfit fits;
    }

right-judged : (target : List ℕ → Option ℕ) (L : List ℕ → ℕ → Type 0) (text : List ℕ) (line : ℕ) (shape : Shape) (parts : List Part) (judged : Result Insn Misfit)
    → AreRead target L text shape parts → fits_of shape (args_of parts) line ≡ judged → IsRight L text line (reading.answered_by (gathered parts) judged)
right-judged target L text line shape parts (Ok i) r fits =
    right-made target L text line shape parts i (list_any is_wide parts) (list_any is_lost parts) r fits refl refl
right-judged target L text line shape parts (Err misfits.BadOperand) r fits = (
  inr (misfit-from target L text line shape parts misfits.BadOperand r fits),
  least-operand L text (no-unknown L text shape r.row) (no-pool L text r.pool),
)
right-judged target L text line shape parts (Err misfits.BadNumber) r fits = (
  inl (misfit-from target L text line shape parts misfits.BadNumber r fits),
  least-number L text (no-unknown L text shape r.row) (no-pool L text r.pool) (no-operand target L text shape parts line r (λ e. cc)),
)

right-fitted : (target : List ℕ → Option ℕ) (L : List ℕ → ℕ → Type 0) (text : List ℕ) (line : ℕ) (shape : Shape) (read : Option (List Part)) → FindsTargets target L
    → named table_rows (mnemonic_of text) ≡ Some shape → list_any is_pool_part (texts_of text) ≡ false → parts_in target shape.op 4 (texts_of text) ≡ read
    → IsRight L text line (fitted_by shape line (option_map gathered read))
right-fitted target L text line shape None finds row pool read = (
  inl (mnemonic_of text, texts_of text, has-known text, parts-none target shape.op 4 (texts_of text) read),
  least-operand L text (no-unknown L text shape row) (no-pool L text pool),
)
right-fitted target L text line shape (Some parts) finds row pool read =
    right-judged target L text line shape parts (fits_of shape (args_of parts) line) (record { finds = finds; row = row; pool = pool; read = read }) refl

right-pool : (target : List ℕ → Option ℕ) (L : List ℕ → ℕ → Type 0) (text : List ℕ) (line : ℕ) (shape : Shape) (pool : Bool) → FindsTargets target L
    → named table_rows (mnemonic_of text) ≡ Some shape → list_any is_pool_part (texts_of text) ≡ pool
    → IsRight L text line (cond pool (Err PoolRefused) (fitted_by shape line (four_in target shape.op (texts_of text))))
right-pool target L text line shape true finds row pool = (
  (mnemonic_of text, texts_of text, has-known text, any-such is_pool_part IsPoolPart (texts_of text) pool-known pool),
  least-pool L text (no-unknown L text shape row),
)
right-pool target L text line shape false finds row pool =
    rw (four-parts target shape.op (texts_of text)) (right-fitted target L text line shape (parts_in target shape.op 4 (texts_of text)) finds row pool refl)

right-named : (target : List ℕ → Option ℕ) (L : List ℕ → ℕ → Type 0) (text : List ℕ) (line : ℕ) (row : Option Shape) → FindsTargets target L
    → named table_rows (mnemonic_of text) ≡ row → IsRight L text line (insn_by target row (texts_of text) line)
unfolding insn_with
right-named target L text line None finds row =
    ((mnemonic_of text, texts_of text, has-known text, row), λ other bad. (fault-range L text other bad).0)
right-named target L text line (Some shape) finds row =
    right-pool target L text line shape (list_any is_pool_part (texts_of text)) finds row refl

-- what is answered of a statement is right
pub statement-right : (target : List ℕ → Option ℕ) (L : List ℕ → ℕ → Type 0) (text : List ℕ) (line : ℕ) → FindsTargets target L → IsRight L text line (statement_of target text line)
unfolding statement_of
statement-right target L text line finds = right-named target L text line (named table_rows (mnemonic_of text)) finds refl

-- no part of what is written is in a pool
no-pool_part : (texts : List (List ℕ)) (ws : List Written) → AreWritten texts ws → list_any is_pool_part texts ≡ false
no-pool_part [] [] are = refl
no-pool_part [] (w ∷ ws) are = absurd are
no-pool_part (text ∷ texts) [] are = absurd are
no-pool_part (text ∷ texts) (w ∷ ws) are =
    let more = no-pool_part texts ws are.1 in
    elim (is_pool_part text) as (λ t. is_pool_part text ≡ t → (t || list_any is_pool_part texts) ≡ false)
    [ true ↦ λ e. absurd (pool-says_nothing text w (pool-known text e) are.0) | false ↦ λ e. more ] refl

-- the instruction of a statement is answered
pub statement-only : (target : List ℕ → Option ℕ) (L : List ℕ → ℕ → Type 0) (text : List ℕ) (line : ℕ) (i : Insn) → FindsTargets target L → IsInsnText L text line i
    → statement_of target text line ≡ Ok i
unfolding statement_of insn_with
statement-only target L text line i finds is =
    let m = made-read target L text is.shape is.written is.operands finds is.made in
    let has = has-only text is.made.mnemonic is.made.parts is.made.has in
    let pool : list_any is_pool_part (texts_of text) ≡ false =
    ap (list_any is_pool_part) has.1 ∙ no-pool_part is.made.parts is.written is.made.spelled in
    let row : named table_rows (mnemonic_of text) ≡ Some is.shape = m.0 in
    let read : parts_in target is.shape.op 4 (texts_of text) ≡ Some (padded 4 (all_parts target is.shape.op is.written)) = m.1 in
    let fits : fits_of is.shape (args_of (padded 4 (all_parts target is.shape.op is.written))) line ≡ Ok i =
    ap (λ (xs : List Operand). fits_of is.shape xs line) m.2 ∙ is.fits in
    let wide : list_any is_wide (padded 4 (all_parts target is.shape.op is.written)) ≡ false =
    any-part target is.shape.op is_wide is.written refl m.3 ∙ none-within target is.shape.op is.written is.within in
    let lost : list_any is_lost (padded 4 (all_parts target is.shape.op is.written)) ≡ false =
    any-part target is.shape.op is_lost is.written refl m.3 ∙ none-lost target L is.shape.op is.written finds is.placed in
    ap (λ (o : Option Shape). insn_by target o (texts_of text) line) row
    ∙ ap (λ (t : Bool). cond t (Err PoolRefused) (fitted_by is.shape line (four_in target is.shape.op (texts_of text)))) pool
    ∙ ap (fitted_by is.shape line) (four-parts target is.shape.op (texts_of text) ∙ ap (option_map gathered) read)
    ∙ ap (reading.answered_by (gathered (padded 4 (all_parts target is.shape.op is.written)))) fits
    ∙ ap (λ (t : Bool). cond t (Err BadNumber) (cond (list_any is_lost (padded 4 (all_parts target is.shape.op is.written))) (Err UnknownLabel) (Ok i))) wide
    ∙ ap (λ (t : Bool). cond t (Err UnknownLabel) (Ok i)) lost

-- the reader of statements, whatever the labels
pub statements-read : (target : List ℕ → Option ℕ) (L : List ℕ → ℕ → Type 0) → FindsTargets target L → Reads (statement_of target) (IsBadStatement L) (IsInsnText L)
statements-read target L finds =
    record {
      outcome = λ text line. statement-right target L text line finds;
      only = λ text line i is. statement-only target L text line i finds is;
      known = fault-range L;
    }

-- the same, where labels lead to the places of a look-up
pub looked-up : (target : List ℕ → Option ℕ) → Reads (statement_of target) (IsBadStatement (LeadsTo target)) (IsInsnText (LeadsTo target))
looked-up target = statements-read target (LeadsTo target) (record { known = λ name place h. h; only = λ name place h. h })

pub ruleset reader = (looked-up)
