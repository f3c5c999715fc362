-- What is read of a whole text is right, and only that is.
use Rattle.std.proofs.Common.{◌≡◌, ℕ, Bool, true, false, ◌<◌, List, [], length, Result, Ok, Err, refl, sym, ap, ◌∙◌, subst, arith, ◌⊎◌, inl, inr, Option, Some, None}
use Rattle.std.specs.Str.{IsUtf8, is_utf8}
use Rattle.std.proofs.lemmas.Str.{IsUtf8-from_is_utf8}
use Rattle.std.specs.Str.Lines.{lines}
use Rattle.outcomes.specs.Answering.{Answers, Gives}
use Rattle.outcomes.proofs.Answering.{unless-map}
use Rattle.insn_table.specs.declared.insn.Insn.{Insn}
use Rattle.insn_table.specs.declared.insn.Function.{Function}
use Rattle.text_lines.specs.declared.refusal.ReadKind.TheVariants.{Memory, NotUtf8, LineLong}
use Rattle.text_lines.specs.declared.refusal.ReadRefusal.{ReadRefusal}
use Rattle.text_lines.specs.Lines.{Item}
use Rattle.text_lines.specs.Texts.{AreItems}
use Rattle.text_lines.specs.Kinds.{out_of_memory, rank, refusal}
use Rattle.text_lines.specs.Cutting.{items_of_text, long_line}
use Rattle.text_lines.proofs.TextItems.{items-known, items-only, items-ordered}
use Rattle.text_lines.proofs.TextFaults.{utf8-once, utf8-differs, long-once, short-differs, long-known, short-known, utf8-some}
use Rattle.att_bodies.specs.Faults.{Fault}
use Rattle.att_bodies.specs.Functions as body
use Rattle.att_bodies.proofs.BodyLaws as laws
use Rattle.att_statements.specs.Statements.{IsInsnText, IsBadStatement}
use Rattle.att_statements.proofs.StatementTexts.{statements-read}
use Rattle.att_reader.specs.FunctionText.{IsLegible, IsFunctionText, IsFunctionRefusal, NoText, Long, Faulty}
use Rattle.att_reader.specs.Reading.{told, insns_of_text}
use Rattle.att_reader.proofs.LoopSteps.{told-err, told-ok}

-- what was read of a text's items is right
abbrev IsRightText : List ℕ → List ℕ → Result (List Insn) Fault → Type 0
IsRightText text name (Ok insns) = body.IsFunction IsBadStatement IsInsnText name (items_of_text text) insns
IsRightText text name (Err e) = body.AreRefused IsBadStatement IsInsnText name (length (lines text)) (items_of_text text) e

right_by : (text name : List ℕ) (r : Result (List Insn) Fault) → laws.IsRight statements-read name (length (lines text)) (items_of_text text) r → IsRightText text name r
right_by text name (Ok insns) h = h
right_by text name (Err e) h = h

text-right : (text name : List ℕ) → IsRightText text name (insns_of_text text name)
unfolding insns_of_text
text-right text name = right_by text name _ (laws.insns-right statements-read name (length (lines text)) (items_of_text text) (items-ordered text))

-- a function that was read is the text's
pub text-function : (text name : List ℕ) (f : Function) → IsLegible text → told (insns_of_text text name) ≡ Ok f.insns → f.name ≡ name → f.pool ≡ [] → IsFunctionText text name f
text-function text name f legible read named none =
    record {
      legible = legible;
      items = items_of_text text;
      holds = items-known text;
      function = subst (IsRightText text name) (told-ok (insns_of_text text name) f.insns read) (text-right text name);
      named = named;
      no_pool = none;
    }

-- a refusal that was told is the text's
pub text-refused : (text name : List ℕ) (e : ReadRefusal) → IsLegible text → told (insns_of_text text name) ≡ Err e → IsFunctionRefusal text name e
text-refused text name e legible stops =
    let f = told-err (insns_of_text text name) e stops in
    Faulty legible (items_of_text text) (items-known text) f.0 (subst (IsRightText text name) f.1 (text-right text name)) f.2

-- one meaning

same_items : (text : List ℕ) (a b : List Item) → AreItems text a → AreItems text b → a ≡ b
same_items text a b one two = items-only text a one ∙ sym (items-only text b two)

same_function : (f g : Function) → f.name ≡ g.name → f.insns ≡ g.insns → f.pool ≡ g.pool → f ≡ g
same_function f g names insns pools =
    ap (λ (x : List ℕ). let h : Function = record { name = x; insns = f.insns; pool = f.pool } in h) names
    ∙ ap (λ (x : List Insn). let h : Function = record { name = g.name; insns = x; pool = f.pool } in h) insns
    ∙ ap (λ (x : List ℕ). let h : Function = record { name = g.name; insns = g.insns; pool = x } in h) pools

-- a text spells a function, or is refused
pub text-some : (text name : List ℕ) → ((f : Function) × IsFunctionText text name f) ⊎ ((e : ReadRefusal) × IsFunctionRefusal text name e)
text-some text name = by_utf8 (is_utf8 text) refl
  where
    by_items : IsLegible text → (r : Result (List Insn) Fault) → IsRightText text name r → ((f : Function) × IsFunctionText text name f) ⊎ ((e : ReadRefusal) × IsFunctionRefusal text name e)
    by_items legible (Ok insns) right =
        inl (
          record { name = name; insns = insns; pool = [] },
          record { legible = legible; items = items_of_text text; holds = items-known text; function = right; named = refl; no_pool = refl },
        )
    by_items legible (Err e) right = inr (refusal e.line e.kind, Faulty legible (items_of_text text) (items-known text) e right refl)

    by_lines : IsUtf8 text → (o : Option ℕ) → long_line 1 (lines text) ≡ o → ((f : Function) × IsFunctionText text name f) ⊎ ((e : ReadRefusal) × IsFunctionRefusal text name e)
    by_lines utf8 None is = by_items (record { utf8 = utf8; short = short-known text is }) (insns_of_text text name) (text-right text name)
    by_lines utf8 (Some k) is = inr (refusal k LineLong, Long utf8 k (long-known text k is) refl)

    by_utf8 : (t : Bool) → is_utf8 text ≡ t → ((f : Function) × IsFunctionText text name f) ⊎ ((e : ReadRefusal) × IsFunctionRefusal text name e)
    by_utf8 true good = by_lines (IsUtf8-from_is_utf8 text good) (long_line 1 (lines text)) refl
    by_utf8 false bad = let wrong = utf8-some text bad in inr (refusal wrong.0 NotUtf8, NoText wrong.0 wrong.1 refl)

-- a text spells at most one function
pub text-once : (text name : List ℕ) (f g : Function) → IsFunctionText text name f → IsFunctionText text name g → f ≡ g
text-once text name f g one two =
    let items = same_items text one.items two.items one.holds two.holds in
    let moved = subst (λ (x : List Item). body.IsFunction IsBadStatement IsInsnText name x f.insns) items one.function in
    same_function f g (one.named ∙ sym two.named) (laws.function-once statements-read name two.items f.insns g.insns moved two.function) (one.no_pool ∙ sym two.no_pool)

-- and is not refused then
pub text-differs : (text name : List ℕ) (f : Function) (e : ReadRefusal) → IsFunctionText text name f → IsFunctionRefusal text name e → ⊥
text-differs text name f e one (NoText k bad is) = utf8-differs text k one.legible.utf8 bad
text-differs text name f e one (Long utf8 k long is) = short-differs text k one.legible.short long
text-differs text name f e one (Faulty legible items holds fault refused is) =
    let same = same_items text items one.items holds one.holds in
    laws.refused-differs statements-read name (length (lines text)) one.items fault f.insns
    (subst (λ (x : List Item). body.AreRefused IsBadStatement IsInsnText name (length (lines text)) x fault) same refused) one.function

-- a text is refused in one way
pub refused-once : (text name : List ℕ) (a b : ReadRefusal) → IsFunctionRefusal text name a → IsFunctionRefusal text name b → a ≡ b
refused-once text name a b (NoText k bad is) (NoText j worse too) = is ∙ ap (λ n. refusal n NotUtf8) (utf8-once text k j bad worse) ∙ sym too
refused-once text name a b (NoText k bad is) (Long utf8 j long too) = absurd (utf8-differs text k utf8 bad)
refused-once text name a b (NoText k bad is) (Faulty legible items holds fault refused too) = absurd (utf8-differs text k legible.utf8 bad)
refused-once text name a b (Long utf8 k long is) (NoText j bad too) = absurd (utf8-differs text j utf8 bad)
refused-once text name a b (Long utf8 k long is) (Long utf8_too j longer too) = is ∙ ap (λ n. refusal n LineLong) (long-once text k j long longer) ∙ sym too
refused-once text name a b (Long utf8 k long is) (Faulty legible items holds fault refused too) = absurd (short-differs text k legible.short long)
refused-once text name a b (Faulty legible items holds fault refused is) (NoText j bad too) = absurd (utf8-differs text j legible.utf8 bad)
refused-once text name a b (Faulty legible items holds fault refused is) (Long utf8 k long too) = absurd (short-differs text k legible.short long)
refused-once text name a b (Faulty legible items holds fault refused is) (Faulty legible_too others hold wrong refused_too too) =
    let same = same_items text items others holds hold in
    let moved = subst (λ (x : List Item). body.AreRefused IsBadStatement IsInsnText name (length (lines text)) x fault) same refused in
    let once = laws.refused-once statements-read name (length (lines text)) others fault wrong moved refused_too in
    is ∙ ap (λ (f : Fault). refusal f.line f.kind) once ∙ sym too

-- and never because memory was not found
pub refused-found : (text name : List ℕ) (e : ReadRefusal) → IsFunctionRefusal text name e → e.kind ≡ Memory → ⊥
refused-found text name e refused is = let none : rank e.kind ≡ 0 = ap rank is in let some = refused_rank refused in omega arith
  where
    refused_rank : IsFunctionRefusal text name e → 0 < rank e.kind
    refused_rank (NoText k bad told_is) = let same : rank e.kind ≡ 1 = ap (λ (x : ReadRefusal). rank x.kind) told_is in omega arith
    refused_rank (Long utf8 k long told_is) = let same : rank e.kind ≡ 2 = ap (λ (x : ReadRefusal). rank x.kind) told_is in omega arith
    refused_rank (Faulty legible items holds fault refused told_is) =
        let same : rank e.kind ≡ rank fault.kind = ap (λ (x : ReadRefusal). rank x.kind) told_is in
        omega (arith, laws.refused-rank statements-read name (length (lines text)) items fault refused)

-- what is so was answered

pub gives-function : (text name : List ℕ) (r : Result Function ReadRefusal) → Answers out_of_memory (IsFunctionText text name) (IsFunctionRefusal text name) r
    → (f : Function) → IsFunctionText text name f → Gives out_of_memory r (Ok f)
gives-function text name (Ok g) h f one = ap (λ (x : Function). Ok x) (text-once text name f g one h)
gives-function text name (Err e) h f one = unless-map (λ (refused : IsFunctionRefusal text name e). absurd (text-differs text name f e one refused)) h

pub gives-refusal : (text name : List ℕ) (r : Result Function ReadRefusal) → Answers out_of_memory (IsFunctionText text name) (IsFunctionRefusal text name) r
    → (e : ReadRefusal) → IsFunctionRefusal text name e → Gives out_of_memory r (Err e)
gives-refusal text name (Ok f) h e refused = absurd (text-differs text name f e h refused)
gives-refusal text name (Err other) h e refused = unless-map (λ (told_one : IsFunctionRefusal text name other). ap (λ (x : ReadRefusal). Err x) (refused-once text name e other refused told_one)) h
