-- What the code reads of a statement's operands, one after another, against what their texts say and stand for.
use Rattle.std.proofs.Common.{◌≡◌, ℕ, zero, suc, ◌-◌, ◌%◌, ◌^◌, ◌<◌, ◌≤◌, ◌⊎◌, inl, inr, min, Bool, true, false, ◌||◌, cond, ltb, leb, List, [], ◌∷◌, length, map, Option, Some, None, is_none, slice_get, refl, sym, ap, ◌∙◌, subst, arith}
use Rattle.std.specs.Prelude.{unwrap_or}
use Rattle.std.specs.List.{list_any}
use Rattle.std.specs.Option.{option_map}
use Rattle.std.proofs.lemmas.Bool.{or_cases, ltb-true, lt-ltb, ltb-false, le-ltb, leb-true, leb-false, lt-leb}
use Rattle.std.proofs.lemmas.Option.{same_Some}
use Rattle.insn_ops.specs.declared.op.Op.{Op}
use Rattle.insn_table.specs.declared.insn.Operand.{Operand}
use Rattle.insn_table.specs.declared.insn.Operand.TheVariants.{Target}
use Rattle.text_lines.specs.Statements.{FindsTargets}
use Rattle.text_lines.specs.Words.{trim}
use Rattle.text_lines.proofs.Trimming.{trim-known, trim-only}
use Rattle.att_statements.specs.Operands.{Written, Immediate, Label, Plain, IsOperandPart}
use Rattle.att_statements.specs.Statements.{AreWritten, word_of, StandsFor, StandFor, HasPlace, greatest_written, is_movabs, IsWithin, four, HasSuch}
use Rattle.text_parts.specs.Cuts.{◌>>=◌}
use Rattle.text_parts.proofs.Options.{map_some}
use Rattle.att_statements.specs.ReadingOperands.{are_none, written_of}
use Rattle.att_statements.specs.ReadingStatements.{is_beyond, no_part, part_of, part_in, next_part, parts_in, gathered, four_in}
use Rattle.att_statements.specs.declared.part.Part.{Part}
use Rattle.att_statements.proofs.WrittenTexts.{capped_written, written-known, written-only}

-- something of a list

-- where the test passes for one, one is such
pub any-such : {X : Type 0} (p : X → Bool) (P : X → Type 0) (xs : List X) → ((x : X) → p x ≡ true → P x) → list_any p xs ≡ true → HasSuch P xs
any-such p P [] h any = cc
any-such p P (x ∷ xs) h any =
    elim (or_cases (p x) (list_any p xs) any) [
      | inl e ↦ record { place = 0; item = x; there = refl; such = h x e }
      | inr e ↦ let later = any-such p P xs h e in record { place = suc later.place; item = later.item; there = later.there; such = later.such }
    ]

any-at : {X : Type 0} (p : X → Bool) (xs : List X) (k : ℕ) (x : X) → slice_get xs k ≡ Some x → p x ≡ true → list_any p xs ≡ true
any-at p [] k x there pass = cc
any-at p (y ∷ ys) zero x there pass = let e : p y ≡ true = ap p (same_Some y x there) ∙ pass in rw e refl
any-at p (y ∷ ys) (suc k) x there pass =
    let e = any-at p ys k x there pass in
    elim (p y) as (λ t. (t || list_any p ys) ≡ true) [ true ↦ refl | false ↦ e ]

-- where one is such, the test passes for one
pub such-any : {X : Type 0} (p : X → Bool) (P : X → Type 0) (xs : List X) → ((x : X) → P x → p x ≡ true) → HasSuch P xs → list_any p xs ≡ true
such-any p P xs h s = any-at p xs s.place s.item s.there (h s.item s.such)

-- one operand

-- immediates above 2^64 are as 2^64
greatest-small : (op : Op) → greatest_written op < 2 ^ 64
greatest-small op = elim (is_movabs op) as (λ t. cond t (2 ^ 64 - 1) (2 ^ 63 - 1) < 2 ^ 64) [ true ↦ omega arith | false ↦ omega arith ]

word-capped_written : (negative : Bool) (n : ℕ) → word_of negative (min n (2 ^ 64)) ≡ word_of negative n
word-capped_written false n =
    elim (ltb n (2 ^ 64)) as (λ t. ltb n (2 ^ 64) ≡ t → cond (ltb (min n (2 ^ 64)) (2 ^ 64)) (min n (2 ^ 64)) 0 ≡ cond t n 0) [
      | true ↦ λ e.
          let same : min n (2 ^ 64) ≡ n = omega (arith, ltb-true n (2 ^ 64) e) in rw (same, e) refl
      | false ↦ λ e.
          let same : min n (2 ^ 64) ≡ 2 ^ 64 = omega (arith, ltb-false n (2 ^ 64) e) in rw same refl
    ] refl
word-capped_written true n =
    elim (leb n (2 ^ 63)) as (λ t. leb n (2 ^ 63) ≡ t → cond (leb (min n (2 ^ 64)) (2 ^ 63)) ((2 ^ 64 - min n (2 ^ 64)) % 2 ^ 64) 0 ≡ cond t ((2 ^ 64 - n) % 2 ^ 64) 0) [
      | true ↦ λ e.
          let same : min n (2 ^ 64) ≡ n = omega (arith, leb-true n (2 ^ 63) e) in rw (same, e) refl
      | false ↦ λ e.
          let high : leb (min n (2 ^ 64)) (2 ^ 63) ≡ false = lt-leb (min n (2 ^ 64)) (2 ^ 63) (omega (arith, leb-false n (2 ^ 63) e)) in rw high refl
    ] refl

ltb-capped_written : (bound n : ℕ) → bound < 2 ^ 64 → ltb bound (min n (2 ^ 64)) ≡ ltb bound n
ltb-capped_written bound n small =
    elim (ltb bound n) as (λ t. ltb bound n ≡ t → ltb bound (min n (2 ^ 64)) ≡ t) [
      | true ↦ λ e. lt-ltb bound (min n (2 ^ 64)) (omega (arith, ltb-true bound n e))
      | false ↦ λ e. le-ltb bound (min n (2 ^ 64)) (omega (arith, ltb-false bound n e))
    ] refl

beyond-capped_written : (op : Op) (negative : Bool) (n : ℕ) → is_beyond op negative (min n (2 ^ 64)) ≡ is_beyond op negative n
beyond-capped_written op false n = ltb-capped_written (greatest_written op) n (greatest-small op)
beyond-capped_written op true n = ltb-capped_written (2 ^ 63) n (omega arith)

part-capped_written : (target : List ℕ → Option ℕ) (op : Op) (w : Written) → part_of target op (capped_written w) ≡ part_of target op w
part-capped_written target op (Immediate negative n) =
    let word = word-capped_written negative n in
    let beyond = beyond-capped_written op negative n in rw (word, beyond) refl
part-capped_written target op (Label name) = refl
part-capped_written target op (Plain operand) = refl

-- a part that is read is what its text says
pub part-known : (target : List ℕ → Option ℕ) (op : Op) (text : List ℕ) (part : Part) → part_in target op text ≡ Some part
    → (w : Written) × IsOperandPart text w × (part ≡ part_of target op w)
unfolding part_in
part-known target op text part h =
    let p = map_some (written_of (trim text)) (part_of target op) part h in
    let w = written-known (trim text) p.0 p.1 in
    (w.0, (trim text, trim-known text, w.1), sym p.2 ∙ ap (part_of target op) w.2 ∙ part-capped_written target op w.0)

-- what a part's text says is read
pub part-only : (target : List ℕ → Option ℕ) (op : Op) (text : List ℕ) (w : Written) → IsOperandPart text w → part_in target op text ≡ Some (part_of target op w)
unfolding part_in
part-only target op text w (inner, padded, says) =
    let trimmed = trim-only text inner padded in
    let some = written-only inner w says in
    rw (trimmed, some) (ap (λ p. Some p) (part-capped_written target op w))

-- operands one after another

-- n parts: these, and then no operands
abbrev pub padded : ℕ → List Part → List Part
padded zero parts = []
padded (suc n) [] = no_part ∷ padded n []
padded (suc n) (part ∷ parts) = part ∷ padded n parts

abbrev pub all_parts : (List ℕ → Option ℕ) → Op → List Written → List Part
all_parts target op ws = map (part_of target op) ws

none-in : (target : List ℕ → Option ℕ) (op : Op) (n : ℕ) → parts_in target op n [] ≡ Some (padded n [])
unfolding next_part
none-in target op zero = refl
none-in target op (suc n) = let more = none-in target op n in rw more refl

-- what the texts say is read
pub parts-read : (target : List ℕ → Option ℕ) (op : Op) (n : ℕ) (texts : List (List ℕ)) (ws : List Written) → AreWritten texts ws → length texts ≤ n
    → parts_in target op n texts ≡ Some (padded n (all_parts target op ws))
unfolding next_part
parts-read target op n [] [] are few = none-in target op n
parts-read target op n [] (w ∷ ws) are few = absurd are
parts-read target op n (text ∷ texts) [] are few = absurd are
parts-read target op zero (text ∷ texts) (w ∷ ws) are few = absurd (omega arith)
parts-read target op (suc n) (text ∷ texts) (w ∷ ws) are few =
    let part = part-only target op text w are.0 in
    let more = parts-read target op n texts ws are.1 (omega arith) in
    rw (part, more) refl

-- what is read are the parts' texts
abbrev pub IsPartsRead : (List ℕ → Option ℕ) → Op → ℕ → List (List ℕ) → List Part → Type 0
IsPartsRead target op n texts parts = (ws : List Written) × AreWritten texts ws × (length texts ≤ n) × (parts ≡ padded n (all_parts target op ws))

abbrev with_texts : List (List ℕ) → Part → Part × List (List ℕ)
with_texts texts part = (part, texts)

-- a part and the texts behind it, and then what follows
abbrev read_on : (List ℕ → Option ℕ) → Op → ℕ → List (List ℕ) → Option Part → Option (List Part)
read_on target op n texts one = option_map (with_texts texts) one >>= λ next. option_map (λ ps. next.0 ∷ ps) (parts_in target op n next.1)

step-known : (target : List ℕ → Option ℕ) (op : Op) (n : ℕ) (text : List ℕ) (texts : List (List ℕ)) (parts : List Part) (one : Option Part)
    → part_in target op text ≡ one → ((rest : List Part) → parts_in target op n texts ≡ Some rest → IsPartsRead target op n texts rest)
    → read_on target op n texts one ≡ Some parts → IsPartsRead target op (suc n) (text ∷ texts) parts
step-known target op n text texts parts None is more h = cc
step-known target op n text texts parts (Some part) is more h =
    let here = part-known target op text part is in
    let behind = map_some (parts_in target op n texts) (λ ps. part ∷ ps) parts h in
    let rest = more behind.0 behind.1 in (
      here.0 ∷ rest.0,
      (here.1, rest.1),
      omega (arith, rest.2),
      sym behind.2 ∙ ap (λ (p : Part). p ∷ behind.0) here.2 ∙ ap (λ (ps : List Part). part_of target op here.0 ∷ ps) rest.3,
    )

pub parts-known : (target : List ℕ → Option ℕ) (op : Op) (n : ℕ) (texts : List (List ℕ)) (parts : List Part) → parts_in target op n texts ≡ Some parts
    → IsPartsRead target op n texts parts
unfolding next_part
parts-known target op n [] parts h = ([], tt, omega arith, sym (same_Some (padded n []) parts (sym (none-in target op n) ∙ h)))
parts-known target op zero (text ∷ texts) parts h = cc
parts-known target op (suc n) (text ∷ texts) parts h =
    step-known target op n text texts parts (part_in target op text) refl (parts-known target op n texts) h

-- some text says nothing, or there are more than n
abbrev pub AreNone : ℕ → List (List ℕ) → Type 0
AreNone n texts = HasSuch (λ text. (w : Written) → IsOperandPart text w → ⊥) texts ⊎ (n < length texts)

none-behind : (n : ℕ) (text : List ℕ) (texts : List (List ℕ)) → AreNone n texts → AreNone (suc n) (text ∷ texts)
none-behind n text texts (inl s) = inl (record { place = suc s.place; item = s.item; there = s.there; such = s.such })
none-behind n text texts (inr many) = inr (omega arith)

map-none : {A B : Type 0} (f : A → B) (o : Option A) → option_map f o ≡ None → o ≡ None
map-none f None h = refl
map-none f (Some x) h = cc

step-none : (target : List ℕ → Option ℕ) (op : Op) (n : ℕ) (text : List ℕ) (texts : List (List ℕ)) (one : Option Part)
    → part_in target op text ≡ one → (parts_in target op n texts ≡ None → AreNone n texts)
    → read_on target op n texts one ≡ None → AreNone (suc n) (text ∷ texts)
step-none target op n text texts None is more h =
    inl (record { place = 0; item = text; there = refl; such = λ w says. let some = part-only target op text w says in cc })
step-none target op n text texts (Some part) is more h =
    none-behind n text texts (more (map-none (λ (ps : List Part). part ∷ ps) (parts_in target op n texts) h))

-- texts that aren't read say nothing, or are too many
pub parts-none : (target : List ℕ → Option ℕ) (op : Op) (n : ℕ) (texts : List (List ℕ)) → parts_in target op n texts ≡ None → AreNone n texts
unfolding next_part
parts-none target op n [] h = let some = none-in target op n in cc
parts-none target op zero (text ∷ texts) h = inr (omega arith)
parts-none target op (suc n) (text ∷ texts) h =
    step-none target op n text texts (part_in target op text) refl (parts-none target op n texts) h

-- texts that say nothing, or are too many, aren't read
lost-part : (target : List ℕ → Option ℕ) (op : Op) (n : ℕ) (texts : List (List ℕ)) (ws : List Written) (k : ℕ) (text : List ℕ) → AreWritten texts ws
    → slice_get texts k ≡ Some text → ((w : Written) → IsOperandPart text w → ⊥) → ⊥
lost-part target op n [] ws k text are there none = cc
lost-part target op n (first ∷ texts) [] k text are there none = absurd are
lost-part target op n (first ∷ texts) (w ∷ ws) zero text are there none = none w (subst (λ (x : List ℕ). IsOperandPart x w) (same_Some first text there) are.0)
lost-part target op n (first ∷ texts) (w ∷ ws) (suc k) text are there none = lost-part target op n texts ws k text are.1 there none

pub none-parts : (target : List ℕ → Option ℕ) (op : Op) (n : ℕ) (texts : List (List ℕ)) (parts : List Part) → AreNone n texts → parts_in target op n texts ≡ Some parts → ⊥
none-parts target op n texts parts (inl s) h = let p = parts-known target op n texts parts h in lost-part target op n texts p.0 s.place s.item p.1 s.there s.such
none-parts target op n texts parts (inr many) h = let p = parts-known target op n texts parts h in let few = p.2 in omega arith

-- what the operands stand for

pub none-placed : {A : Type 0} (o : Option A) → o ≡ None → is_none o ≡ true
none-placed None h = refl
none-placed (Some x) h = cc

pub placed-none : {A : Type 0} (o : Option A) → is_none o ≡ true → o ≡ None
placed-none None h = refl
placed-none (Some x) h = cc

-- a name with no target has no place
pub no-place : (target : List ℕ → Option ℕ) (L : List ℕ → ℕ → Type 0) (name : List ℕ) → FindsTargets target L → target name ≡ None → (place : ℕ) → L name place → ⊥
no-place target L name finds none place is = let some = finds.only name place is in cc

pub no-target : (target : List ℕ → Option ℕ) (L : List ℕ → ℕ → Type 0) (name : List ℕ) (o : Option ℕ) → FindsTargets target L → target name ≡ o → ((place : ℕ) → L name place → ⊥) → o ≡ None
no-target target L name None finds is none = refl
no-target target L name (Some place) finds is none = absurd (none place (finds.known name place is))

-- the operand of a part that is read
abbrev pub operand_of : (List ℕ → Option ℕ) → Op → Written → Operand
operand_of target op w = (part_of target op w).operand

label-stands : (target : List ℕ → Option ℕ) (L : List ℕ → ℕ → Type 0) (name : List ℕ) (o : Option ℕ) → FindsTargets target L → target name ≡ o
    → StandsFor L (Label name) (Target (unwrap_or o 0))
label-stands target L name None finds is = inr (no-place target L name finds is, refl)
label-stands target L name (Some place) finds is = inl (place, finds.known name place is, refl)

stands-known : (target : List ℕ → Option ℕ) (L : List ℕ → ℕ → Type 0) (op : Op) (w : Written) → FindsTargets target L → StandsFor L w (operand_of target op w)
stands-known target L op (Immediate negative n) finds = refl
stands-known target L op (Label name) finds = label-stands target L name (target name) finds refl
stands-known target L op (Plain operand) finds = refl

stands-only : (target : List ℕ → Option ℕ) (L : List ℕ → ℕ → Type 0) (op : Op) (w : Written) (o : Operand) → FindsTargets target L → StandsFor L w o → o ≡ operand_of target op w
stands-only target L op (Immediate negative n) o finds is = is
stands-only target L op (Label name) o finds (inl (place, at, is)) = let some = finds.only name place at in rw some is
stands-only target L op (Label name) o finds (inr (none, is)) = let no = no-target target L name (target name) finds refl none in rw no is
stands-only target L op (Plain operand) o finds is = is

abbrev pub operands_from : (List ℕ → Option ℕ) → Op → List Written → List Operand
operands_from target op ws = map (operand_of target op) ws

pub stand-known : (target : List ℕ → Option ℕ) (L : List ℕ → ℕ → Type 0) (op : Op) (ws : List Written) → FindsTargets target L → StandFor L ws (operands_from target op ws)
stand-known target L op [] finds = tt
stand-known target L op (w ∷ ws) finds = (stands-known target L op w finds, stand-known target L op ws finds)

pub stand-only : (target : List ℕ → Option ℕ) (L : List ℕ → ℕ → Type 0) (op : Op) (ws : List Written) (os : List Operand) → FindsTargets target L → StandFor L ws os
    → os ≡ operands_from target op ws
stand-only target L op [] [] finds are = refl
stand-only target L op [] (o ∷ os) finds are = absurd are
stand-only target L op (w ∷ ws) [] finds are = absurd are
stand-only target L op (w ∷ ws) (o ∷ os) finds are =
    ap (λ (x : Operand). x ∷ os) (stands-only target L op w o finds are.0) ∙ ap (λ (xs : List Operand). operand_of target op w ∷ xs) (stand-only target L op ws os finds are.1)

-- the operands of at most four parts are the instruction's four
pub four-operands : (target : List ℕ → Option ℕ) (op : Op) (ws : List Written) → length ws ≤ 4
    → map (λ (part : Part). part.operand) (padded 4 (all_parts target op ws)) ≡ four (operands_from target op ws)
four-operands target op [] few = refl
four-operands target op (a ∷ []) few = refl
four-operands target op (a ∷ b ∷ []) few = refl
four-operands target op (a ∷ b ∷ c ∷ []) few = refl
four-operands target op (a ∷ b ∷ c ∷ d ∷ []) few = refl
four-operands target op (a ∷ b ∷ c ∷ d ∷ e ∷ rest) few = absurd (omega arith)

-- as many are written as there are parts
pub written-count : (texts : List (List ℕ)) (ws : List Written) → AreWritten texts ws → length ws ≡ length texts
written-count [] [] are = refl
written-count [] (w ∷ ws) are = absurd are
written-count (text ∷ texts) [] are = absurd are
written-count (text ∷ texts) (w ∷ ws) are = ap suc (written-count texts ws are.1)

-- numbers out of range, and labels that lead nowhere

-- a test that no operand doesn't pass
pub any-padded : (p : Part → Bool) (n : ℕ) (parts : List Part) → p no_part ≡ false → length parts ≤ n → list_any p (padded n parts) ≡ list_any p parts
any-padded p zero [] none few = refl
any-padded p zero (part ∷ parts) none few = absurd (omega arith)
any-padded p (suc n) [] none few = let more = any-padded p n [] none (omega arith) in rw (none, more) refl
any-padded p (suc n) (part ∷ parts) none few = ap (λ t. p part || t) (any-padded p n parts none (omega arith))

pub beyond-known : (target : List ℕ → Option ℕ) (op : Op) (w : Written) → (part_of target op w).beyond ≡ true → IsWithin op w → ⊥
beyond-known target op (Immediate false n) h within = omega (arith, ltb-true (greatest_written op) n h)
beyond-known target op (Immediate true n) h within = omega (arith, ltb-true (2 ^ 63) n h)
beyond-known target op (Label name) h within = cc
beyond-known target op (Plain operand) h within = cc

pub within-known : (target : List ℕ → Option ℕ) (op : Op) (w : Written) → (part_of target op w).beyond ≡ false → IsWithin op w
within-known target op (Immediate false n) h = ltb-false (greatest_written op) n h
within-known target op (Immediate true n) h = ltb-false (2 ^ 63) n h
within-known target op (Label name) h = tt
within-known target op (Plain operand) h = tt

pub lost-known : (target : List ℕ → Option ℕ) (L : List ℕ → ℕ → Type 0) (op : Op) (w : Written) → FindsTargets target L → (part_of target op w).lost ≡ true → HasPlace L w → ⊥
lost-known target L op (Immediate negative n) finds h placed = cc
lost-known target L op (Label name) finds h placed = no-place target L name finds (placed-none (target name) h) placed.0 placed.1
lost-known target L op (Plain operand) finds h placed = cc

some-placed : (target : List ℕ → Option ℕ) (L : List ℕ → ℕ → Type 0) (name : List ℕ) (o : Option ℕ) → FindsTargets target L → target name ≡ o → is_none o ≡ false → HasPlace L (Label name)
some-placed target L name None finds is h = cc
some-placed target L name (Some place) finds is h = (place, finds.known name place is)

pub placed-known : (target : List ℕ → Option ℕ) (L : List ℕ → ℕ → Type 0) (op : Op) (w : Written) → FindsTargets target L → (part_of target op w).lost ≡ false → HasPlace L w
placed-known target L op (Immediate negative n) finds h = tt
placed-known target L op (Label name) finds h = some-placed target L name (target name) finds refl h
placed-known target L op (Plain operand) finds h = tt

-- four operands

abbrev Next : Type 0
Next = Option (Part × List (List ℕ))

-- a part before those that are read
abbrev before : Part → Option (List Part) → Option (List Part)
before part parts = option_map (λ ps. part ∷ ps) parts

fourth-last : (a b c : Part) (d : Next) → (d >>= λ n. cond (are_none n.1) (Some (gathered (a ∷ b ∷ c ∷ n.0 ∷ []))) None)
    ≡ option_map gathered (before a (before b (before c (d >>= λ n. before n.0 (cond (are_none n.1) (Some []) None)))))
fourth-last a b c None = refl
fourth-last a b c (Some n) =
    elim (are_none n.1) as (λ t. cond t (Some (gathered (a ∷ b ∷ c ∷ n.0 ∷ []))) None ≡ option_map gathered (before a (before b (before c (before n.0 (cond t (Some []) None))))))
    [ true ↦ refl | false ↦ refl ]

third-then : (target : List ℕ → Option ℕ) (op : Op) (a b : Part) (c : Next)
    → (c >>= λ m. (next_part target op m.1 >>= λ n. cond (are_none n.1) (Some (gathered (a ∷ b ∷ m.0 ∷ n.0 ∷ []))) None))
    ≡ option_map gathered (before a (before b (c >>= λ m. before m.0 (parts_in target op 1 m.1))))
third-then target op a b None = refl
third-then target op a b (Some m) = fourth-last a b m.0 (next_part target op m.1)

second-then : (target : List ℕ → Option ℕ) (op : Op) (a : Part) (b : Next)
    → (b >>= λ k. (next_part target op k.1 >>= λ m. (next_part target op m.1 >>= λ n. cond (are_none n.1) (Some (gathered (a ∷ k.0 ∷ m.0 ∷ n.0 ∷ []))) None)))
    ≡ option_map gathered (before a (b >>= λ k. before k.0 (parts_in target op 2 k.1)))
second-then target op a None = refl
second-then target op a (Some k) = third-then target op a k.0 (next_part target op k.1)

first-then : (target : List ℕ → Option ℕ) (op : Op) (a : Next)
    → (a >>= λ j. (next_part target op j.1 >>= λ k. (next_part target op k.1 >>= λ m. (next_part target op m.1 >>= λ n. cond (are_none n.1) (Some (gathered (j.0 ∷ k.0 ∷ m.0 ∷ n.0 ∷ []))) None))))
    ≡ option_map gathered (a >>= λ j. before j.0 (parts_in target op 3 j.1))
first-then target op None = refl
first-then target op (Some j) = second-then target op j.0 (next_part target op j.1)

-- four operands are four parts
pub four-parts : (target : List ℕ → Option ℕ) (op : Op) (texts : List (List ℕ)) → four_in target op texts ≡ option_map gathered (parts_in target op 4 texts)
unfolding four_in
four-parts target op texts = first-then target op (next_part target op texts)
