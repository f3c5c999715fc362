-- The text of a function with a printed instruction is read as a function with that instruction.
use Rattle.std.proofs.Common.{◌≡◌, ◌≢◌, inl, ℕ, zero, suc, ◌-◌, ◌<◌, ◌≤◌, ◌==◌, eqb, Bool, true, false, ◌||◌, not, cond, nat_lt, List, [], ◌∷◌, ◌++◌, append-nil, append_assoc, length, get_or, Option, Some, Ok, slice_get, codes, refl, sym, ◌∙◌, ap, subst, arith}
use Rattle.std.specs.List.{filter, list_all, list_any}
use Rattle.std.specs.Str.{IsAscii, bytes_eq}
use Rattle.std.specs.Str.Lines.{lines, strip_carriage_return}
use Rattle.std.proofs.lemmas.Bool.Decides.{nat_tests}
use Rattle.std.proofs.lemmas.Slice.Eq.{bytes_eq-Decides}
use Rattle.std.proofs.lemmas.Str.{IsAscii-append, IsUtf8-from_ascii}
use Rattle.outcomes.specs.Firsts.{◌>>=◌, all_of}
use Rattle.std.proofs.lemmas.Bool.{and_parts}
use Rattle.insn_table.specs.Classes.{is_target}
use Rattle.insn_spellings.specs.Spellings.{table_rows}
use Rattle.insn_spellings.specs.LegacyRows.{add_to_cltq, cmova_to_cmovnc, cmovne_to_cmovz, cmp_to_lea, mov_to_or, packss_to_pop, por_to_sar, set_rows, shl_to_test, xor_rows}
use Rattle.insn_spellings.specs.VexRows.{vand_to_vpbroadcast, vpcmp_to_vpmul, vpor_to_vzeroupper}
use Rattle.insn_table.specs.declared.insn.Function.{Function}
use Rattle.insn_table.specs.declared.insn.Insn.{Insn}
use Rattle.text_lines.specs.Bytes.{is_blank}
use Rattle.text_lines.proofs.Prefixes.{prefix-pass}
use Rattle.text_lines.proofs.TextItems.{items-only}
use Rattle.text_lines.proofs.TextLines.{lines-some}
use Rattle.text_lines.specs.Cutting.{first_line, items_of_text, line_of}
use Rattle.text_lines.specs.Lines.{AreLines, IsLabelled, IsLine, IsUncommented, Item, Label, Statement, is_visible}
use Rattle.text_lines.specs.Texts.{AreItems, is_long}
use Rattle.text_lines.specs.Words.{IsPadded, behind_prefix, is_solid, prefix_of, trim, trim_end}
use Rattle.text_parts.proofs.CutTexts.{cut-only}
use Rattle.att_statements.proofs.StatementTexts.{looked-up}
use Rattle.att_statements.specs.ReadingStatements.{four_in, insn_with, is_repeated_return, next_part, operands_of, shown_of, statement_of}
use Rattle.att_statements.specs.Statements.{IsInsnText, LeadsTo}
use Rattle.att_bodies.specs.Body.{IsTarget, ends_function, is_code, is_directive}
use Rattle.att_bodies.specs.Reading.{behind_body, closed_by, extent_of, inside_of, insns_of, read_extent, target_of}
use Rattle.att_reader.proofs.ClosedTexts.{function-closed}
use Rattle.att_reader.proofs.TextLaws.{text-function}
use Rattle.att_reader.specs.FunctionText.{IsFunctionText, IsLegible}
use Rattle.att_reader.proofs.ClosedTexts.{spelled-each}
use Rattle.att_reader.specs.Reading.{insns_of_text, told}
use Rattle.insn_text.specs.InsnText.{insn_text}
use Rattle.att_round_trip.specs.RoundTrip.{IsReadBack, return_behind}
use Rattle.att_round_trip.proofs.Parts.{is_text, last, last-push}
use Rattle.att_round_trip.proofs.Statements.{HasOperands, InsnAgain, IsPrinted, insn-again, insn-operands}
use Rattle.att_round_trip.proofs.Tokens.{all-weaker}

-- bytes

-- what each byte of a printed instruction is not
abbrev is_other : ℕ → ℕ → Bool
is_other x b = not (eqb b x)

text-parts : (b : ℕ) → is_text b ≡ true → (31 < b) × (b < 127) × (not (b == 35) ≡ true) × (not (b == 58) ≡ true)
unfolding is_text
text-parts b h =
    let one = and_parts (nat_lt 31 b) _ h in
    let two = and_parts (nat_lt b 127) _ one.1 in
    let three = and_parts (not (b == 35)) _ two.1 in
    (below 31 b one.0, below b 127 two.0, three.0, three.1)
  where
    below : (a b : ℕ) → nat_lt a b ≡ true → a < b
    below a b e = grind (arith, nat_tests)

text-other : (x : ℕ) → x < 32 → (b : ℕ) → is_text b ≡ true → is_other x b ≡ true
text-other x low b h = let parts = text-parts b h in other b x parts.0 low
  where
    other : (b x : ℕ) → 31 < b → x < 32 → not (eqb b x) ≡ true
    other b x more low = grind (arith, nat_tests)

text-visible : (b : ℕ) → is_text b ≡ true → is_visible b ≡ true
text-visible b h = visible (b == 35) (text-parts b h).2
  where
    visible : (t : Bool) → not t ≡ true → cond t false true ≡ true
    visible false e = refl
    visible true e = cc

text-colon : (b : ℕ) → is_text b ≡ true → is_other 58 b ≡ true
text-colon b h = (text-parts b h).3

text-ascii : (b : ℕ) → is_text b ≡ true → nat_lt b 128 ≡ true
text-ascii b h = below b (text-parts b h).1
  where
    below : (b : ℕ) → b < 127 → nat_lt b 128 ≡ true
    below b e = grind (arith, nat_tests)

ascii-from : (text : List ℕ) → list_all (λ b. nat_lt b 128) text ≡ true → IsAscii text
ascii-from [] h = λ i. omega arith
ascii-from (b ∷ bs) h =
    let parts = and_parts (nat_lt b 128) (list_all (λ b. nat_lt b 128) bs) h in
    ascii-cons (below b parts.0) (ascii-from bs parts.1)
  where
    below : (b : ℕ) → nat_lt b 128 ≡ true → b < 128
    below b e = grind (arith, nat_tests)

    ascii-cons : b < 128 → IsAscii bs → (i : ℕ) → get_or (b ∷ bs) i 0 < 128
    ascii-cons first later zero = first
    ascii-cons first later (suc i) = later i

-- a carriage return at the end

not_return : (text : List ℕ) (k : ℕ) → list_all (is_other 13) text ≡ true → eqb (get_or text k 0) 13 ≡ false
not_return [] k h = refl
not_return (b ∷ bs) zero h = none (eqb b 13) (and_parts (is_other 13 b) (list_all (is_other 13) bs) h).0
  where
    none : (t : Bool) → not t ≡ true → t ≡ false
    none false e = refl
    none true e = cc
not_return (b ∷ bs) (suc k) h = not_return bs k (and_parts (is_other 13 b) (list_all (is_other 13) bs) h).1

kept : (line : List ℕ) → list_all (is_other 13) line ≡ true → strip_carriage_return line ≡ line
kept line h = let e = not_return line (length line - 1) h in rw e refl

-- one line of a text, and the lines behind it
line-cut : (line rest : List ℕ) → list_all (is_other 10) line ≡ true → list_all (is_other 13) line ≡ true → lines (line ++ 10 ∷ rest) ≡ line ∷ lines rest
unfolding first_line
line-cut line rest feed return =
    let first : first_line (line ++ 10 ∷ rest) ≡ Some (line, rest) =
    ap (line_of (line ++ 10 ∷ rest)) (cut-only 10 line rest refl feed) ∙ ap (λ (l : List ℕ). Some (l, rest)) (kept line return) in
    (lines-some (line ++ 10 ∷ rest) line rest first).0

-- the three lines

function-lines : (t : List ℕ) → list_all is_text t ≡ true → lines (codes "f:\n" ++ t ++ codes "\nret\n") ≡ codes "f:" ∷ t ∷ codes "ret" ∷ []
function-lines t all =
    let none : lines [] ≡ [] = refl in
    line-cut (codes "f:") (t ++ codes "\nret\n") refl refl
    ∙ ap (λ (ls : List (List ℕ)). codes "f:" ∷ ls)
    (line-cut t (codes "ret\n") (all-weaker is_text (is_other 10) t (text-other 10 (omega arith)) all) (all-weaker is_text (is_other 13) t (text-other 13 (omega arith)) all)
    ∙ ap (λ (ls : List (List ℕ)). t ∷ ls) (line-cut (codes "ret") [] refl refl))

legible : (t : List ℕ) → IsPrinted t → IsLegible (codes "f:\n" ++ t ++ codes "\nret\n")
legible t p = record {
  utf8 = IsUtf8-from_ascii (codes "f:\n" ++ t ++ codes "\nret\n")
      (IsAscii-append (codes "f:\n" ++ t) (codes "\nret\n")
      (IsAscii-append (codes "f:\n") t (ascii-from (codes "f:\n") refl) (ascii-from t (all-weaker is_text (λ b. nat_lt b 128) t text-ascii p.bytes)))
      (ascii-from (codes "\nret\n") refl));
  short = ap (list_any is_long) (function-lines t p.bytes) ∙ ap (λ (x : Bool). x || (is_long (codes "ret") || false)) (few (length t) p.short);
}
  where
    few : (n : ℕ) → n ≤ 1000 → nat_lt 4096 n ≡ false
    few n le = grind (arith, nat_tests)

-- items

-- the items of the text
abbrev items : List ℕ → List Item
items t = Label (codes "f") 1 ∷ Statement t 2 ∷ Statement (codes "ret") 3 ∷ []

uncommented : (line : List ℕ) → list_all is_visible line ≡ true → IsUncommented line line
uncommented line clear = record { comment = []; spelled = sym (append-nil line); clear = clear; begins = inl refl }

at_end : (p : ℕ → Bool) (xs ys : List ℕ) (y : ℕ) → list_all p (xs ++ y ∷ ys) ≡ true → p y ≡ true
at_end p [] ys y h = (and_parts (p y) (list_all p ys) h).0
at_end p (x ∷ xs) ys y h = at_end p xs ys y (and_parts (p x) (list_all p (xs ++ y ∷ ys)) h).1

unlabelled : (line : List ℕ) → list_all is_text line ≡ true → (name rest : List ℕ) → IsLabelled line name rest → ⊥
unlabelled line all name rest h =
    let here = subst (λ (t : List ℕ). list_all (is_other 58) t ≡ true) (h.spelled ∙ sym (append_assoc h.blanks name (58 ∷ rest))) (all-weaker is_text (is_other 58) line text-colon all) in
    let none : not true ≡ true = at_end (is_other 58) (h.blanks ++ name) rest 58 here in cc

statement-line : (k : ℕ) (line : List ℕ) → IsPrinted line → IsLine k line (Statement line k ∷ [])
statement-line k line p =
    let padded : IsPadded line line = record { left = []; right = []; spelled = sym (append-nil line); left_blank = refl; right_blank = refl; trimmed = p.trimmed } in (
      line,
      uncommented line (all-weaker is_text is_visible line text-visible p.bytes),
      (refl, record { padded = padded; some = λ e. some_first p.first p.behind (sym p.begins ∙ e); unlabelled = unlabelled line p.bytes }),
    )
  where
    some_first : (b : ℕ) (bs : List ℕ) → b ∷ bs ≡ [] → ⊥
    some_first b bs e = cc

return-printed : IsPrinted (codes "ret")
unfolding is_text
return-printed = record {
  bytes = refl;
  short = omega arith;
  trimmed = record { begins = λ b rest e. first b rest e; ends = λ front b e. end front b e };
  first = 114;
  behind = codes "et";
  begins = refl;
  letter = omega arith;
}
  where
    first : (b : ℕ) (rest : List ℕ) → codes "ret" ≡ b ∷ rest → is_blank b ≡ false
    first b rest e = let same : 114 ≡ b = cc in subst (λ (x : ℕ). is_blank x ≡ false) same refl

    end : (front : List ℕ) (b : ℕ) → codes "ret" ≡ front ++ b ∷ [] → is_blank b ≡ false
    end front b e = let same : 116 ≡ b = ap last e ∙ last-push front b in subst (λ (x : ℕ). is_blank x ≡ false) same refl

holds : (t : List ℕ) → IsPrinted t → AreItems (codes "f:\n" ++ t ++ codes "\nret\n") (items t)
holds t p =
    let label : IsLine 1 (codes "f:") (Label (codes "f") 1 ∷ []) =
    (codes "f:", uncommented (codes "f:") refl, (refl, ([], record { blanks = []; spelled = refl; blank = refl; named = (refl, refl) }, refl))) in
    let third : AreLines 3 (codes "ret" ∷ []) (Statement (codes "ret") 3 ∷ []) = (Statement (codes "ret") 3 ∷ [], [], statement-line 3 (codes "ret") return-printed, refl, refl) in
    let second : AreLines 2 (t ∷ codes "ret" ∷ []) (Statement t 2 ∷ Statement (codes "ret") 3 ∷ []) =
    (Statement t 2 ∷ [], Statement (codes "ret") 3 ∷ [], statement-line 2 t p, third, refl) in
    let all : AreLines 1 (codes "f:" ∷ t ∷ codes "ret" ∷ []) (items t) = (Label (codes "f") 1 ∷ [], Statement t 2 ∷ Statement (codes "ret") 3 ∷ [], label, second, refl) in
    subst (λ (ls : List (List ℕ)). AreLines 1 ls (items t)) (sym (function-lines t p.bytes)) all

-- the body

bytes_differ : (b c : ℕ) (bs cs : List ℕ) → b ≢ c → bytes_eq (b ∷ bs) (c ∷ cs) ≡ false
bytes_differ b c bs cs other = go (bytes_eq (b ∷ bs) (c ∷ cs)) refl
  where
    go : (t : Bool) → bytes_eq (b ∷ bs) (c ∷ cs) ≡ t → t ≡ false
    go false e = refl
    go true e = let same : b ∷ bs ≡ c ∷ cs = (bytes_eq-Decides (b ∷ bs) (c ∷ cs)).0 e in absurd (other (cc))

no-ending : (t : List ℕ) → IsPrinted t → ends_function (codes "f") t ≡ false
unfolding ends_function
no-ending t p =
    let letter = p.letter in
    let solid : is_solid p.first ≡ true = let e = clear p.first letter in rw e refl in
    let word : prefix_of is_solid t ≡ p.first ∷ prefix_of is_solid p.behind = ap (prefix_of is_solid) p.begins ∙ prefix-pass is_solid p.first p.behind solid in
    let other : p.first ≢ 46 = (λ e. omega arith) in
    let one : bytes_eq (prefix_of is_solid t) (codes ".cfi_endproc") ≡ false = ap (λ (w : List ℕ). bytes_eq w (codes ".cfi_endproc")) word ∙ bytes_differ p.first 46 (prefix_of is_solid p.behind) (codes "cfi_endproc") other in
    let two : bytes_eq (prefix_of is_solid t) (codes ".size") ≡ false = ap (λ (w : List ℕ). bytes_eq w (codes ".size")) word ∙ bytes_differ p.first 46 (prefix_of is_solid p.behind) (codes "size") other in
    rw (one, two) refl
  where
    clear : (b : ℕ) → 97 ≤ b → is_blank b ≡ false
    clear b le = grind (arith, nat_tests)

no-directive : (t : List ℕ) → IsPrinted t → is_directive t ≡ false
no-directive t p = ap is_directive p.begins ∙ other p.first p.letter
  where
    other : (b : ℕ) → 97 ≤ b → eqb b 46 ≡ false
    other b le = grind (arith, nat_tests)

body-extent : (t : List ℕ) → IsPrinted t → extent_of (codes "f") (items t) ≡ Some (items t, [])
unfolding extent_of inside_of behind_body
body-extent t p =
    let one = no-ending t p in
    let two = no-ending (codes "ret") return-printed in
    rw (one, two) refl

-- `ret` is read wherever labels lead
return-read : (target : List ℕ → Option ℕ) → statement_of target (codes "ret") 3 ≡ Ok return_behind
unfolding statement_of shown_of is_repeated_return operands_of insn_with four_in next_part prefix_of behind_prefix trim trim_end table_rows add_to_cltq cmova_to_cmovnc cmovne_to_cmovz cmp_to_lea mov_to_or packss_to_pop por_to_sar set_rows shl_to_test xor_rows vand_to_vpbroadcast vpcmp_to_vpmul vpor_to_vzeroupper
return-read target = refl

body-read : (t : List ℕ) (j : Insn) → IsPrinted t → statement_of (target_of (items t)) t 2 ≡ Ok j
    → insns_of (statement_of (target_of (items t))) (items t) ≡ Ok (j ∷ return_behind ∷ [])
unfolding all_of
body-read t j p read =
    let code = no-directive t p in
    let last_one = return-read (target_of (items t)) in
    rw (code, read, last_one) refl

-- the function that the text spells
text-spells : (t : List ℕ) (j : Insn) → IsPrinted t → statement_of (target_of (items t)) t 2 ≡ Ok j
    → IsFunctionText (codes "f:\n" ++ t ++ codes "\nret\n") (codes "f") (record { name = codes "f"; insns = j ∷ return_behind ∷ []; pool = [] })
unfolding insns_of_text
text-spells t j p read =
    let text = codes "f:\n" ++ t ++ codes "\nret\n" in
    let n = length (lines text) in
    let are : items_of_text text ≡ items t = sym (items-only text (items t) (holds t p)) in
    let spelled : insns_of_text text (codes "f") ≡ Ok (j ∷ return_behind ∷ []) =
    ap (λ (is : List Item). read_extent statement_of n (extent_of (codes "f") is)) are
    ∙ ap (read_extent statement_of n) (body-extent t p)
    ∙ ap (λ r. r >>= closed_by n (items t) []) (body-read t j p read) in
    text-function text (codes "f") (record { name = codes "f"; insns = j ∷ return_behind ∷ []; pool = [] }) (legible t p) (ap told spelled) refl refl

-- the instructions of a text

-- Each instruction of a function that a text spells, but a jump, is read back.
pub read-back : (text name : List ℕ) (f : Function) (k : ℕ) (i : Insn) → IsFunctionText text name f → slice_get f.insns k ≡ Some i → list_any is_target i.args ≡ false → IsReadBack i
read-back text name f k i h there none =
    let table = (function-closed name h.items f.insns h.function).each k i there in
    let body = h.function.body in
    let ops : HasOperands i = spelled-each (IsInsnText (IsTarget body)) (λ x. list_any is_target x.args ≡ false → HasOperands x)
    (λ x line j is clear. insn-operands (IsTarget body) x line j is clear) (filter is_code body) f.insns h.function.read k i there none in
    let t = insn_text i in
    let target = target_of (items t) in
    let a : InsnAgain (LeadsTo target) i 2 = insn-again (LeadsTo target) i ops.operands 2 table ops.args ops.few ops.written in
    record { again = a.again; same = a.same; second = a.on; reads = text-spells t a.again a.printed ((looked-up target).only t 2 a.again a.read) }
