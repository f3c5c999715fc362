-- The text of an instruction is a statement that is read as it again.
use Rattle.std.proofs.Common.{◌≡◌, ◌≢◌, ◌⊎◌, inl, inr, ℕ, ◌-◌, ◌%◌, ◌^◌, ◌<◌, ◌≤◌, Bool, true, false, ◌&&◌, ◌||◌, not, cond, nat_le, nat_lt, List, [], ◌∷◌, ◌++◌, append-nil, length, length-append, map, replicate, Some, codes, refl, sym, ◌∙◌, ap, subst, arith}
use Rattle.std.specs.List.{AllByRecursion, AllZip, list_all, list_any}
use Rattle.std.specs.Str.{bytes_eq}
use Rattle.std.proofs.lemmas.Bool.Decides.{nat_tests}
use Rattle.std.proofs.lemmas.Slice.Eq.{bytes_eq-Decides}
use Rattle.insn_ops.specs.declared.op.Op.{Op}
use Rattle.std.proofs.lemmas.Bool.{and_parts}
use Rattle.insn_spellings.proofs.Rows.{named-row, passed_at}
use Rattle.insn_table.proofs.TableInsns.{judged-ok}
use Rattle.insn_table.specs.Classes.{is_nothing, is_target}
use Rattle.insn_table.specs.Forms.{chosen, completed, counted_once, found_form, insn_of, is_lone, is_shift}
use Rattle.insn_spellings.specs.Rows.{Row, named}
use Rattle.insn_spellings.specs.Spellings.{table_rows}
use Rattle.insn_spellings.specs.LegacyRows.{add_to_cltq, cmova_to_cmovnc, cmovne_to_cmovz, cmp_to_lea, mov_to_or, packss_to_pop, por_to_sar, set_rows, shl_to_test, xor_rows}
use Rattle.insn_spellings.specs.VexRows.{vand_to_vpbroadcast, vpcmp_to_vpmul, vpor_to_vzeroupper}
use Rattle.insn_table.specs.Table.{IsTableInsn}
use Rattle.insn_table.specs.declared.insn.Insn.{Insn}
use Rattle.insn_table.specs.declared.insn.Operand.{Operand}
use Rattle.insn_table.specs.declared.insn.Operand.TheVariants.{Imm, Nothing, Target}
use Rattle.insn_spellings.specs.declared.shape.Shape.{Shape}
use Rattle.text_lines.proofs.Trimming.{word-only}
use Rattle.text_lines.specs.Bytes.{is_blank}
use Rattle.text_lines.specs.Words.{HasWord, IsTrimmed, is_solid}
use Rattle.att_statements.specs.Operands.{Immediate, IsOperandPart, IsOperandText, Label, Plain, Written}
use Rattle.att_statements.specs.Statements.{AreWritten, HasParts, IsInsnText, IsMade, IsRepeatedReturn, StandFor, StandsFor, four, word_of}
use Rattle.insn_mnemonics.proofs.Naming.{names-shape}
use Rattle.insn_text.specs.InsnText.{insn_text, operand_text, operands_text}
use Rattle.insn_mnemonics.specs.Mnemonics.{mnemonic}
use Rattle.att_round_trip.specs.RoundTrip.{IsSameInsn, IsSameOperand}
use Rattle.att_round_trip.proofs.Fitting.{AreSameKinds, fits-again, four-zip, lone-by, with_operands}
use Rattle.att_round_trip.proofs.Parts.{blanked, blanked-cut, blanked-last, blanked-short, blanked-some, blanked-text, blanked-written, commas, is_text, last, last-behind, last-passes, last-push, operands-are, operands-printed, some-operand, token-text}
use Rattle.att_round_trip.proofs.Tokens.{IsToken, all-both, all-weaker, is_token}
use Rattle.att_round_trip.proofs.Written.{IsSameKind, IsWritten, is_single, operands-again, same-kind, token-solid}

-- mnemonics

-- begins with a letter
abbrev begins_word : List ℕ → Bool
begins_word [] = false
begins_word (b ∷ bs) = nat_le 97 b

unfoldable is_plain_row : Row → Bool
is_plain_row row = list_all is_token row.0 && (nat_le (length row.0) 20 && (begins_word row.0 && not (bytes_eq row.0 (codes "rep"))))

rows_plain : list_all is_plain_row table_rows ≡ true
unfolding table_rows add_to_cltq cmova_to_cmovnc cmovne_to_cmovz cmp_to_lea mov_to_or packss_to_pop por_to_sar set_rows shl_to_test xor_rows vand_to_vpbroadcast vpcmp_to_vpmul vpor_to_vzeroupper is_plain_row is_token
rows_plain = refl

-- a mnemonic of the table
pub record IsMnemonic (text : List ℕ) : Type 0 where
  pub bytes : list_all is_token text ≡ true
  pub short : length text ≤ 20
  pub begins : begins_word text ≡ true
  pub other : text ≢ codes "rep"

table-mnemonic : (m : List ℕ) (shape : Shape) → named table_rows m ≡ Some shape → IsMnemonic m
unfolding is_plain_row
table-mnemonic m shape h =
    let row = named-row m shape h in
    let plain = passed_at is_plain_row table_rows row.index (m, shape) rows_plain row.there in
    let one = and_parts (list_all is_token m) _ plain in
    let two = and_parts (nat_le (length m) 20) _ one.1 in
    let three = and_parts (begins_word m) _ two.1 in
    record { bytes = one.0; short = le (length m) two.0; begins = three.0; other = λ e. differs (bytes_eq m (codes "rep")) three.1 ((bytes_eq-Decides m (codes "rep")).1 e) }
  where
    le : (k : ℕ) → nat_le k 20 ≡ true → k ≤ 20
    le k h = grind (arith, nat_tests)

    differs : (b : Bool) → not b ≡ true → b ≡ true → ⊥
    differs true h k = cc
    differs false h k = cc

word-some : (text : List ℕ) → begins_word text ≡ true → 0 < length text
word-some [] h = cc
word-some (b ∷ bs) h = omega arith

solid-byte : (b : ℕ) → is_token b ≡ true → is_solid b ≡ true
solid-byte b h = let e = token-solid b h in rw e refl

-- printed instructions

-- what is printed of an instruction: the mnemonic and the operands' texts
printed-insn : (i : Insn) (os : List Operand) → i.args ≡ four os → AllByRecursion IsWritten os
    → insn_text i ≡ mnemonic i.op i.vex i.w ++ commas (blanked (map (operand_text i.w) os))
unfolding insn_text
printed-insn i os args all =
    ap (λ (xs : List Operand). mnemonic i.op i.vex i.w ++ operands_text (codes " ") i.w xs) args
    ∙ ap (λ (t : List ℕ). mnemonic i.op i.vex i.w ++ t) (operands-printed i.w (4 - length os) os all)

has-parts : (m : List ℕ) (ts : List (List ℕ)) → IsMnemonic m → AllByRecursion IsToken ts → HasParts (m ++ commas (blanked ts)) m (blanked ts)
has-parts m ts known all =
    let rest = commas (blanked ts) in
    let word : HasWord (m ++ rest) m rest = record { spelled = refl; solid = all-weaker is_token is_solid m solid-byte known.bytes; cut = λ b more e. blanked-cut ts b more e } in
    record {
      shown = m ++ rest;
      rest = rest;
      read = inr (not_repeated word, refl);
      word = word;
      operands = operands-are ts all;
    }
  where
    not_repeated : HasWord (m ++ commas (blanked ts)) m (commas (blanked ts)) → IsRepeatedReturn (m ++ commas (blanked ts)) → ⊥
    not_repeated word repeated =
        known.other (sym (word-only (m ++ commas (blanked ts)) m (commas (blanked ts)) word).0 ∙ (word-only (m ++ commas (blanked ts)) (codes "rep") repeated.0 repeated.1).0)

-- a printed instruction, as a line of a text has it
pub record IsPrinted (text : List ℕ) : Type 0 where
  pub bytes : list_all is_text text ≡ true
  pub short : length text ≤ 1000
  pub trimmed : IsTrimmed text
  pub first : ℕ
  pub behind : List ℕ
  pub begins : text ≡ first ∷ behind
  pub letter : 97 ≤ first

first-letter : (m rest : List ℕ) → begins_word m ≡ true → (first : ℕ) × (behind : List ℕ) × (m ++ rest ≡ first ∷ behind) × (97 ≤ first)
first-letter [] rest h = cc
first-letter (b ∷ bs) rest h = (b, bs ++ rest, refl, le b h)
  where
    le : (b : ℕ) → nat_le 97 b ≡ true → 97 ≤ b
    le b h = grind (arith, nat_tests)

last-token : (m : List ℕ) (ts : List (List ℕ)) → IsMnemonic m → AllByRecursion IsToken ts → is_token (last (m ++ commas (blanked ts))) ≡ true
last-token m [] known all =
    subst (λ (t : List ℕ). is_token (last t) ≡ true) (sym (append-nil m)) (last-passes is_token m (word-some m known.begins) known.bytes)
last-token m (t ∷ ts) known all =
    subst (λ (b : ℕ). is_token b ≡ true) (sym (last-behind m (commas (blanked (t ∷ ts))) (blanked-some t ts))) (blanked-last t ts all)

printed-text : (m : List ℕ) (ts : List (List ℕ)) → IsMnemonic m → AllByRecursion IsToken ts → length ts ≤ 4 → IsPrinted (m ++ commas (blanked ts))
printed-text m ts known all few =
    let first = first-letter m (commas (blanked ts)) known.begins in
    record {
      bytes = all-both is_text m (commas (blanked ts)) (all-weaker is_token is_text m token-text known.bytes) (blanked-text ts all);
      short = omega (arith, known.short, length-append m (commas (blanked ts)), blanked-short ts all);
      trimmed = record {
        begins = λ b rest e. solid-first b first.0 rest first.1 (sym e ∙ first.2) first.3;
        ends = λ front b e.
            let is : last (m ++ commas (blanked ts)) ≡ b = ap last e ∙ last-push front b in
            token-solid b (subst (λ (x : ℕ). is_token x ≡ true) is (last-token m ts known all));
      };
      first = first.0;
      behind = first.1;
      begins = first.2;
      letter = first.3;
    }
  where
    solid-first : (b c : ℕ) (xs ys : List ℕ) → b ∷ xs ≡ c ∷ ys → 97 ≤ c → is_blank b ≡ false
    solid-first b c xs ys e le =
        let same : c ≡ b = cc in
        let lower : 97 ≤ b = omega arith in
        grind (arith, nat_tests)

-- an instruction that is read of what is printed of this one
pub record InsnAgain (L : List ℕ → ℕ → Type 0) (i : Insn) (line : ℕ) : Type 0 where
  pub again : Insn
  pub same : IsSameInsn i again
  pub on : again.line ≡ line
  pub read : IsInsnText L (insn_text i) line again
  pub printed : IsPrinted (insn_text i)

length-texts : (w : ℕ) (os : List Operand) → length (map (operand_text w) os) ≡ length os
length-texts w [] = refl
length-texts w (o ∷ os) = omega (arith, length-texts w os)

length-blanked : (ts : List (List ℕ)) → length (blanked ts) ≡ length ts
length-blanked [] = refl
length-blanked (t ∷ ts) = refl

-- an instruction of the table whose operands are as texts have them
pub insn-again : (L : List ℕ → ℕ → Type 0) (i : Insn) (os : List Operand) (line : ℕ) → IsTableInsn i → i.args ≡ four os → length os ≤ 4
    → AllByRecursion IsWritten os → InsnAgain L i line
insn-again L i os line table args few all =
    let a = operands-again L i.w os all in
    let ts = map (operand_text i.w) os in
    let printed = names-shape i table in
    let shape = printed.0 in
    let row = printed.1 in
    let accepted = printed.2 in
    let known = table-mnemonic (mnemonic i.op i.vex i.w) shape row in
    let text = printed-insn i os args all in
    let count : length ts ≤ 4 = omega (arith, length-texts i.w os) in
    let made : IsMade L (insn_text i) shape a.written a.operands = record {
      mnemonic = mnemonic i.op i.vex i.w;
      parts = blanked ts;
      has = subst (λ (t : List ℕ). HasParts t (mnemonic i.op i.vex i.w) (blanked ts)) (sym text) (has-parts (mnemonic i.op i.vex i.w) ts known a.tokens);
      row = row;
      few = omega (arith, length-blanked ts);
      spelled = blanked-written ts a.written a.spelled;
      stand = a.stand;
    } in
    let kinds : AreSameKinds i.w i.args (four a.operands) = subst (λ (xs : List Operand). AreSameKinds i.w xs (four a.operands)) (sym args) (four-zip (IsSameKind i.w) os a.operands (same-kind i.w Nothing) a.count a.kinds) in
    record {
      again = with_operands i (four a.operands) line;
      same = record {
        op = refl;
        w = refl;
        vex = refl;
        args = subst (λ (xs : List Operand). AllZip (IsSameOperand i.w) xs (four a.operands)) (sym args) (four-zip (IsSameOperand i.w) os a.operands refl a.count a.same);
      };
      on = refl;
      read = record {
        shape = shape;
        written = a.written;
        operands = a.operands;
        made = made;
        within = a.within shape.op;
        placed = a.placed;
        fits = fits-again shape i (four a.operands) line accepted kinds;
      };
      printed = subst IsPrinted (sym text) (printed-text (mnemonic i.op i.vex i.w) ts known a.tokens count);
    }

-- the operands of an instruction that was read

-- as a text has it, or the target of a jump
abbrev IsRead : Operand → Type 0
IsRead o = IsWritten o ⊎ ((place : ℕ) × (o ≡ Target place))

word-small : (negative : Bool) (n : ℕ) → word_of negative n < 2 ^ 64
word-small false n = go (nat_lt n (2 ^ 64)) refl
  where
    go : (t : Bool) → nat_lt n (2 ^ 64) ≡ t → cond t n 0 < 2 ^ 64
    go true e = grind (arith, nat_tests)
    go false e = omega arith
word-small true n = go (nat_le n (2 ^ 63))
  where
    go : (t : Bool) → cond t ((2 ^ 64 - n) % 2 ^ 64) 0 < 2 ^ 64
    go true = omega arith
    go false = omega arith

operand-read : (L : List ℕ → ℕ → Type 0) (part : List ℕ) (w : Written) (o : Operand) → IsOperandPart part w → StandsFor L w o → IsRead o
operand-read L part (Immediate negative n) o spelled stands = inl (inl (word_of negative n, word-small negative n, stands))
operand-read L part (Label name) o spelled (inl place) = inr (place.0, place.2)
operand-read L part (Label name) o spelled (inr lost) = inr (0, lost.1)
operand-read L part (Plain operand) o spelled stands =
    inl (inr (spelled.0, subst (λ (x : Operand). IsOperandText spelled.0 (Plain x)) (sym stands) spelled.2))

operands-read : (L : List ℕ → ℕ → Type 0) (parts : List (List ℕ)) (ws : List Written) (os : List Operand) → AreWritten parts ws → StandFor L ws os
    → AllByRecursion IsRead os × (length os ≡ length parts)
operands-read L [] [] [] spelled stand = (tt, refl)
operands-read L [] [] (o ∷ os) spelled stand = absurd stand
operands-read L [] (w ∷ ws) os spelled stand = absurd spelled
operands-read L (part ∷ parts) [] os spelled stand = absurd spelled
operands-read L (part ∷ parts) (w ∷ ws) [] spelled stand = absurd stand
operands-read L (part ∷ parts) (w ∷ ws) (o ∷ os) spelled stand =
    let more = operands-read L parts ws os spelled.1 stand.1 in
    ((operand-read L part w o spelled.0 stand.0, more.0), omega (arith, more.1))

read-something : (o : Operand) → IsRead o → is_nothing o ≡ false
read-something o (inl written) = some-operand o written
read-something o (inr target) = subst (λ (x : Operand). is_nothing x ≡ false) (sym target.1) refl

-- operands that are complete
record AreComplete (args : List Operand) : Type 0 where
  operands : List Operand
  are : args ≡ four operands
  few : length operands ≤ 4
  read : AllByRecursion IsRead operands

one-complete : (t : Bool) (a : Operand) → IsRead a → AreComplete (cond t (counted_once (four (a ∷ []))) (four (a ∷ [])))
one-complete true a read = record { operands = Imm 1 ∷ a ∷ []; are = refl; few = omega arith; read = (inl (inl (1, omega arith, refl)), (read, tt)) }
one-complete false a read = record { operands = a ∷ []; are = refl; few = omega arith; read = (read, tt) }

complete : (op : Op) (os : List Operand) → length os ≤ 4 → AllByRecursion IsRead os → AreComplete (completed op (four os))
complete op [] few all = go (is_shift op)
  where
    go : (t : Bool) → AreComplete (cond (t && false) (counted_once (four [])) (four []))
    go true = record { operands = []; are = refl; few = omega arith; read = tt }
    go false = record { operands = []; are = refl; few = omega arith; read = tt }
complete op (a ∷ []) few all = one-complete (is_shift op && is_lone (four (a ∷ []))) a all.0
complete op (a ∷ b ∷ os) few all =
    let others : is_lone (four (a ∷ b ∷ os)) ≡ false = lone-by a b (os ++ replicate (4 - length (a ∷ b ∷ os)) Nothing) ∙ and-false (is_single a) (is_nothing b) (read-something b all.1.0) in
    let same : completed op (four (a ∷ b ∷ os)) ≡ four (a ∷ b ∷ os) =
    ap (λ (t : Bool). cond (is_shift op && t) (counted_once (four (a ∷ b ∷ os))) (four (a ∷ b ∷ os))) others ∙ no_count (is_shift op) in
    record { operands = a ∷ b ∷ os; are = same; few = few; read = all }
  where
    and-false : (x y : Bool) → y ≡ false → (x && y) ≡ false
    and-false true y h = h
    and-false false y h = refl

    no_count : (t : Bool) → cond (t && false) (counted_once (four (a ∷ b ∷ os))) (four (a ∷ b ∷ os)) ≡ four (a ∷ b ∷ os)
    no_count true = refl
    no_count false = refl

-- the operands of an instruction that has no target
pub record HasOperands (i : Insn) : Type 0 where
  pub operands : List Operand
  pub args : i.args ≡ four operands
  pub few : length operands ≤ 4
  pub written : AllByRecursion IsWritten operands

no-target : (o : Operand) → IsRead o → is_target o ≡ false → IsWritten o
no-target o (inl written) h = written
no-target o (inr target) h = let e : is_target (Target target.0) ≡ false = subst (λ (x : Operand). is_target x ≡ false) target.1 h in absurd (cc)

no-targets : (k : ℕ) (os : List Operand) → AllByRecursion IsRead os → list_any is_target (os ++ replicate k Nothing) ≡ false → AllByRecursion IsWritten os
no-targets k [] all h = tt
no-targets k (o ∷ os) all h =
    let parts = none_of (is_target o) (list_any is_target (os ++ replicate k Nothing)) h in
    (no-target o all.0 parts.0, no-targets k os all.1 parts.1)
  where
    none_of : (x y : Bool) → (x || y) ≡ false → (x ≡ false) × (y ≡ false)
    none_of true y h = cc
    none_of false y h = (refl, h)

-- an instruction that a text spells
pub insn-operands : (L : List ℕ → ℕ → Type 0) (text : List ℕ) (line : ℕ) (i : Insn) → IsInsnText L text line i → list_any is_target i.args ≡ false → HasOperands i
insn-operands L text line i h none =
    let made = insn_of h.shape (four h.operands) line in
    let same : made ≡ i = (judged-ok (found_form h.shape made) made i h.fits).0 in
    let read = operands-read L h.made.parts h.written h.operands h.made.spelled h.made.stand in
    let whole = complete (chosen h.shape (four h.operands)).op h.operands (omega (arith, read.1, h.made.few)) read.0 in
    let args : i.args ≡ four whole.operands = sym (ap (λ (x : Insn). x.args) same) ∙ whole.are in
    record {
      operands = whole.operands;
      args = args;
      few = whole.few;
      written = no-targets (4 - length whole.operands) whole.operands whole.read (subst (λ (xs : List Operand). list_any is_target xs ≡ false) args none);
    }
