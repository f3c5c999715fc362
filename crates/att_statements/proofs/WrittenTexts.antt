-- What the code reads of operands, against what operands' texts say.
use Rattle.std.proofs.Common.{◌≡◌, ℕ, ◌^◌, ◌<◌, ◌⊎◌, inl, inr, min, Bool, true, false, ◌||◌, eqb, ltb, leb, not, ℤ, List, [], ◌∷◌, ◌++◌, Option, Some, None, is_some, codes, refl, sym, ap, ◌∙◌, subst, arith, append-nil}
use Rattle.std.specs.List.{list_all}
use Rattle.std.specs.Str.{bytes_eq}
use Rattle.std.proofs.lemmas.Bool.{and_parts, and_from, or_cases, eqb-true, ne_eqb, lt-leb, both_ways}
use Rattle.std.proofs.lemmas.Option.{same_Some}
use Rattle.std.proofs.lemmas.Slice.Eq.{bytes_eq-Decides}
use Rattle.insn_table.specs.declared.insn.Operand.{Operand}
use Rattle.text_lines.specs.Bytes.{is_name_start, is_name_byte}
use Rattle.text_lines.specs.Words.{IsName, is_name, IsPadded, prefix_of, behind_prefix, trim}
use Rattle.text_lines.proofs.Prefixes.{prefix-whole}
use Rattle.text_lines.proofs.Trimming.{trim-known, trim-only, prefix-only}
use Rattle.text_lines.proofs.LineItems.{name-known, name-only, name-bytes}
use Rattle.std.specs.Char.{digit_value}
use Rattle.std.proofs.lemmas.Str.Parse.{digit_from_value}
use Rattle.register_names.specs.Names.{IsRegisterName}
use Rattle.register_names.proofs.NameTexts.{all-names}
use Rattle.text_parts.specs.Cuts.{after_byte}
use Rattle.text_parts.specs.Numbers.{IsAmount, capped, decimal_of, digits_of}
use Rattle.text_parts.proofs.CutTexts.{lacks}
use Rattle.text_parts.proofs.NumberTexts.{decimal-known, decimal-only, digits-known, digits-only, first_digit, tests-only}
use Rattle.text_parts.proofs.Options.{after_byte-known, chosen_then, map_some, never-some}
use Rattle.att_statements.specs.Operands.{Written, Immediate, Label, Plain, IsNumber, IsDisplacement, IsMemoryText, IsSymbol, IsPoolText, IsLooseNumber, IsLabelText, IsOperandText, IsOperandPart, IsPoolPart}
use Rattle.att_statements.specs.ReadingOperands.{number_of, operand_named, memory_of, parenthesised, is_offset, is_symbol, is_relative, is_pool_part, label_of, dollar_by, bare_by, written_by, written_of}
use Rattle.att_statements.proofs.NumberTexts.{heads, signed_number-known, signed_number-only}
use Rattle.att_statements.proofs.RegisterTexts.{operand-known, operand-only}
use Rattle.att_statements.proofs.PartTexts.{tails, parenthesised-known, parenthesised-only, parenthesised-none}
use Rattle.att_statements.proofs.MemoryTexts.{memory-known, memory-only}

-- symbols

-- what has a value is read
some-known : (o : Option ℕ) → is_some (capped o) ≡ true → (n : ℕ) × (o ≡ Some n)
some-known None h = cc
some-known (Some n) h = (n, refl)

sign-known : (b : ℕ) → (eqb b 43 || eqb b 45) ≡ true → (b ≡ 43) ⊎ (b ≡ 45)
sign-known b h = elim (or_cases (eqb b 43) (eqb b 45) h) [ inl e ↦ inl (eqb-true b 43 e) | inr e ↦ inr (eqb-true b 45 e) ]

sign-only : (b : ℕ) → (b ≡ 43) ⊎ (b ≡ 45) → (eqb b 43 || eqb b 45) ≡ true
sign-only b (inl e) = rw e refl
sign-only b (inr e) = rw e refl

no_name-byte : (b : ℕ) → (b ≡ 43) ⊎ (b ≡ 45) → is_name_byte b ≡ false
no_name-byte b (inl e) = rw e refl
no_name-byte b (inr e) = rw e refl

symbol-parts : (text name behind : List ℕ) → text ≡ name ++ behind → is_name name ≡ true → is_offset behind ≡ true → IsSymbol text
symbol-parts text name [] is named offset = inl (subst IsName (sym (is ∙ append-nil name)) (name-known name named))
symbol-parts text name (sign ∷ digits) is named offset =
    let p = and_parts (eqb sign 43 || eqb sign 45) (is_some (capped (decimal_of digits))) offset in
    let m = some-known (decimal_of digits) p.1 in
    inr (name, sign, digits, m.0, is, name-known name named, sign-known sign p.0, decimal-known digits m.0 m.1)

symbol-known : (text : List ℕ) → is_symbol text ≡ true → IsSymbol text
unfolding is_symbol
symbol-known text h =
    let p = and_parts (is_name (prefix_of is_name_byte text)) (is_offset (behind_prefix is_name_byte text)) h in
    symbol-parts text (prefix_of is_name_byte text) (behind_prefix is_name_byte text) (sym (prefix-whole is_name_byte text)) p.0 p.1

symbol-from : (text name behind : List ℕ) → text ≡ name ++ behind → IsName name → ((b : ℕ) (more : List ℕ) → behind ≡ b ∷ more → is_name_byte b ≡ false)
    → is_offset behind ≡ true → is_symbol text ≡ true
unfolding is_symbol
symbol-from text name behind is named stops offset =
    let cut = prefix-only is_name_byte name behind (name-bytes name named) stops in
    let front : prefix_of is_name_byte text ≡ name = ap (prefix_of is_name_byte) is ∙ cut.0 in
    let rest : behind_prefix is_name_byte text ≡ behind = ap (behind_prefix is_name_byte) is ∙ cut.1 in
    let first = name-only name named in
    rw (front, rest, first) offset

symbol-only : (text : List ℕ) → IsSymbol text → is_symbol text ≡ true
symbol-only text (inl named) = symbol-from text text [] (sym (append-nil text)) named (λ b more e. cc) refl
symbol-only text (inr (name, sign, digits, n, is, named, signed, d)) =
    let some = decimal-only digits n d in
    let is_sign = sign-only sign signed in
    symbol-from text name (sign ∷ digits) is named
    (λ b more e. subst (λ (x : ℕ). is_name_byte x ≡ false) (heads sign b digits more e) (no_name-byte sign signed))
    (rw (is_sign, some) refl)

relative-known : (text : List ℕ) (r : Option (List ℕ × List ℕ)) → parenthesised text ≡ r → is_relative r ≡ true → IsPoolText text
relative-known text None is h = cc
relative-known text (Some parts) is h =
    let p = and_parts (is_symbol parts.0) (bytes_eq (trim parts.1) (codes "%rip")) h in
    record {
      symbol = parts.0;
      inside = parts.1;
      spelled = parenthesised-known text parts is;
      named = symbol-known parts.0 p.0;
      relative = subst (IsPadded parts.1) ((bytes_eq-Decides (trim parts.1) (codes "%rip")).0 p.1) (trim-known parts.1);
    }

-- a symbol and `(%rip)` that is read stands there
pub pool-known : (part : List ℕ) → is_pool_part part ≡ true → IsPoolPart part
unfolding is_pool_part
pool-known part h = (trim part, trim-known part, relative-known (trim part) (parenthesised (trim part)) refl h)

-- one that stands there is read
pub pool-only : (part : List ℕ) → IsPoolPart part → is_pool_part part ≡ true
unfolding is_pool_part
pool-only part (text, padded, p) =
    let trimmed = trim-only part text padded in
    let cut = parenthesised-only text p.symbol p.inside p.spelled in
    let named = symbol-only p.symbol p.named in
    let relative : bytes_eq (trim p.inside) (codes "%rip") ≡ true = (bytes_eq-Decides (trim p.inside) (codes "%rip")).1 (trim-only p.inside (codes "%rip") p.relative) in
    rw (trimmed, cut, named, relative) refl

-- operands without parentheses

-- texts of bytes that pass a test which this byte doesn't pass
lacks-from : (p : ℕ → Bool) (byte : ℕ) (text : List ℕ) → p byte ≡ false → list_all p text ≡ true → lacks byte text ≡ true
lacks-from p byte [] none all = refl
lacks-from p byte (b ∷ bs) none all =
    let both = and_parts (p b) (list_all p bs) all in
    and_from (not (eqb b byte)) (lacks byte bs)
    (elim (eqb b byte) as (λ t. eqb b byte ≡ t → not t ≡ true)
    [ true ↦ λ e. absurd (both_ways (p b) (ap p (eqb-true b byte e) ∙ none) both.0) | false ↦ λ e. refl ] refl)
    (lacks-from p byte bs none both.1)

name-bare : (text : List ℕ) → IsName text → lacks 40 text ≡ true
name-bare text named = lacks-from is_name_byte 40 text refl (name-bytes text named)

amount-bare : (text : List ℕ) (n : ℕ) → IsAmount text n → lacks 40 text ≡ true
amount-bare text n (inl d) = lacks-from (λ b. ltb (digit_value b) 10) 40 text refl (tests-only 10 text d.digits.1)
amount-bare text n (inr d) = rw d.spelled (lacks-from (λ b. ltb (digit_value b) 16) 40 d.behind refl (tests-only 16 d.behind d.digits.1))

number-bare : (text : List ℕ) (negative : Bool) (n : ℕ) → IsNumber text negative n → lacks 40 text ≡ true
number-bare text false n a = amount-bare text n a
number-bare text true n (amount, is, a) = rw is (amount-bare amount n a)

register-bare : (w n : ℕ) (name : List ℕ) → IsRegisterName name w n → lacks 40 name ≡ true
register-bare w n name there = all-names (lacks 40) w n name (record { all64 = refl; all32 = refl; all16 = refl; all8 = refl; all128 = refl; all256 = refl }) there

-- labels

-- a name that isn't read as an immediate is a label
label-known : (text : List ℕ) (w : Written) → label_of text ≡ Some w → ((number : List ℕ) → text ≡ codes "$" ++ number → IsLooseNumber number → ⊥) → IsOperandText text w
label-known text w h other =
    let p = chosen_then (is_name text) (Some (Label text)) w h in
    subst (IsOperandText text) (same_Some (Label text) w p.1) (refl, record { named = name-known text p.0; other = other })

-- an amount above 2^64 is read as that
abbrev pub capped_written : Written → Written
capped_written (Immediate negative n) = Immediate negative (min n (2 ^ 64))
capped_written (Label name) = Label name
capped_written (Plain operand) = Plain operand

-- what is read of a text, up to what is capped_written
abbrev pub IsRead : List ℕ → Written → Type 0
IsRead text v = (w : Written) × IsOperandText text w × (v ≡ capped_written w)

-- a label is read as it stands
label-read : (text : List ℕ) (v : Written) → label_of text ≡ Some v → (w : Written) × (label_of text ≡ Some w) × (v ≡ capped_written w)
label-read text v h = let p = chosen_then (is_name text) (Some (Label text)) v h in (Label text, rw p.0 refl, sym (same_Some (Label text) v p.1))

-- what is read neither as a number nor as digits is no numeral
no_numeral : (number : List ℕ) → number_of number ≡ None → is_some (capped (digits_of 10 number)) ≡ false → IsLooseNumber number → ⊥
no_numeral number none leads (inl d) = let some = digits-only 10 number d in let e = rw some at leads in cc
no_numeral number none leads (inr (n, d)) = let some = signed_number-only number false n (inr d) in cc

no_dollar : (text number : List ℕ) → after_byte 36 text ≡ None → text ≡ 36 ∷ number → ⊥
unfolding after_byte
no_dollar text number none is = let e = rw is at none in cc

no_percent : (text name : List ℕ) → text ≡ 37 ∷ name → IsName text → ⊥
no_percent text name is named = let e = rw is at named in let start = e.0 in cc

no_minus-in : (text amount : List ℕ) → text ≡ 36 ∷ 45 ∷ amount → IsName text → ⊥
no_minus-in text amount is named = let e = rw is at named in let next = e.1 in cc

unsigned-numeral : (number text : List ℕ) (negative : Bool) (n : ℕ) → IsNumber number negative n → text ≡ 36 ∷ number → IsName text → IsLooseNumber number
unsigned-numeral number text false n (inl d) spelled named = inl d.digits
unsigned-numeral number text false n (inr d) spelled named = inr (n, d)
unsigned-numeral number text true n (amount, is, a) spelled named = absurd (no_minus-in text amount (spelled ∙ ap (λ (xs : List ℕ). 36 ∷ xs) is) named)

-- a number behind `$` in a name has no sign
numeral-from : (number text : List ℕ) (found : Bool × ℕ) → number_of number ≡ Some found → text ≡ 36 ∷ number → IsName text → IsLooseNumber number
numeral-from number text found h spelled named = let p = signed_number-known number found h in unsigned-numeral number text found.0 p.0 p.1 spelled named

dollar-known : (number text : List ℕ) (found : Option (Bool × ℕ)) (leading : Bool) (v : Written) → text ≡ 36 ∷ number → number_of number ≡ found
    → is_some (capped (digits_of 10 number)) ≡ leading → dollar_by found leading text ≡ Some v → IsRead text v
dollar-known number text (Some found) leading v spelled is leads h =
    let read = signed_number-known number found is in (
      Immediate found.0 read.0,
      (number, spelled, read.1),
      sym (same_Some (Immediate found.0 found.1) v h) ∙ ap (λ (m : ℕ). Immediate found.0 m) read.2,
    )
dollar-known number text None true v spelled is leads h = cc
dollar-known number text None false v spelled is leads h =
    let other = λ (again : List ℕ) (same : text ≡ 36 ∷ again) (numeral : IsLooseNumber again).
    no_numeral number is leads (subst IsLooseNumber (sym (tails 36 36 number again (sym spelled ∙ same))) numeral) in
    let p = label-read text v h in
    (p.0, label-known text p.0 p.1 other, p.2)

bare-known : (text : List ℕ) (number name : Option (List ℕ)) (v : Written) → after_byte 36 text ≡ number → after_byte 37 text ≡ name
    → bare_by number name text ≡ Some v → IsRead text v
bare-known text (Some number) name v dollar percent h =
    dollar-known number text (number_of number) (is_some (capped (digits_of 10 number))) v (after_byte-known 36 text number dollar) refl refl h
bare-known text None (Some name) v dollar percent h =
    let p = map_some (operand_named name) (λ o. Plain o) v h in
    let r = operand-known name p.0 p.1 in
    (Plain p.0, inl (r.0, r.1, record { name = name; known = r.2; spelled = after_byte-known 37 text name percent }, r.3), sym p.2)
bare-known text None None v dollar percent h =
    let p = label-read text v h in
    (p.0, label-known text p.0 p.1 (λ number is numeral. no_dollar text number dollar is), p.2)

by-known : (text : List ℕ) (r : Option (List ℕ × List ℕ)) (v : Written) → parenthesised text ≡ r → written_by r text ≡ Some v → IsRead text v
by-known text None v is h = bare-known text (after_byte 36 text) (after_byte 37 text) v refl refl h
by-known text (Some parts) v is h =
    let p = map_some (memory_of parts.0 parts.1) (λ o. Plain o) v h in
    (Plain p.0, inr (memory-known text parts.0 parts.1 p.0 (parenthesised-known text parts is) p.1), sym p.2)

-- what is read of a text is what it says
pub written-known : (text : List ℕ) (v : Written) → written_of text ≡ Some v → IsRead text v
unfolding written_of
written-known text v h = by-known text (parenthesised text) v refl h

label-only : (text : List ℕ) (number : Option (List ℕ)) → IsLabelText text → after_byte 36 text ≡ number → bare_by number (after_byte 37 text) text ≡ Some (Label text)
label-only text (Some number) l dollar =
    let spelled = after_byte-known 36 text number dollar in
    let no_number = never-some (number_of number) (λ found h. l.other number spelled (numeral-from number text found h spelled l.named)) in
    let no_digits = never-some (digits_of 10 number) (λ m h. l.other number spelled (inl (digits-known 10 number m h).0)) in
    let named = name-only text l.named in
    rw (no_number, no_digits, named) refl
label-only text None l dollar =
    let none = never-some (after_byte 37 text) (λ name h. no_percent text name (after_byte-known 37 text name h) l.named) in
    let named = name-only text l.named in
    rw (none, named) refl

-- what a text says is read
pub written-only : (text : List ℕ) (w : Written) → IsOperandText text w → written_of text ≡ Some (capped_written w)
unfolding written_of after_byte
written-only text (Immediate negative n) (number, is, a) =
    let none = parenthesised-none (36 ∷ number) (number-bare number negative n a) in
    let some = signed_number-only number negative n a in
    rw (is, none, some) refl
written-only text (Label name) (is, l) =
    let none = parenthesised-none name (name-bare name l.named) in
    rw (is, none) (label-only name (after_byte 36 name) l refl)
written-only text (Plain o) (inl (n, w, r, is)) =
    let none = parenthesised-none (37 ∷ r.name) (register-bare w n r.name r.known) in
    let some = operand-only w r.name n r.known in
    rw (r.spelled, none, some, is) refl
written-only text (Plain o) (inr m) =
    let cut = parenthesised-only text m.before m.inside m.spelled in
    let some = memory-only text o m in
    rw (cut, some) refl

-- symbols are no operands

digit-no_start : (b : ℕ) → digit_value b < 10 → is_name_start b ≡ true → ⊥
digit-no_start b low start =
    let range = digit_from_value b low in
    let upper : leb 65 b ≡ false = lt-leb 65 b (omega (arith, range.1)) in
    let lower : leb 97 b ≡ false = lt-leb 97 b (omega (arith, range.1)) in
    let line : eqb b 95 ≡ false = ne_eqb b 95 (λ e. omega (arith, range.1)) in
    let dot : eqb b 46 ≡ false = ne_eqb b 46 (λ e. omega (arith, range.0)) in
    let dollar : eqb b 36 ≡ false = ne_eqb b 36 (λ e. omega (arith, range.0)) in
    let e = rw (upper, lower, line, dot, dollar) at start in cc

-- a symbol begins as a name does
name-start : (text : List ℕ) → IsName text → (b : ℕ) × (bs : List ℕ) × (text ≡ b ∷ bs) × (is_name_start b ≡ true)
name-start [] named = absurd named
name-start (b ∷ bs) named = (b, bs, refl, named.0)

symbol-start : (text : List ℕ) → IsSymbol text → (b : ℕ) × (bs : List ℕ) × (text ≡ b ∷ bs) × (is_name_start b ≡ true)
symbol-start text (inl named) = name-start text named
symbol-start text (inr (name, sign, digits, n, is, named, signed, d)) =
    let p = name-start name named in
    (p.0, p.1 ++ sign ∷ digits, is ∙ ap (λ (xs : List ℕ). xs ++ sign ∷ digits) p.2, p.3)

amount-no_start : (b : ℕ) (bs text : List ℕ) (n : ℕ) → text ≡ b ∷ bs → is_name_start b ≡ true → IsAmount text n → ⊥
amount-no_start b bs text n is start (inl d) = digit-no_start b (first_digit 10 b bs text is d.digits.1) start
amount-no_start b bs text n is start (inr d) =
    let zero : b ≡ 48 = heads b 48 bs (120 ∷ d.behind) (sym is ∙ d.spelled) in let e = rw zero at start in cc

number-no_start : (b : ℕ) (bs text : List ℕ) (negative : Bool) (n : ℕ) → text ≡ b ∷ bs → is_name_start b ≡ true → IsNumber text negative n → ⊥
number-no_start b bs text false n is start a = amount-no_start b bs text n is start a
number-no_start b bs text true n is start (amount, spelled, a) =
    let minus : b ≡ 45 = heads b 45 bs amount (sym is ∙ spelled) in let e = rw minus at start in cc

symbol-no_displacement : (text : List ℕ) (disp : ℤ) → IsSymbol text → IsDisplacement text disp → ⊥
symbol-no_displacement text disp named (inl none) = let p = symbol-start text named in let e = sym p.2 ∙ none.0 in cc
symbol-no_displacement text disp named (inr (negative, n, number, between, means)) =
    let p = symbol-start text named in number-no_start p.0 p.1 text negative n p.2 p.3 number

pool-no_plain : (text : List ℕ) (o : Operand) → IsPoolText text → IsMemoryText text o → ⊥
pool-no_plain text o p m =
    let same = sym (parenthesised-only text p.symbol p.inside p.spelled) ∙ parenthesised-only text m.before m.inside m.spelled in
    let first : p.symbol ≡ m.before = ap (λ (x : List ℕ × List ℕ). x.0) (same_Some (p.symbol, p.inside) (m.before, m.inside) same) in
    symbol-no_displacement m.before m.disp (subst IsSymbol first p.named) m.displaced

pool-lacks : (text : List ℕ) → IsPoolText text → lacks 40 text ≡ true → ⊥
pool-lacks text p none =
    let cut = parenthesised-only text p.symbol p.inside p.spelled in
    let no = parenthesised-none text none in cc

pool-no_operand : (text : List ℕ) (w : Written) → IsPoolText text → IsOperandText text w → ⊥
pool-no_operand text (Immediate negative n) p (number, is, a) = pool-lacks text p (rw is (number-bare number negative n a))
pool-no_operand text (Label name) p (is, l) = pool-lacks text p (rw is (name-bare name l.named))
pool-no_operand text (Plain o) p (inl (n, w, r, is)) = pool-lacks text p (rw r.spelled (register-bare w n r.name r.known))
pool-no_operand text (Plain o) p (inr m) = pool-no_plain text o p m

-- a symbol and `(%rip)` says nothing
pub pool-says_nothing : (part : List ℕ) (w : Written) → IsPoolPart part → IsOperandPart part w → ⊥
pool-says_nothing part w (text, padded, p) (other, around, says) =
    let same : text ≡ other = sym (trim-only part text padded) ∙ trim-only part other around in
    pool-no_operand other w (subst IsPoolText same p) says
