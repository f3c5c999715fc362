-- Printed operands are read back.
use Rattle.std.proofs.Common.{◌≡◌, ◌≢◌, inl, inr, ℕ, zero, suc, ◌+◌, ◌-◌, ◌/◌, ◌%◌, ◌^◌, ◌<◌, ◌≤◌, ◌==◌, eqb, Bool, true, false, ◌&&◌, ◌||◌, if◌then◌else◌, not, nat_lt, ℤ, pos, negsuc, List, [], ◌∷◌, ◌++◌, Option, Some, None, slice_get, unwrap_or, codes, decimal, cond, refl, sym, ap, subst, append_assoc, arith}
use Rattle.std.specs.List.{list_all}
use Rattle.std.proofs.lemmas.Bool.Decides.{Decides-eqb, nat_tests}
use Rattle.std.proofs.lemmas.Fmt.{decimal_digit}
use Rattle.std.proofs.lemmas.List.{append-nil}
use Rattle.std.proofs.lemmas.Bool.{and_parts}
use Rattle.insn_table.specs.declared.insn.Operand.{Operand}
use Rattle.insn_table.specs.declared.insn.Operand.TheVariants.{Reg, Mem, Vec}
use Rattle.insn_table.specs.Table.{IsScale}
use Rattle.text_lines.specs.Bytes.{is_blank}
use Rattle.text_lines.specs.Words.{IsPadded, IsTrimmed}
use Rattle.register_names.proofs.NameTexts.{all-names}
use Rattle.register_names.specs.Names.{IsRegisterText, register_names}
use Rattle.std.specs.Char.{digit_value}
use Rattle.text_parts.proofs.NumberTexts.{tests-only}
use Rattle.text_parts.proofs.Printed.{decimal-is}
use Rattle.att_statements.specs.Statements.{word_of}
use Rattle.att_statements.specs.Operands.{AreAddressParts, AreParts, Immediate, IsAddressRegister, IsBase, IsBetween, IsDisplacement, IsIndex, IsMemoryText, IsOperandText, IsScaleText, IsUncut, Plain, integer, open_after, open_behind}
use Rattle.insn_text.specs.InsnText.{displacement_text, memory_text, number_text, operand_text, register_text, scaled_text}
use Rattle.insn_text.specs.ReadBack.{NumberReadBack}

-- plain texts: no blanks, commas and parentheses

is_plain : ℕ → Bool
is_plain b = not (is_blank b) && (not (b == 44) && (not (b == 40) && not (b == 41)))

plain-at : (before after : List ℕ) (b : ℕ) → list_all is_plain (before ++ b ∷ after) ≡ true → is_plain b ≡ true
plain-at [] after b h = (and_parts _ _ h).0
plain-at (a ∷ before) after b h = plain-at before after b (and_parts _ _ h).1

solid : (b : ℕ) → is_plain b ≡ true → is_blank b ≡ false
unfolding is_plain
solid b h = not_false (is_blank b) (and_parts _ _ h).0
  where
    not_false : (x : Bool) → not x ≡ true → x ≡ false
    not_false true h = cc
    not_false false h = refl

trimmed : (text : List ℕ) → list_all is_plain text ≡ true → IsTrimmed text
trimmed text h = record {
  begins = λ b rest e. solid b (plain-at [] rest b (subst (λ (t : List ℕ). list_all is_plain t ≡ true) e h));
  ends = λ front b e. solid b (plain-at front [] b (subst (λ (t : List ℕ). list_all is_plain t ≡ true) e h));
}

padded : (text : List ℕ) → list_all is_plain text ≡ true → IsPadded text text
padded text h = record { left = []; right = []; spelled = sym (append-nil text); left_blank = refl; right_blank = refl; trimmed = trimmed text h }

uncut : (n : ℕ) (text : List ℕ) → list_all is_plain text ≡ true → IsUncut n text
unfolding is_plain
uncut n text h before after e =
    let comma = plain-at before after 44 (subst (λ (t : List ℕ). list_all is_plain t ≡ true) e h) in cc

open-same : (n b : ℕ) → is_plain b ≡ true → open_behind n b ≡ n
unfolding is_plain
open-same n b h =
    let parts = and_parts _ _ (and_parts _ _ (and_parts _ _ h).1).1 in
    opens (b == 40) (b == 41) n parts.0 parts.1
  where
    opens : (x y : Bool) (n : ℕ) → not x ≡ true → not y ≡ true → cond x (n + 1) (cond y (n - 1) n) ≡ n
    opens false false n h k = refl
    opens true y n h k = cc
    opens false true n h k = cc

open-kept : (n : ℕ) (text : List ℕ) → list_all is_plain text ≡ true → open_after n text ≡ n
open-kept n [] h = refl
open-kept n (b ∷ text) h =
    let parts = and_parts (is_plain b) (list_all is_plain text) h in
    subst (λ (m : ℕ). open_after m text ≡ n) (sym (open-same n b parts.0)) (open-kept n text parts.1)

-- registers

names_plain : (w n : ℕ) (name : List ℕ) → slice_get (register_names w) n ≡ Some name → list_all is_plain name ≡ true
unfolding is_plain
names_plain w n name there = all-names (λ (t : List ℕ). list_all is_plain t) w n name (record { all64 = refl; all32 = refl; all16 = refl; all8 = refl; all128 = refl; all256 = refl }) there

-- register n of 64 bits is one of the sixteen
abbrev IsNamed : ℕ → Type 0
IsNamed n = (name : List ℕ) × (slice_get (register_names 64) n ≡ Some name)

register-read : (w n : ℕ) (name : List ℕ) → slice_get (register_names w) n ≡ Some name → IsRegisterText (register_text w n) n w
unfolding register_text
register-read w n name there = record {
  name = name;
  known = there;
  spelled = ap (λ (o : Option (List ℕ)). codes "%" ++ unwrap_or o []) there;
}

register-plain : (n : ℕ) → IsNamed n → list_all is_plain (register_text 64 n) ≡ true
unfolding register_text is_plain
register-plain n named =
    subst (λ (o : Option (List ℕ)). list_all is_plain (codes "%" ++ unwrap_or o []) ≡ true) (sym named.1) (names_plain 64 n named.0 named.1)

address-register : (n : ℕ) → IsNamed n → IsAddressRegister (register_text 64 n) n
address-register n named = (register_text 64 n, padded (register_text 64 n) (register-plain n named), register-read 64 n named.0 named.1)

named-address : (part : List ℕ) (n : ℕ) → IsAddressRegister part n → IsNamed n
named-address part n is = (is.2.name, is.2.known)

-- scales

scale-digit : (s : ℕ) → IsScale s → decimal s ≡ (48 + s) ∷ []
scale-digit s is = decimal_digit s (small s is)
  where
    small : (s : ℕ) → IsScale s → s < 10
    small s (inl e) = omega arith
    small s (inr (inl e)) = omega arith
    small s (inr (inr (inl e))) = omega arith
    small s (inr (inr (inr e))) = omega arith

scale-plain : (s : ℕ) → IsScale s → list_all is_plain ((48 + s) ∷ []) ≡ true
unfolding is_plain
scale-plain s (inl e) = subst (λ (x : ℕ). list_all is_plain ((48 + x) ∷ []) ≡ true) (sym e) refl
scale-plain s (inr (inl e)) = subst (λ (x : ℕ). list_all is_plain ((48 + x) ∷ []) ≡ true) (sym e) refl
scale-plain s (inr (inr (inl e))) = subst (λ (x : ℕ). list_all is_plain ((48 + x) ∷ []) ≡ true) (sym e) refl
scale-plain s (inr (inr (inr e))) = subst (λ (x : ℕ). list_all is_plain ((48 + x) ∷ []) ≡ true) (sym e) refl

scale-read : (s : ℕ) → IsScale s → IsScaleText (decimal s) s
scale-read s is =
    subst (λ (t : List ℕ). IsScaleText t s) (sym (scale-digit s is)) (48 + s, padded ((48 + s) ∷ []) (scale-plain s is), refl, is)

scale-plain_text : (s : ℕ) → IsScale s → list_all is_plain (decimal s) ≡ true
scale-plain_text s is = subst (λ (t : List ℕ). list_all is_plain t ≡ true) (sym (scale-digit s is)) (scale-plain s is)

-- displacements

-- from -2^31 to 2^31 - 1
abbrev IsBounded : ℤ → Type 0
IsBounded (pos n) = n ≤ 2 ^ 31 - 1
IsBounded (negsuc n) = suc n ≤ 2 ^ 31

bounded-by : (negative : Bool) (n : ℕ) → IsBetween (2 ^ 31) (2 ^ 31 - 1) negative n → IsBounded (integer negative n)
bounded-by false n h = h
bounded-by true zero h = omega arith
bounded-by true (suc n) h = h

bounded : (text : List ℕ) (disp : ℤ) → IsDisplacement text disp → IsBounded disp
bounded text disp (inl none) = subst IsBounded (sym none.1) (lit)
  where
    lit : IsBounded (pos 0)
    lit = omega arith
bounded text disp (inr some) = subst IsBounded (sym some.4) (bounded-by some.0 some.1 some.3)

not_zero : (n : ℕ) → (suc n == 0) ≡ false
not_zero n = grind (arith, nat_tests)

displacement-positive : (n : ℕ) → displacement_text (pos (suc n)) ≡ decimal (suc n)
displacement-positive n = rw (not_zero n) refl

displacement-read : (disp : ℤ) → IsBounded disp → IsDisplacement (displacement_text disp) disp
displacement-read (pos zero) h = inl (refl, refl)
displacement-read (pos (suc n)) h =
    subst (λ (t : List ℕ). IsDisplacement t (pos (suc n))) (sym (displacement-positive n))
    (inr (false, suc n, inl (decimal-is (suc n) (omega arith)), h, refl))
displacement-read (negsuc n) h = inr (true, suc n, (decimal (suc n), refl, inl (decimal-is (suc n) (omega arith))), h, refl)

other_byte : (b : ℕ) (x : Bool) → ((x ≡ true) → b ≡ 40) → nat_lt (digit_value b) 10 ≡ true → not x ≡ true
other_byte b true is h =
    let here : nat_lt (digit_value 40) 10 ≡ true = subst (λ (y : ℕ). nat_lt (digit_value y) 10 ≡ true) (is refl) h in absurd (cc)
other_byte b false is h = refl

digits-unparenthesised : (ds : List ℕ) → list_all (λ b. nat_lt (digit_value b) 10) ds ≡ true → list_all (λ b. not (b == 40)) ds ≡ true
digits-unparenthesised [] h = refl
digits-unparenthesised (b ∷ ds) h =
    let parts = and_parts (nat_lt (digit_value b) 10) (list_all (λ b. nat_lt (digit_value b) 10) ds) h in
    rw (other_byte b (b == 40) (λ e. (Decides-eqb b 40).0 e) parts.0) (digits-unparenthesised ds parts.1)

unparenthesised : (disp : ℤ) → IsBounded disp → list_all (λ b. not (b == 40)) (displacement_text disp) ≡ true
unparenthesised (pos zero) h = refl
unparenthesised (pos (suc n)) h =
    subst (λ (t : List ℕ). list_all (λ b. not (b == 40)) t ≡ true) (sym (displacement-positive n))
    (digits-unparenthesised (decimal (suc n)) (tests-only 10 (decimal (suc n)) (decimal-is (suc n) (omega arith)).digits.1))
unparenthesised (negsuc n) h = digits-unparenthesised (decimal (suc n)) (tests-only 10 (decimal (suc n)) (decimal-is (suc n) (omega arith)).digits.1)

-- memory

-- the registers and the scale of an operand that was read
data Addressed (base index : Option ℕ) (scale : ℕ) : Type 0 where
  Direct : (n : ℕ) → IsNamed n → base ≡ Some n → index ≡ None → scale ≡ 1 → Addressed base index scale
  Indexed : (n : ℕ) → IsNamed n → n ≢ 4 → base ≡ None → index ≡ Some n → IsScale scale → Addressed base index scale
  Based : (m n : ℕ) → IsNamed m → IsNamed n → n ≢ 4 → base ≡ Some m → index ≡ Some n → IsScale scale → Addressed base index scale

by-base : (part other : List ℕ) (base index : Option ℕ) (scale : ℕ) → IsBase part base → IsIndex other index → IsScale scale → Addressed base index scale
by-base part other base index scale (inl none) i s = Indexed i.0 (named-address other i.0 i.1) i.2 none.1 i.3 s
by-base part other base index scale (inr some) i s =
    Based some.0 i.0 (named-address part some.0 some.1) (named-address other i.0 i.1) i.2 some.2 i.3 s

addressed : (parts : List (List ℕ)) (base index : Option ℕ) (scale : ℕ) → AreAddressParts parts base index scale → Addressed base index scale
addressed [] base index scale h = absurd h
addressed (b ∷ []) base index scale h = Direct h.0.0 (named-address b h.0.0 h.0.1) h.0.2 h.1 h.2
addressed (b ∷ i ∷ []) base index scale h = by-base b i base index scale h.0 h.1 (inl h.2)
addressed (b ∷ i ∷ s ∷ []) base index scale h = by-base b i base index scale h.0 h.1 h.2.3
addressed (b ∷ i ∷ s ∷ more ∷ rest) base index scale h = absurd h

direct-read : (n : ℕ) (disp : ℤ) → IsNamed n → IsBounded disp → IsMemoryText (memory_text (Some n) None 1 disp) (Mem (Some n) None 1 disp)
unfolding memory_text
direct-read n disp named within = record {
  before = displacement_text disp;
  inside = register_text 64 n;
  parts = register_text 64 n ∷ [];
  disp = disp;
  base = Some n;
  index = None;
  scale = 1;
  spelled = record { spelled = simp append_assoc; first = unparenthesised disp within };
  displaced = displacement-read disp within;
  cut = (refl, uncut 0 (register_text 64 n) (register-plain n named));
  address = ((n, address-register n named, refl), refl, refl);
  means = refl;
}

-- an index and a scale, behind a base or nothing
scaled-parts : (first : List ℕ) (n scale : ℕ) → list_all is_plain first ≡ true → IsNamed n → IsScale scale
    → AreParts 0 (first ++ 44 ∷ (register_text 64 n ++ 44 ∷ decimal scale)) (first ∷ register_text 64 n ∷ decimal scale ∷ [])
scaled-parts first n scale plain named is = (
  register_text 64 n ++ 44 ∷ decimal scale,
  refl,
  uncut 0 first plain,
  open-kept 0 first plain,
  (
    decimal scale,
    refl,
    uncut 0 (register_text 64 n) (register-plain n named),
    open-kept 0 (register_text 64 n) (register-plain n named),
    (refl, uncut 0 (decimal scale) (scale-plain_text scale is)),
  ),
)

indexed-read : (n scale : ℕ) (disp : ℤ) → IsNamed n → n ≢ 4 → IsScale scale → IsBounded disp
    → IsMemoryText (memory_text None (Some n) scale disp) (Mem None (Some n) scale disp)
unfolding memory_text scaled_text
indexed-read n scale disp named other is within = record {
  before = displacement_text disp;
  inside = 44 ∷ (register_text 64 n ++ 44 ∷ decimal scale);
  parts = [] ∷ register_text 64 n ∷ decimal scale ∷ [];
  disp = disp;
  base = None;
  index = Some n;
  scale = scale;
  spelled = record { spelled = simp append_assoc; first = unparenthesised disp within };
  displaced = displacement-read disp within;
  cut = scaled-parts [] n scale refl named is;
  address = (inl (padded [] refl, refl), (n, address-register n named, other, refl), scale-read scale is);
  means = refl;
}

based-read : (m n scale : ℕ) (disp : ℤ) → IsNamed m → IsNamed n → n ≢ 4 → IsScale scale → IsBounded disp
    → IsMemoryText (memory_text (Some m) (Some n) scale disp) (Mem (Some m) (Some n) scale disp)
unfolding memory_text scaled_text
based-read m n scale disp first named other is within = record {
  before = displacement_text disp;
  inside = register_text 64 m ++ 44 ∷ (register_text 64 n ++ 44 ∷ decimal scale);
  parts = register_text 64 m ∷ register_text 64 n ∷ decimal scale ∷ [];
  disp = disp;
  base = Some m;
  index = Some n;
  scale = scale;
  spelled = record { spelled = simp append_assoc; first = unparenthesised disp within };
  displaced = displacement-read disp within;
  cut = scaled-parts (register_text 64 m) n scale (register-plain m first) named is;
  address = (inr (m, address-register m first, refl), (n, address-register n named, other, refl), scale-read scale is);
  means = refl;
}

memory-read : (base index : Option ℕ) (scale : ℕ) (disp : ℤ) → Addressed base index scale → IsBounded disp
    → IsMemoryText (memory_text base index scale disp) (Mem base index scale disp)
memory-read base index scale disp (Direct n named b i s) within =
    subst (λ (x : Option ℕ). IsMemoryText (memory_text x index scale disp) (Mem x index scale disp)) (sym b)
    (subst (λ (x : Option ℕ). IsMemoryText (memory_text (Some n) x scale disp) (Mem (Some n) x scale disp)) (sym i)
    (subst (λ (x : ℕ). IsMemoryText (memory_text (Some n) None x disp) (Mem (Some n) None x disp)) (sym s) (direct-read n disp named within)))
memory-read base index scale disp (Indexed n named other b i s) within =
    subst (λ (x : Option ℕ). IsMemoryText (memory_text x index scale disp) (Mem x index scale disp)) (sym b)
    (subst (λ (x : Option ℕ). IsMemoryText (memory_text None x scale disp) (Mem None x scale disp)) (sym i) (indexed-read n scale disp named other s within))
memory-read base index scale disp (Based m n first named other b i s) within =
    subst (λ (x : Option ℕ). IsMemoryText (memory_text x index scale disp) (Mem x index scale disp)) (sym b)
    (subst (λ (x : Option ℕ). IsMemoryText (memory_text (Some m) x scale disp) (Mem (Some m) x scale disp)) (sym i)
    (based-read m n scale disp first named other s within))

-- the text of a register's operand
register-back : (w n v : ℕ) (vector : Bool) → (eqb v 128 || eqb v 256) ≡ vector → IsRegisterText (register_text v n) n v
    → IsOperandText (operand_text w (if vector then Vec n v else Reg n v)) (Plain (if vector then Vec n v else Reg n v))
unfolding operand_text
register-back w n v true e read = inl (n, v, read, rw e refl)
register-back w n v false e read = inl (n, v, read, rw e refl)

-- Whatever text a register or memory was read from, what is printed of it is read as it again.
pub plain-read : (w : ℕ) (text : List ℕ) (operand : Operand) → IsOperandText text (Plain operand) → IsOperandText (operand_text w operand) (Plain operand)
unfolding operand_text
plain-read w text operand (inl reg) =
    subst (λ (o : Operand). IsOperandText (operand_text w o) (Plain o)) (sym reg.3)
    (register-back w reg.0 reg.1 (eqb reg.1 128 || eqb reg.1 256) refl (register-read reg.1 reg.0 reg.2.name reg.2.known))
plain-read w text operand (inr mem) =
    subst (λ (o : Operand). IsOperandText (operand_text w o) (Plain o)) (sym mem.means)
    (inr (memory-read mem.base mem.index mem.scale mem.disp (addressed mem.parts mem.base mem.index mem.scale mem.address) (bounded mem.before mem.disp mem.displaced)))

-- numbers

-- the text of a number modulo m is read as a number that is the same modulo m
abbrev ReadAs : ℕ → ℕ → Type 0
ReadAs m v =
    (negative : Bool) × (amount : ℕ) × IsOperandText (number_text m v) (Immediate negative amount) × (word_of negative amount % m ≡ v % m)

number-by : (m v : ℕ) (x : Bool) → nat_lt (v % m) (m / 2) ≡ x → v % m < 2 ^ 64 → (m / 2 ≤ v % m → m - v % m < 2 ^ 64)
    → (v % m < m / 2 → word_of false (v % m) % m ≡ v % m) → (m / 2 ≤ v % m → word_of true (m - v % m) % m ≡ v % m) → ReadAs m v
unfolding number_text
number-by m v true is low high here there =
    (false, v % m, rw is (decimal (v % m), refl, inl (decimal-is (v % m) low)), here (grind (arith, nat_tests)))
number-by m v false is low high here there =
    (true, m - v % m, rw is (codes "-" ++ decimal (m - v % m), refl, (decimal (m - v % m), refl, inl (decimal-is (m - v % m) (high (grind (arith, nat_tests)))))), there (grind (arith, nat_tests)))

word-below : (n : ℕ) → n < 2 ^ 64 → word_of false n ≡ n
word-below n lt = grind (arith, nat_tests)

word-above : (n : ℕ) → 0 < n → n ≤ 2 ^ 63 → word_of true n ≡ 2 ^ 64 - n
word-above n some le = grind (arith, nat_tests)

number-8 : (v : ℕ) → v < 2 ^ 64 → ReadAs (2 ^ 8) v
number-8 v lt =
    number-by (2 ^ 8) v (nat_lt (v % 2 ^ 8) (2 ^ 8 / 2)) refl (omega arith) (λ high. omega arith)
    (λ low. rw (word-below (v % 2 ^ 8) (omega arith)) (omega arith))
    (λ high. rw (word-above (2 ^ 8 - v % 2 ^ 8) (omega arith) (omega arith)) (omega arith))

number-16 : (v : ℕ) → v < 2 ^ 64 → ReadAs (2 ^ 16) v
number-16 v lt =
    number-by (2 ^ 16) v (nat_lt (v % 2 ^ 16) (2 ^ 16 / 2)) refl (omega arith) (λ high. omega arith)
    (λ low. rw (word-below (v % 2 ^ 16) (omega arith)) (omega arith))
    (λ high. rw (word-above (2 ^ 16 - v % 2 ^ 16) (omega arith) (omega arith)) (omega arith))

number-32 : (v : ℕ) → v < 2 ^ 64 → ReadAs (2 ^ 32) v
number-32 v lt =
    number-by (2 ^ 32) v (nat_lt (v % 2 ^ 32) (2 ^ 32 / 2)) refl (omega arith) (λ high. omega arith)
    (λ low. rw (word-below (v % 2 ^ 32) (omega arith)) (omega arith))
    (λ high. rw (word-above (2 ^ 32 - v % 2 ^ 32) (omega arith) (omega arith)) (omega arith))

number-64 : (v : ℕ) → v < 2 ^ 64 → ReadAs (2 ^ 64) v
number-64 v lt =
    number-by (2 ^ 64) v (nat_lt (v % 2 ^ 64) (2 ^ 64 / 2)) refl (omega arith) (λ high. omega arith)
    (λ low. rw (word-below (v % 2 ^ 64) (omega arith)) (omega arith))
    (λ high. rw (word-above (2 ^ 64 - v % 2 ^ 64) (omega arith) (omega arith)) (omega arith))

number-of : (a b c : Bool) (v : ℕ) → v < 2 ^ 64 → ReadAs (cond a (2 ^ 8) (cond b (2 ^ 16) (cond c (2 ^ 32) (2 ^ 64)))) v
number-of true b c v lt = number-8 v lt
number-of false true c v lt = number-16 v lt
number-of false false true v lt = number-32 v lt
number-of false false false v lt = number-64 v lt

-- What is printed of an immediate is read as a number that is the same modulo 2^w.
pub number-read : (w v : ℕ) → v < 2 ^ 64 → NumberReadBack w v
unfolding operand_text
number-read w v lt =
    let it = number-of (eqb w 8) (eqb w 16) (eqb w 32) v lt in record { negative = it.0; amount = it.1; read = it.2; same = it.3 }
