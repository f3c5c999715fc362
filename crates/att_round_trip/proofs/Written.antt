-- Operands as texts have them: how each is printed and read again.
use Rattle.std.proofs.Common.{◌≡◌, ◌⊎◌, inl, inr, ℕ, zero, suc, ◌-◌, ◌^◌, ◌<◌, Bool, true, false, ◌&&◌, ◌||◌, if◌then◌else◌, eqb, cond, nat_lt, ℤ, pos, List, [], ◌∷◌, ◌++◌, append-nil, length, map, Option, Some, refl, sym, subst, arith}
use Rattle.std.specs.List.{AllByRecursion, AllZip, list_all}
use Rattle.std.proofs.lemmas.Bool.Decides.{nat_tests}
use Rattle.insn_ops.specs.declared.op.Op.{Op}
use Rattle.std.proofs.lemmas.Bool.{and_parts}
use Rattle.insn_table.specs.Classes.{is_immediate, is_memory, is_within, number_fits, takes_kind}
use Rattle.insn_table.specs.Forms.{is_vector, register_width, vector_register_width}
use Rattle.insn_table.specs.Table.{IsScale}
use Rattle.insn_table.specs.declared.classes.Class.{Class}
use Rattle.insn_table.specs.declared.classes.Class.TheVariants as class
use Rattle.insn_table.specs.declared.insn.Operand.{Operand}
use Rattle.insn_table.specs.declared.insn.Operand.TheVariants.{Reg, Imm, Mem, Vec}
use Rattle.text_lines.specs.Bytes.{is_blank}
use Rattle.text_lines.specs.Words.{IsPadded, IsTrimmed}
use Rattle.att_statements.specs.Operands.{AreAddressParts, Immediate, IsAddressRegister, IsBase, IsBetween, IsDisplacement, IsIndex, IsOperandText, Plain, Written, integer}
use Rattle.att_statements.specs.Statements.{AreWritten, HasPlace, IsWithin, StandFor, StandsFor, is_movabs, word_of}
use Rattle.insn_text.proofs.ReadBack.{plain-read}
use Rattle.insn_text.specs.InsnText.{operand_text, register_text}
use Rattle.att_round_trip.specs.RoundTrip.{IsSameOperand}
use Rattle.att_round_trip.proofs.Numbers.{IsVectorWidth, NumberAgain, number-again}
use Rattle.att_round_trip.proofs.Tokens.{IsNamed, IsSmall, IsToken, is_token, memory-token, printed-register, simple-text}

-- an immediate, or a register or memory that a text says
abbrev pub IsWritten : Operand → Type 0
IsWritten o = ((v : ℕ) × (v < 2 ^ 64) × (o ≡ Imm v)) ⊎ ((text : List ℕ) × IsOperandText text (Plain o))

-- tokens have no blanks

-- a token's byte is no blank
pub token-solid : (b : ℕ) → is_token b ≡ true → is_blank b ≡ false
unfolding is_token
token-solid b h = solid b (and_parts (nat_lt 32 b) _ h).0
  where
    solid : (b : ℕ) → nat_lt 32 b ≡ true → is_blank b ≡ false
    solid b e = grind (arith, nat_tests)

last-token : (front : List ℕ) (b : ℕ) → list_all is_token (front ++ b ∷ []) ≡ true → is_token b ≡ true
last-token [] b h = (and_parts (is_token b) true h).0
last-token (x ∷ front) b h = last-token front b (and_parts (is_token x) _ h).1

token-trimmed : (text : List ℕ) → list_all is_token text ≡ true → IsTrimmed text
token-trimmed text h = record {
  begins = λ b rest e. token-solid b (and_parts (is_token b) (list_all is_token rest) (subst (λ (t : List ℕ). list_all is_token t ≡ true) e h)).0;
  ends = λ front b e. token-solid b (last-token front b (subst (λ (t : List ℕ). list_all is_token t ≡ true) e h));
}

token-padded : (text : List ℕ) → IsToken text → IsPadded text text
token-padded text t =
    record { left = []; right = []; spelled = sym (append-nil text); left_blank = refl; right_blank = refl; trimmed = token-trimmed text t.bytes }

-- kinds of operands

-- numbers of this class have the width of the form
abbrev pub IsOfWidth : ℕ → Class → Type 0
IsOfWidth w (class.Source u) = u ≡ w
IsOfWidth w (class.Immediate u) = u ≡ w
IsOfWidth w (class.Count u) = u ≡ w
IsOfWidth w class.Control = IsVectorWidth w
IsOfWidth w _ = Unit {0}

-- a register or memory at an address
abbrev pub is_single : Operand → Bool
is_single (Reg n w) = true
is_single (Mem base index scale disp) = true
is_single _ = false

-- forms of w bits that take the one operand take the other
pub record IsSameKind (w : ℕ) (a b : Operand) : Type 0 where
  pub kind : (class : Class) → takes_kind class b ≡ takes_kind class a
  pub memory : is_memory b ≡ is_memory a
  pub single : is_single b ≡ is_single a
  pub width : register_width (Some b) ≡ register_width (Some a)
  pub vector : is_vector b ≡ is_vector a
  pub vector_width : vector_register_width b ≡ vector_register_width a
  pub fits : (class : Class) → IsOfWidth w class → number_fits class a ≡ true → number_fits class b ≡ true

-- an operand is of its own kind
pub same-kind : (w : ℕ) (a : Operand) → IsSameKind w a a
same-kind w a = record { kind = λ c. refl; memory = refl; single = refl; width = refl; vector = refl; vector_width = refl; fits = λ c of h. h }

number-kind : (c : Class) (u v : ℕ) → takes_kind c (Imm u) ≡ takes_kind c (Imm v)
number-kind (class.Register w) u v = refl
number-kind _ u v = refl

count-below : (v w : ℕ) → (nat_lt 0 v && nat_lt v w) ≡ true → v < w
count-below v w h = below v w (and_parts (nat_lt 0 v) (nat_lt v w) h).1
  where
    below : (a b : ℕ) → nat_lt a b ≡ true → a < b
    below a b e = grind (arith, nat_tests)

number-within : (w v : ℕ) (n : NumberAgain w v) (c : Class) → IsOfWidth w c → is_within c v ≡ true → is_within c (word_of n.negative n.amount) ≡ true
number-within w v n (class.Source u) e h =
    subst (λ (x : ℕ). is_immediate x (word_of n.negative n.amount) ≡ true) (sym e) (n.fits (subst (λ (x : ℕ). is_immediate x v ≡ true) e h))
number-within w v n (class.Immediate u) e h =
    subst (λ (x : ℕ). is_immediate x (word_of n.negative n.amount) ≡ true) (sym e) (n.fits (subst (λ (x : ℕ). is_immediate x v ≡ true) e h))
number-within w v n (class.Count u) e h =
    let less : v < w = subst (λ (x : ℕ). v < x) e (count-below v u h) in
    subst (λ (x : ℕ). (nat_lt 0 x && nat_lt x u) ≡ true) (sym (n.kept less)) h
number-within w v n class.Control e h = subst (λ (x : ℕ). nat_lt x 256 ≡ true) (sym (n.whole e)) h
number-within w v n _ e h = refl

-- one operand

-- what is printed of the operand, and what is read of it
pub record OperandAgain (L : List ℕ → ℕ → Type 0) (w : ℕ) (o : Operand) : Type 0 where
  pub written : Written
  pub operand : Operand
  pub read : IsOperandText (operand_text w o) written
  pub token : IsToken (operand_text w o)
  pub stands : StandsFor L written operand
  pub within : (op : Op) → IsWithin op written
  pub placed : HasPlace L written
  pub same : IsSameOperand w o operand
  pub kind : IsSameKind w o operand

between : (negative : Bool) (n : ℕ) (t : Bool) → IsBetween (2 ^ 63) (2 ^ 63 - 1) negative n → IsBetween (2 ^ 63) (cond t (2 ^ 64 - 1) (2 ^ 63 - 1)) negative n
between true n t h = h
between false n true h = omega arith
between false n false h = h

again-number : (L : List ℕ → ℕ → Type 0) (w v : ℕ) → v < 2 ^ 64 → OperandAgain L w (Imm v)
again-number L w v lt =
    let n = number-again w v lt in
    record {
      written = Immediate n.negative n.amount;
      operand = Imm (word_of n.negative n.amount);
      read = n.read;
      token = n.token;
      stands = refl;
      within = λ op. between n.negative n.amount (is_movabs op) n.within;
      placed = tt;
      same = n.same;
      kind = record {
        kind = λ c. number-kind c (word_of n.negative n.amount) v;
        memory = refl;
        single = refl;
        width = refl;
        vector = refl;
        vector_width = refl;
        fits = λ c of h. number-within w v n c of h;
      };
    }

-- registers and memory

named-part : (part : List ℕ) (n : ℕ) → IsAddressRegister part n → IsNamed (Some n)
named-part part n is = (is.2.name, is.2.known)

named-base : (part : List ℕ) (base : Option ℕ) → IsBase part base → IsNamed base
named-base part base (inl none) = subst IsNamed (sym none.1) tt
named-base part base (inr some) = subst IsNamed (sym some.2) (named-part part some.0 some.1)

named-index : (part : List ℕ) (index : Option ℕ) → IsIndex part index → IsNamed index
named-index part index is = subst IsNamed (sym is.3) (named-part part is.0 is.1)

scale-small : (s : ℕ) → IsScale s → s < 10
scale-small s (inl e) = omega arith
scale-small s (inr (inl e)) = omega arith
scale-small s (inr (inr (inl e))) = omega arith
scale-small s (inr (inr (inr e))) = omega arith

address-named : (parts : List (List ℕ)) (base index : Option ℕ) (scale : ℕ) → AreAddressParts parts base index scale
    → IsNamed base × IsNamed index × (scale < 10)
address-named [] base index scale h = absurd h
address-named (b ∷ []) base index scale h =
    (subst IsNamed (sym h.0.2) (named-part b h.0.0 h.0.1), subst IsNamed (sym h.1) tt, scale-small scale (inl h.2))
address-named (b ∷ i ∷ []) base index scale h = (named-base b base h.0, named-index i index h.1, scale-small scale (inl h.2))
address-named (b ∷ i ∷ s ∷ []) base index scale h = (named-base b base h.0, named-index i index h.1, scale-small scale h.2.3)
address-named (b ∷ i ∷ s ∷ more ∷ rest) base index scale h = absurd h

integer-small : (negative : Bool) (n : ℕ) → IsBetween (2 ^ 31) (2 ^ 31 - 1) negative n → IsSmall (integer negative n)
integer-small false n h = omega arith
integer-small true zero h = omega arith
integer-small true (suc n) h = omega arith

displacement-small : (text : List ℕ) (disp : ℤ) → IsDisplacement text disp → IsSmall disp
displacement-small text disp (inl none) = subst IsSmall (sym none.1) none_small
  where
    none_small : IsSmall (pos 0)
    none_small = omega arith
displacement-small text disp (inr some) = subst IsSmall (sym some.4) (integer-small some.0 some.1 some.3)

-- a register is printed as one, of any width
register-shown : (w n v : ℕ) (vector : Bool) → operand_text w (if vector then Vec n v else Reg n v) ≡ register_text v n
unfolding operand_text
register-shown w n v true = refl
register-shown w n v false = refl

plain-token : (w : ℕ) (text : List ℕ) (o : Operand) → IsOperandText text (Plain o) → IsToken (operand_text w o)
unfolding operand_text
plain-token w text o (inl reg) =
    let printed = printed-register reg.1 reg.0 reg.2.name reg.2.known in
    let token = simple-text (register_text reg.1 reg.0) printed.some (omega (arith, printed.few)) printed.simple in
    subst (λ (x : Operand). IsToken (operand_text w x)) (sym reg.3) (subst IsToken (sym (register-shown w reg.0 reg.1 (eqb reg.1 128 || eqb reg.1 256))) token)
plain-token w text o (inr mem) =
    let named = address-named mem.parts mem.base mem.index mem.scale mem.address in
    subst (λ (x : Operand). IsToken (operand_text w x)) (sym mem.means)
    (memory-token mem.base mem.index mem.scale mem.disp named.0 named.1 named.2 (displacement-small mem.before mem.disp mem.displaced))

same-operand : (w : ℕ) (o : Operand) → IsSameOperand w o o
same-operand w (Imm v) = refl
same-operand w _ = refl

again-plain : (L : List ℕ → ℕ → Type 0) (w : ℕ) (text : List ℕ) (o : Operand) → IsOperandText text (Plain o) → OperandAgain L w o
again-plain L w text o h = record {
  written = Plain o;
  operand = o;
  read = plain-read w text o h;
  token = plain-token w text o h;
  stands = refl;
  within = λ op. tt;
  placed = tt;
  same = same-operand w o;
  kind = same-kind w o;
}

operand-again : (L : List ℕ → ℕ → Type 0) (w : ℕ) (o : Operand) → IsWritten o → OperandAgain L w o
operand-again L w o (inl number) = subst (OperandAgain L w) (sym number.2) (again-number L w number.0 number.1)
operand-again L w o (inr plain) = again-plain L w plain.0 o plain.1

-- operand after operand

-- what is printed of operands, and what is read of it
pub record OperandsAgain (L : List ℕ → ℕ → Type 0) (w : ℕ) (os : List Operand) : Type 0 where
  pub written : List Written
  pub operands : List Operand
  pub count : length operands ≡ length os
  pub spelled : AreWritten (map (operand_text w) os) written
  pub tokens : AllByRecursion IsToken (map (operand_text w) os)
  pub stand : StandFor L written operands
  pub within : (op : Op) → AllByRecursion (IsWithin op) written
  pub placed : AllByRecursion (HasPlace L) written
  pub same : AllZip (IsSameOperand w) os operands
  pub kinds : AllZip (IsSameKind w) os operands

-- operands that texts have are read again
pub operands-again : (L : List ℕ → ℕ → Type 0) (w : ℕ) (os : List Operand) → AllByRecursion IsWritten os → OperandsAgain L w os
operands-again L w [] all = record {
  written = [];
  operands = [];
  count = refl;
  spelled = tt;
  tokens = tt;
  stand = tt;
  within = λ op. tt;
  placed = tt;
  same = tt;
  kinds = tt;
}
operands-again L w (o ∷ os) all =
    let one = operand-again L w o all.0 in
    let more = operands-again L w os all.1 in
    record {
      written = one.written ∷ more.written;
      operands = one.operand ∷ more.operands;
      count = omega (arith, more.count);
      spelled = ((operand_text w o, token-padded (operand_text w o) one.token, one.read), more.spelled);
      tokens = (one.token, more.tokens);
      stand = (one.stands, more.stand);
      within = λ op. (one.within op, more.within op);
      placed = (one.placed, more.placed);
      same = (one.same, more.same);
      kinds = (one.kind, more.kinds);
    }
