-- What the code reads of memory operands, against what they are.
use Rattle.std.proofs.Common.{◌≡◌, ℕ, ◌+◌, ◌-◌, ◌^◌, ◌<◌, ◌≤◌, inl, inr, min, ℤ, pos, Bool, true, false, cond, eqb, ltb, leb, List, [], ◌∷◌, length, Option, Some, None, refl, sym, ap, ◌∙◌, subst, arith}
use Rattle.std.specs.Option.{option_map}
use Rattle.std.proofs.lemmas.Bool.{ltb-true, lt-ltb, leb-true, le-leb, eqb-true, eqb-false, ne_eqb}
use Rattle.std.proofs.lemmas.Option.{same_Some}
use Rattle.insn_table.specs.declared.insn.Operand.{Operand}
use Rattle.insn_table.specs.declared.insn.Operand.TheVariants.{Mem}
use Rattle.insn_table.specs.Table.{IsScale}
use Rattle.text_lines.specs.Words.{IsPadded, trim}
use Rattle.text_lines.proofs.Trimming.{trim-known, trim-only}
use Rattle.att_statements.specs.Operands.{IsNumber, integer, IsBetween, IsDisplacement, IsAddressRegister, IsBase, IsIndex, IsScaleText, AreAddressParts, IsParenthesised, IsMemoryText}
use Rattle.text_parts.specs.Cuts.{◌>>=◌, after_byte}
use Rattle.register_names.specs.Reading.{register_number}
use Rattle.register_names.proofs.NameTexts.{number-named, number-only}
use Rattle.text_parts.proofs.Options.{chosen_then, chosen_else, bind_some, map_some, after_byte-known}
use Rattle.att_statements.specs.ReadingOperands.{number_of, small_integer, displacement_in, address_register, base_of, index_of, scale_by, scale_of, Address, address_in, parts_from, memory_of}
use Rattle.att_statements.proofs.NumberTexts.{signed_number-known, signed_number-only}
use Rattle.att_statements.proofs.PartTexts.{parts-known, parts-only}

-- displacements

empty-text : (text : List ℕ) → length text ≡ 0 → text ≡ []
empty-text [] h = refl
empty-text (b ∷ bs) h = absurd (omega arith)

-- an amount that is kept below a bound of at most 2^64 is the amount
kept-small : (n m : ℕ) → m ≡ min n (2 ^ 64) → m ≤ 2 ^ 31 → m ≡ n
kept-small n m is small = omega arith

small-known : (negative : Bool) (m n : ℕ) (disp : ℤ) → m ≡ min n (2 ^ 64) → small_integer (negative, m) ≡ Some disp
    → IsBetween (2 ^ 31) (2 ^ 31 - 1) negative n × (disp ≡ integer negative n)
small-known true m n disp is h =
    let p = chosen_then (leb m (2 ^ 31)) (Some (integer true m)) disp h in
    let low : m ≤ 2 ^ 31 = leb-true m (2 ^ 31) p.0 in
    let same : m ≡ n = kept-small n m is low in
    (omega arith, sym (same_Some (integer true m) disp p.1) ∙ ap (integer true) same)
small-known false m n disp is h =
    let p = chosen_then (ltb m (2 ^ 31)) (Some (integer false m)) disp h in
    let low : m < 2 ^ 31 = ltb-true m (2 ^ 31) p.0 in
    let same : m ≡ n = kept-small n m is (omega arith) in
    (omega arith, sym (same_Some (integer false m) disp p.1) ∙ ap (integer false) same)

small-only : (negative : Bool) (n : ℕ) → IsBetween (2 ^ 31) (2 ^ 31 - 1) negative n → small_integer (negative, min n (2 ^ 64)) ≡ Some (integer negative n)
small-only true n between =
    let same : min n (2 ^ 64) ≡ n = omega arith in
    let low : leb n (2 ^ 31) ≡ true = le-leb n (2 ^ 31) between in
    rw (same, low) refl
small-only false n between =
    let same : min n (2 ^ 64) ≡ n = omega arith in
    let low : ltb n (2 ^ 31) ≡ true = lt-ltb n (2 ^ 31) (omega arith) in
    rw (same, low) refl

displacement-by : (text : List ℕ) (disp : ℤ) (t : Bool) → eqb (length text) 0 ≡ t
    → cond t (Some (pos 0)) (number_of text >>= small_integer) ≡ Some disp → IsDisplacement text disp
displacement-by text disp true none h = inl (empty-text text (eqb-true (length text) 0 none), sym (same_Some (pos 0) disp h))
displacement-by text disp false some h =
    let found = bind_some (number_of text) small_integer disp h in
    let number = signed_number-known text found.0 found.1 in
    let small = small-known found.0.0 found.0.1 number.0 disp number.2 found.2 in
    inr (found.0.0, number.0, number.1, small.0, small.1)

pub displacement-known : (text : List ℕ) (disp : ℤ) → displacement_in text ≡ Some disp → IsDisplacement text disp
unfolding displacement_in
displacement-known text disp h = displacement-by text disp (eqb (length text) 0) refl h

-- a text with a first byte isn't empty
pub some-byte : (b : ℕ) (bs text : List ℕ) → text ≡ b ∷ bs → eqb (length text) 0 ≡ false
some-byte b bs text is = ne_eqb (length text) 0 (λ e. omega (arith, ap length is))

some-text : (text : List ℕ) (negative : Bool) (n : ℕ) → IsNumber text negative n → eqb (length text) 0 ≡ false
some-text text true n (amount, is, a) = some-byte 45 amount text is
some-text text false n (inl d) = let long = d.digits.0 in ne_eqb (length text) 0 (λ e. omega arith)
some-text text false n (inr d) = some-byte 48 (120 ∷ d.behind) text d.spelled

pub displacement-only : (text : List ℕ) (disp : ℤ) → IsDisplacement text disp → displacement_in text ≡ Some disp
unfolding displacement_in
displacement-only text disp (inl p) = rw p.0 (ap (λ (d : ℤ). Some d) (sym p.1))
displacement-only text disp (inr (negative, n, number, between, means)) =
    let some = some-text text negative n number in
    let found = signed_number-only text negative n number in
    rw (some, found) (small-only negative n between ∙ ap (λ (d : ℤ). Some d) (sym means))

-- base, index and scale

pub address_register-known : (part : List ℕ) (n : ℕ) → address_register part ≡ Some n → IsAddressRegister part n
unfolding address_register
address_register-known part n h =
    let name = bind_some (after_byte 37 (trim part)) (register_number 64) n h in
    (trim part, trim-known part, record { name = name.0; known = number-named 64 name.0 n name.2; spelled = after_byte-known 37 (trim part) name.0 name.1 })

pub address_register-only : (part : List ℕ) (n : ℕ) → IsAddressRegister part n → address_register part ≡ Some n
unfolding address_register after_byte
address_register-only part n (text, padded, r) =
    let trimmed = trim-only part text padded in
    let named = number-only 64 r.name n r.known in
    rw (trimmed, r.spelled, named) refl

base-by : (part : List ℕ) (base : Option ℕ) (t : Bool) → eqb (length (trim part)) 0 ≡ t
    → cond t (Some None) (option_map (λ (n : ℕ). Some n) (address_register part)) ≡ Some base → IsBase part base
base-by part base true none h =
    inl (subst (IsPadded part) (empty-text (trim part) (eqb-true (length (trim part)) 0 none)) (trim-known part), sym (same_Some None base h))
base-by part base false some h =
    let p = map_some (address_register part) (λ (n : ℕ). Some n) base h in
    inr (p.0, address_register-known part p.0 p.1, sym p.2)

base-known : (part : List ℕ) (base : Option ℕ) → base_of part ≡ Some base → IsBase part base
unfolding base_of
base-known part base h = base-by part base (eqb (length (trim part)) 0) refl h

base-only : (part : List ℕ) (base : Option ℕ) → IsBase part base → base_of part ≡ Some base
unfolding base_of
base-only part base (inl p) = let trimmed = trim-only part [] p.0 in rw (trimmed, p.1) refl
base-only part base (inr (n, (text, padded, r), is)) =
    let trimmed = trim-only part text padded in
    let some = some-byte 37 r.name text r.spelled in
    let found = address_register-only part n (text, padded, r) in
    rw (trimmed, some, found, is) refl

index-known : (part : List ℕ) (index : Option ℕ) → index_of part ≡ Some index → IsIndex part index
unfolding index_of
index-known part index h =
    let p = bind_some (address_register part) (λ (n : ℕ). cond (eqb n 4) None (Some (Some n))) index h in
    let free = chosen_else (eqb p.0 4) (Some (Some p.0)) index p.2 in
    (p.0, address_register-known part p.0 p.1, eqb-false p.0 4 free.0, sym (same_Some (Some p.0) index free.1))

index-only : (part : List ℕ) (index : Option ℕ) → IsIndex part index → index_of part ≡ Some index
unfolding index_of
index-only part index (n, register, free, is) =
    let found = address_register-only part n register in
    let other = ne_eqb n 4 free in
    rw (found, other, is) refl

scale-digit : (b s : ℕ) (one two four eight : Bool) → eqb b 49 ≡ one → eqb b 50 ≡ two → eqb b 52 ≡ four → eqb b 56 ≡ eight
    → cond one (Some 1) (cond two (Some 2) (cond four (Some 4) (cond eight (Some 8) None))) ≡ Some s
    → (digit : ℕ) × (b ∷ [] ≡ digit ∷ []) × (digit ≡ 48 + s) × IsScale s
scale-digit b s true two four eight e1 e2 e4 e8 h = let same = same_Some 1 s h in (b, refl, omega (arith, eqb-true b 49 e1), inl (sym same))
scale-digit b s false true four eight e1 e2 e4 e8 h = let same = same_Some 2 s h in (b, refl, omega (arith, eqb-true b 50 e2), inr (inl (sym same)))
scale-digit b s false false true eight e1 e2 e4 e8 h = let same = same_Some 4 s h in (b, refl, omega (arith, eqb-true b 52 e4), inr (inr (inl (sym same))))
scale-digit b s false false false true e1 e2 e4 e8 h = let same = same_Some 8 s h in (b, refl, omega (arith, eqb-true b 56 e8), inr (inr (inr (sym same))))
scale-digit b s false false false false e1 e2 e4 e8 h = cc

-- which digit a scale is
scale-text : (text : List ℕ) (s : ℕ) → scale_by text ≡ Some s → (digit : ℕ) × (text ≡ digit ∷ []) × (digit ≡ 48 + s) × IsScale s
scale-text [] s h = cc
scale-text (b ∷ []) s h = scale-digit b s (eqb b 49) (eqb b 50) (eqb b 52) (eqb b 56) refl refl refl refl h
scale-text (b ∷ c ∷ cs) s h = cc

scale-known : (part : List ℕ) (s : ℕ) → scale_of part ≡ Some s → IsScaleText part s
unfolding scale_of
scale-known part s h =
    let p = scale-text (trim part) s h in
    (p.0, subst (IsPadded part) p.1 (trim-known part), p.2, p.3)

scale-digits : (s : ℕ) → IsScale s → scale_by ((48 + s) ∷ []) ≡ Some s
scale-digits s (inl e) = rw e refl
scale-digits s (inr (inl e)) = rw e refl
scale-digits s (inr (inr (inl e))) = rw e refl
scale-digits s (inr (inr (inr e))) = rw e refl

scale-only : (part : List ℕ) (s : ℕ) → IsScaleText part s → scale_of part ≡ Some s
unfolding scale_of
scale-only part s (digit, padded, is, scale) =
    ap scale_by (trim-only part (digit ∷ []) padded ∙ ap (λ (d : ℕ). d ∷ []) is) ∙ scale-digits s scale

address-from : (parts : List (List ℕ)) (b i : Option ℕ) (s : ℕ) (a : Address) → (b, i, s) ≡ a → AreAddressParts parts b i s → AreAddressParts parts a.0 a.1 a.2
address-from parts b i s a is are = subst (λ (x : Address). AreAddressParts parts x.0 x.1 x.2) is are

pub address-known : (parts : List (List ℕ)) (a : Address) → address_in parts ≡ Some a → AreAddressParts parts a.0 a.1 a.2
unfolding address_in
address-known [] a h = cc
address-known (base ∷ []) a h =
    let p = map_some (address_register base) (λ (n : ℕ). (Some n, None, 1)) a h in
    address-from (base ∷ []) (Some p.0) None 1 a p.2 ((p.0, address_register-known base p.0 p.1, refl), refl, refl)
address-known (base ∷ index ∷ []) a h =
    let b = bind_some (base_of base) (λ b. option_map (λ i. (b, i, 1)) (index_of index)) a h in
    let i = map_some (index_of index) (λ i. (b.0, i, 1)) a b.2 in
    address-from (base ∷ index ∷ []) b.0 i.0 1 a i.2 (base-known base b.0 b.1, index-known index i.0 i.1, refl)
address-known (base ∷ index ∷ scale ∷ []) a h =
    let b = bind_some (base_of base) (λ b. index_of index >>= λ i. option_map (λ (s : ℕ). (b, i, s)) (scale_of scale)) a h in
    let i = bind_some (index_of index) (λ i. option_map (λ (s : ℕ). (b.0, i, s)) (scale_of scale)) a b.2 in
    let s = map_some (scale_of scale) (λ (s : ℕ). (b.0, i.0, s)) a i.2 in
    address-from (base ∷ index ∷ scale ∷ []) b.0 i.0 s.0 a s.2 (base-known base b.0 b.1, index-known index i.0 i.1, scale-known scale s.0 s.1)
address-known (base ∷ index ∷ scale ∷ more ∷ parts) a h = cc

pub address-only : (parts : List (List ℕ)) (b i : Option ℕ) (s : ℕ) → AreAddressParts parts b i s → address_in parts ≡ Some (b, i, s)
unfolding address_in
address-only [] b i s are = absurd are
address-only (base ∷ []) b i s ((n, register, is), none, one) =
    let found = address_register-only base n register in rw (found, is, none, one) refl
address-only (base ∷ index ∷ []) b i s (is_base, is_index, one) =
    let found = base-only base b is_base in
    let place = index-only index i is_index in rw (found, place, one) refl
address-only (base ∷ index ∷ scale ∷ []) b i s (is_base, is_index, is_scale) =
    let found = base-only base b is_base in
    let place = index-only index i is_index in
    let times = scale-only scale s is_scale in rw (found, place, times) refl
address-only (base ∷ index ∷ scale ∷ more ∷ parts) b i s are = absurd are

-- memory

pub memory-known : (text before inside : List ℕ) (o : Operand) → IsParenthesised text before inside → memory_of before inside ≡ Some o → IsMemoryText text o
unfolding memory_of
memory-known text before inside o spelled h =
    let disp = bind_some (displacement_in before) (λ disp. address_in (parts_from 0 inside) >>= λ a. Some (Mem a.0 a.1 a.2 disp)) o h in
    let a = bind_some (address_in (parts_from 0 inside)) (λ (a : Address). Some (Mem a.0 a.1 a.2 disp.0)) o disp.2 in
    record {
      before = before;
      inside = inside;
      parts = parts_from 0 inside;
      disp = disp.0;
      base = a.0.0;
      index = a.0.1;
      scale = a.0.2;
      spelled = spelled;
      displaced = displacement-known before disp.0 disp.1;
      cut = parts-known 0 inside;
      address = address-known (parts_from 0 inside) a.0 a.1;
      means = sym (same_Some (Mem a.0.0 a.0.1 a.0.2 disp.0) o a.2);
    }

pub memory-only : (text : List ℕ) (o : Operand) (m : IsMemoryText text o) → memory_of m.before m.inside ≡ Some o
unfolding memory_of
memory-only text o m =
    let disp = displacement-only m.before m.disp m.displaced in
    let parts = parts-only 0 m.inside m.parts m.cut in
    let a = address-only m.parts m.base m.index m.scale m.address in
    rw (disp, parts, a, m.means) refl
