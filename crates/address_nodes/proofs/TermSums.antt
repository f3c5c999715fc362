-- Multiples of nodes, and sums of them, have their values.
use Rattle.std.proofs.Common.{◌≡◌, ℕ, zero, suc, ◌+◌, ◌-◌, ◌*◌, ◌%◌, ◌^◌, ◌<◌, ◌≤◌, ◌==◌, List, [], ◌∷◌, Option, Some, None, true, false, length, refl, sym, ◌∙◌, ap, subst, arith, inl, inr, if◌then◌else◌}
use Rattle.std.specs.Prelude.{nat_le}
use Rattle.std.proofs.lemmas.Bool.{cases_Bool, cases_lt, eqb-false, eqb-true, le-leb, true≢false}
use Rattle.std.proofs.lemmas.Nat.{mod_below, pow_pos}
use Rattle.std.proofs.Math.Nat.{mod-eq_of_lt, add-mul-mod_self_left}
use Rattle.insn_semantics.specs.Words as words
use Rattle.insn_semantics.proofs.WordLaws.{plus-minus, power_grows}
use Rattle.node_values.specs.declared.node.Node.{Node}
use Rattle.node_values.specs.declared.node.Node.TheVariants.{Const, Add, Sub, Mul, Shl}
use Rattle.node_values.specs.declared.node.NodeId.{NodeId}
use Rattle.node_values.specs.Nodes.{IsNode, node_width}
use Rattle.node_values.specs.Sheets.{Extends, IsSheet, value_at, width_at}
use Rattle.node_values.specs.Values.{Environment, node_value}
use Rattle.node_values.proofs.SheetLaws.{value_at-below, width_ranged}
use Rattle.node_forms.specs.Sums.{SameWord, weighted_sum}
use Rattle.node_forms.proofs.Residues.{same_add, same_drop, same_low, same_number}
use Rattle.terms.specs.Made.{Made, made}
use Rattle.terms.proofs.MadeLaws.{IsBuilt, made_built}
use Rattle.address_nodes.specs.Multiples.{AreTerms, IsAddress, IsBuiltWord, IsOfWidth, IsSumSoFar, Sum, Term, added, begun, exponent, is_added, minus_term, multiple, multiple_by, plus_term, subtracted, sum_of}
use Rattle.address_nodes.proofs.Growing.{extends_trans, later_value, same_extends, stays}

-- one more node over a later sheet
pub finish : (ns mid : List Node) (n : Node) (w : ℕ) (V : Environment → ℕ) → Extends ns mid → IsSheet mid → IsNode (width_at mid) (length mid) n
    → node_width (width_at mid) n ≡ w → ((e : Environment) → node_value e (width_at mid) (value_at e mid) n ≡ V e)
    → IsBuiltWord ns w V (made mid n)
finish ns mid n w V ext sheet node width value =
    let b : IsBuilt mid n (made mid n) = made_built mid sheet n node in
    record {
      extends = extends_trans ns mid (made mid n).nodes ext b.extends;
      sheet = b.sheet;
      inside = b.inside;
      width = b.width ∙ width;
      value = λ e. b.value e ∙ value e;
    }

-- what is built is a node of its width in the later sheet
pub built_node : (ns : List Node) (w : ℕ) (V : Environment → ℕ) (m : Made) → IsBuiltWord ns w V m → IsOfWidth m.nodes w m.id
built_node ns w V m b = (b.inside, b.width)

exponent_power : (n q k : ℕ) → exponent n q ≡ Some k → q ≡ 2 ^ k
unfolding exponent
exponent_power zero q k h = cc
exponent_power (suc n) q k h = elim (cases_Bool (q == 2 ^ n)) [
  | inl t ↦
      let e : Some n ≡ Some k = rw t at h in
      let same : n ≡ k = cc in
      eqb-true q (2 ^ n) t ∙ ap (λ m. 2 ^ m) same
  | inr f ↦ exponent_power n q k (rw f at h)
]

-- a power of two below another has the lower exponent
lower_exponent : (k w : ℕ) → 2 ^ k < 2 ^ w → k < w
lower_exponent k w h = elim (cases_lt k w) [
  | inl lower ↦ lower
  | inr higher ↦ absurd (omega (arith, power_grows w k higher, h))
]

-- a shift by the exponent of a number of w bits is one by less than w
pub shift_fits : (w q k : ℕ) → exponent 64 q ≡ Some k → q < 2 ^ w → k < w
shift_fits w q k h below = lower_exponent k w (subst (λ n. n < 2 ^ w) (exponent_power 64 q k h) below)

pub multiple_word : (ns : List Node) (w q : ℕ) (a : NodeId) → IsSheet ns → IsOfWidth ns w a → q < 2 ^ w
    → IsBuiltWord ns w (λ e. words.times w q (value_at e ns a.0)) (multiple ns w q a)
unfolding multiple
multiple_word ns w q a sheet node below = by_exponent (exponent 64 q) refl
  where
    by_exponent : (k : Option ℕ) → exponent 64 q ≡ k → IsBuiltWord ns w (λ e. words.times w q (value_at e ns a.0)) (multiple_by ns w q a k)
    by_exponent (Some k) is = elim (cases_Bool (k == 0)) [
      | inl t ↦
          let one : q ≡ 1 = exponent_power 64 q k is ∙ ap (λ n. 2 ^ n) (eqb-true k 0 t) in
          rw t
          (record {
            extends = same_extends ns;
            sheet = sheet;
            inside = node.0;
            width = node.1;
            value = λ e.
                let word : value_at e ns a.0 < 2 ^ w = subst (λ n. value_at e ns a.0 < 2 ^ n) node.1 (value_at-below ns sheet e a.0 node.0) in
                sym (ap (λ n. n % 2 ^ w) (once q (value_at e ns a.0) one) ∙ mod-eq_of_lt word);
          })
      | inr f ↦
          let power : q ≡ 2 ^ k = exponent_power 64 q k is in
          let lower : k < w = lower_exponent k w (subst (λ n. n < 2 ^ w) power below) in
          let some : k ≡ 0 → ⊥ = eqb-false k 0 f in
          rw f
          (finish ns ns (Shl a k) w (λ e. words.times w q (value_at e ns a.0)) (same_extends ns) sheet
          (node.0, omega arith, omega (arith, node.1)) node.1
          (λ e. ap (λ n. words.left_shift n (value_at e ns a.0) k) node.1
          ∙ ap (λ n. n % 2 ^ w) (turned (value_at e ns a.0) q (2 ^ k) power)))
    ]
      where
        once : (q v : ℕ) → q ≡ 1 → q * v ≡ v
        once q v h = rw h (omega arith)

        turned : (v q p : ℕ) → q ≡ p → v * p ≡ q * v
        turned v q p h = rw h (omega arith)
    by_exponent None is =
        let ranged = width_ranged ns sheet a.0 node.0 in
        let number : Made = made ns (Const w q) in
        let b : IsBuiltWord ns w (λ e. q) (made ns (Const w q)) =
        finish ns ns (Const w q) w (λ e. q) (same_extends ns) sheet (omega (arith, node.1, ranged.0), omega (arith, node.1, ranged.1), below) refl (λ e. refl) in
        let there : IsOfWidth number.nodes w a = stays ns sheet number.nodes b.extends w a node in
        finish ns number.nodes (Mul number.id a) w (λ e. words.times w q (value_at e ns a.0)) b.extends b.sheet
        (b.inside, there.0, b.width ∙ sym there.1) b.width
        (λ e. λ i. words.times (b.width i) (b.value e i) (later_value ns sheet number.nodes b.extends e a.0 node.0 i))

-- the value of a sum so far
abbrev pub sum_value : Environment → List Node → Option NodeId → ℕ
sum_value e ns None = 0
sum_value e ns (Some sum) = value_at e ns sum.0

pub sum_value_stays : (ns : List Node) → IsSheet ns → (later : List Node) → Extends ns later → (e : Environment) (sum : Option NodeId)
    → IsSumSoFar ns sum → sum_value e later sum ≡ sum_value e ns sum
sum_value_stays ns sheet later ext e None h = refl
sum_value_stays ns sheet later ext e (Some sum) h = later_value ns sheet later ext e sum.0 h.0

-- a term's value
abbrev pub term_value : Environment → List Node → Term → ℕ
term_value e ns p = words.times 64 p.1 (value_at e ns p.0.0)

plus_word : (ns : List Node) (sum : Option NodeId) (p : Term) → IsSheet ns → IsSumSoFar ns sum → IsAddress ns p.0 → p.1 < 2 ^ 64
    → IsBuiltWord ns 64 (λ e. words.plus 64 (sum_value e ns sum) (term_value e ns p)) (plus_term ns sum p)
plus_word ns None p sheet h atom below =
    let b : IsBuiltWord ns 64 (λ e. term_value e ns p) (multiple ns 64 p.1 p.0) = multiple_word ns 64 p.1 p.0 sheet atom below in
    record {
      extends = b.extends;
      sheet = b.sheet;
      inside = b.inside;
      width = b.width;
      value = λ e. b.value e ∙ sym (low (p.1 * value_at e ns p.0.0));
    }
  where
    low : (n : ℕ) → words.plus 64 0 (n % 2 ^ 64) ≡ n % 2 ^ 64
    low n = ap (λ m. m % 2 ^ 64) (plain (n % 2 ^ 64)) ∙ mod-eq_of_lt (mod_below n (2 ^ 64) (pow_pos 64))
      where
        plain : (m : ℕ) → 0 + m ≡ m
        plain m = omega arith
plus_word ns (Some sum) p sheet h atom below =
    let term : Made = multiple ns 64 p.1 p.0 in
    let b : IsBuiltWord ns 64 (λ e. term_value e ns p) (multiple ns 64 p.1 p.0) = multiple_word ns 64 p.1 p.0 sheet atom below in
    let there : IsAddress term.nodes sum = stays ns sheet term.nodes b.extends 64 sum h in
    finish ns term.nodes (Add sum term.id) 64 (λ e. words.plus 64 (value_at e ns sum.0) (term_value e ns p)) b.extends b.sheet
    (there.0, b.inside, there.1 ∙ sym b.width) there.1
    (λ e. λ i. words.plus (there.1 i) (later_value ns sheet term.nodes b.extends e sum.0 h.0 i) (b.value e i))

begun_word : (ns : List Node) (sum : Option NodeId) → IsSheet ns → IsSumSoFar ns sum → IsBuiltWord ns 64 (λ e. sum_value e ns sum) (begun ns sum)
begun_word ns None sheet h = finish ns ns (Const 64 0) 64 (λ e. 0) (same_extends ns) sheet (omega arith, omega arith, pow_pos 64) refl (λ e. refl)
begun_word ns (Some sum) sheet h = record { extends = same_extends ns; sheet = sheet; inside = h.0; width = h.1; value = λ e. refl }

-- what is subtracted in place of a term
abbrev rest_value : Environment → List Node → Term → ℕ
rest_value e ns p = words.times 64 (2 ^ 64 - p.1) (value_at e ns p.0.0)

minus_word : (ns : List Node) (sum : Option NodeId) (p : Term) → IsSheet ns → IsSumSoFar ns sum → IsAddress ns p.0 → 0 < p.1 → p.1 < 2 ^ 64
    → IsBuiltWord ns 64 (λ e. words.minus 64 (sum_value e ns sum) (rest_value e ns p)) (minus_term ns sum p)
minus_word ns sum p sheet h atom some below =
    let first : Made = begun ns sum in
    let f : IsBuiltWord ns 64 (λ e. sum_value e ns sum) (begun ns sum) = begun_word ns sum sheet h in
    let term : Made = multiple first.nodes 64 (2 ^ 64 - p.1) p.0 in
    let b : IsBuiltWord first.nodes 64 (λ e. rest_value e first.nodes p) (multiple first.nodes 64 (2 ^ 64 - p.1) p.0) =
    multiple_word first.nodes 64 (2 ^ 64 - p.1) p.0 f.sheet (stays ns sheet first.nodes f.extends 64 p.0 atom) (omega arith) in
    let there : IsAddress term.nodes first.id = stays first.nodes f.sheet term.nodes b.extends 64 first.id (f.inside, f.width) in
    finish ns term.nodes (Sub first.id term.id) 64 (λ e. words.minus 64 (sum_value e ns sum) (rest_value e ns p))
    (extends_trans ns first.nodes term.nodes f.extends b.extends) b.sheet
    (there.0, b.inside, there.1 ∙ sym b.width) there.1
    (λ e. λ i. words.minus (there.1 i) ((later_value first.nodes f.sheet term.nodes b.extends e first.id.0 f.inside ∙ f.value e) i)
    ((b.value e ∙ ap (words.times 64 (2 ^ 64 - p.1)) (later_value ns sheet first.nodes f.extends e p.0.0 atom.0)) i))

-- a sum over a sheet, with its value modulo 2^64
pub record IsSumOf (ns : List Node) (V : Environment → ℕ) (s : Sum) : Type 0 where
  pub extends : Extends ns s.nodes
  pub sheet : IsSheet s.nodes
  pub node : IsSumSoFar s.nodes s.node
  pub value : (e : Environment) → SameWord 64 (sum_value e s.nodes s.node) (V e)

-- the sum of the terms that are added, and of those that are subtracted
abbrev pub added_part : (ℕ → ℕ) → List Term → ℕ
added_part f [] = 0
added_part f (p ∷ ps) = added_part f ps + (if is_added p then p.1 * f p.0.0 else 0)

abbrev pub subtracted_part : (ℕ → ℕ) → List Term → ℕ
subtracted_part f [] = 0
subtracted_part f (p ∷ ps) = subtracted_part f ps + (if is_added p then 0 else p.1 * f p.0.0)

parts : (f : ℕ → ℕ) (ps : List Term) → added_part f ps + subtracted_part f ps ≡ weighted_sum f ps
parts f [] = refl
parts f (p ∷ ps) = elim (cases_Bool (is_added p)) [
  | inl t ↦ rw t (omega (arith, parts f ps))
  | inr n ↦ rw n (omega (arith, parts f ps))
]

-- nothing is added
no_change : (a b : ℕ) → SameWord 64 a b → SameWord 64 a (b + 0)
no_change a b h = h ∙ same_number 64 b (b + 0) (omega arith)

pub added_sum : (ns : List Node) (ps : List Term) → IsSheet ns → AreTerms ns ps → IsSumOf ns (λ e. added_part (value_at e ns) ps) (added ns ps)
unfolding added
added_sum ns [] sheet h = record { extends = same_extends ns; sheet = sheet; node = tt; value = λ e. refl }
added_sum ns (p ∷ ps) sheet h =
    let before : Sum = added ns ps in
    let s : IsSumOf ns (λ e. added_part (value_at e ns) ps) (added ns ps) = added_sum ns ps sheet h.1 in
    elim (cases_Bool (is_added p)) [
      | inl t ↦
          let atom : IsAddress before.nodes p.0 = stays ns sheet before.nodes s.extends 64 p.0 h.0.0 in
          let b = plus_word before.nodes before.node p s.sheet s.node atom h.0.1 in
          rw t
          (record {
            extends = extends_trans ns before.nodes (plus_term before.nodes before.node p).nodes s.extends b.extends;
            sheet = b.sheet;
            node = (b.inside, b.width);
            value = λ e.
                same_number 64 _ _ (b.value e) ∙ same_low 64 (sum_value e before.nodes before.node + term_value e before.nodes p)
                ∙ same_add 64 (sum_value e before.nodes before.node) (added_part (value_at e ns) ps) (term_value e before.nodes p) (p.1 * value_at e ns p.0.0)
                (s.value e) (same_low 64 (p.1 * value_at e before.nodes p.0.0) ∙ same_number 64 _ _ (ap (λ v. p.1 * v) (later_value ns sheet before.nodes s.extends e p.0.0 h.0.0.0)));
          })
      | inr f ↦ rw f (record { extends = s.extends; sheet = s.sheet; node = s.node; value = λ e. no_change _ _ (s.value e) })
    ]

-- a difference from which what is missing from 2^64 times v was subtracted
difference_rest : (a q v : ℕ) → q < 2 ^ 64 → SameWord 64 (words.minus 64 (a % 2 ^ 64) (words.times 64 (2 ^ 64 - q) v)) (a + q * v)
difference_rest a q v h =
    let r : ℕ = (2 ^ 64 - q) * v in
    let d : ℕ = words.minus 64 (a % 2 ^ 64) (words.times 64 (2 ^ 64 - q) v) in
    let back : SameWord 64 (words.minus 64 (a % 2 ^ 64) (words.times 64 (2 ^ 64 - q) v) + words.times 64 (2 ^ 64 - q) v) (a % 2 ^ 64) =
    plus-minus 64 (a % 2 ^ 64) (words.times 64 (2 ^ 64 - q) v) (mod_below a (2 ^ 64) (pow_pos 64)) (mod_below ((2 ^ 64 - q) * v) (2 ^ 64) (pow_pos 64))
    ∙ sym (mod-eq_of_lt (mod_below a (2 ^ 64) (pow_pos 64))) in
    same_drop 64 d (a + q * v) r
    (same_add 64 d d r (words.times 64 (2 ^ 64 - q) v) refl (sym (same_low 64 r))
    ∙ back ∙ same_low 64 a ∙ sym (around (2 ^ 64) a q v (omega arith)))
  where
    around : (m a q v : ℕ) → q ≤ m → (a + q * v + (m - q) * v) % m ≡ a % m
    around m a q v h =
        let whole : a + q * v + (m - q) * v ≡ a + m * v = all m (m - q) a q v (omega arith) in
        ap (λ n. n % m) whole ∙ add-mul-mod_self_left a m v
      where
        all : (m r a q v : ℕ) → m ≡ q + r → a + q * v + r * v ≡ a + m * v
        all m r a q v h = rw h (omega arith)

pub subtracted_sum : (ns : List Node) (V : Environment → ℕ) (s : Sum) (ps : List Term) → IsSheet ns → IsSumOf ns V s → AreTerms ns ps
    → IsSumOf ns (λ e. V e + subtracted_part (value_at e ns) ps) (subtracted s ps)
unfolding subtracted
subtracted_sum ns V s [] sheet is h =
    record { extends = is.extends; sheet = is.sheet; node = is.node; value = λ e. no_change _ _ (is.value e) }
subtracted_sum ns V s (p ∷ ps) sheet is h =
    let before : Sum = subtracted s ps in
    let r : IsSumOf ns (λ e. V e + subtracted_part (value_at e ns) ps) (subtracted s ps) = subtracted_sum ns V s ps sheet is h.1 in
    elim (cases_Bool (is_added p)) [
      | inl t ↦ rw t (record { extends = r.extends; sheet = r.sheet; node = r.node; value = λ e. r.value e ∙ same_number 64 _ _ (nothing (V e) (subtracted_part (value_at e ns) ps)) })
      | inr f ↦
          let atom : IsAddress before.nodes p.0 = stays ns sheet before.nodes r.extends 64 p.0 h.0.0 in
          let b = minus_word before.nodes before.node p r.sheet r.node atom (subtracts_some p f) h.0.1 in
          rw f
          (record {
            extends = extends_trans ns before.nodes (minus_term before.nodes before.node p).nodes r.extends b.extends;
            sheet = b.sheet;
            node = (b.inside, b.width);
            value = λ e.
                let v : value_at e before.nodes p.0.0 ≡ value_at e ns p.0.0 = later_value ns sheet before.nodes r.extends e p.0.0 h.0.0.0 in
                same_number 64 _ _ (b.value e ∙ (λ i. words.minus 64 (sym (mod-eq_of_lt (sum_word before.nodes r.sheet e before.node r.node)) i) (words.times 64 (2 ^ 64 - p.1) (v i))))
                ∙ difference_rest (sum_value e before.nodes before.node) p.1 (value_at e ns p.0.0) h.0.1
                ∙ same_add 64 (sum_value e before.nodes before.node) (V e + subtracted_part (value_at e ns) ps) (p.1 * value_at e ns p.0.0) (p.1 * value_at e ns p.0.0) (r.value e) refl
                ∙ same_number 64 _ _ (turned (V e) (subtracted_part (value_at e ns) ps) (p.1 * value_at e ns p.0.0));
          })
    ]
  where
    nothing : (a b : ℕ) → a + b ≡ a + (b + 0)
    nothing a b = omega arith

    turned : (a b c : ℕ) → a + b + c ≡ a + (b + c)
    turned a b c = omega arith

    subtracts_some : (p : Term) → is_added p ≡ false → 0 < p.1
    subtracts_some p f = elim (cases_lt 0 p.1) [ inl some ↦ some | inr none ↦ absurd (true≢false (sym (low p.1 none) ∙ f)) ]
      where
        low : (n : ℕ) → n ≤ 0 → nat_le n (2 ^ 63) ≡ true
        low n h = le-leb n (2 ^ 63) (omega arith)

    sum_word : (ns : List Node) → IsSheet ns → (e : Environment) (sum : Option NodeId) → IsSumSoFar ns sum → sum_value e ns sum < 2 ^ 64
    sum_word ns sheet e None h = pow_pos 64
    sum_word ns sheet e (Some sum) h = subst (λ n. value_at e ns sum.0 < 2 ^ n) h.1 (value_at-below ns sheet e sum.0 h.0)

-- the sum of all terms
pub all_terms : (ns : List Node) (ps : List Term) → IsSheet ns → AreTerms ns ps → IsSumOf ns (λ e. weighted_sum (value_at e ns) ps) (sum_of ns ps)
all_terms ns ps sheet h =
    let s : IsSumOf ns (λ e. added_part (value_at e ns) ps + subtracted_part (value_at e ns) ps) (sum_of ns ps) =
    subtracted_sum ns (λ e. added_part (value_at e ns) ps) (added ns ps) ps sheet (added_sum ns ps sheet h) h in
    record { extends = s.extends; sheet = s.sheet; node = s.node; value = λ e. s.value e ∙ same_number 64 _ _ (parts (value_at e ns) ps) }
