-- A step of gathering keeps what holds of what there is so far.
use Rattle.std.proofs.Common.{◌≡◌, ℕ, ◌+◌, ◌-◌, ◌*◌, ◌%◌, ◌^◌, ◌<◌, ◌≤◌, List, [], ◌∷◌, ◌++◌, length, refl, sym, ◌∙◌, subst, arith}
use Rattle.std.specs.List.{AllByRecursion}
use Rattle.std.proofs.lemmas.Nat.{pow_pos, mod_below}
use Rattle.std.proofs.Math.Nat.{mod-eq_of_lt, mul-mod_right}
use Rattle.insn_semantics.specs.Words.{plus, minus, times}
use Rattle.node_values.specs.declared.node.Node.{Node}
use Rattle.node_values.specs.declared.node.NodeId.{NodeId}
use Rattle.node_values.specs.Nodes.{node_width}
use Rattle.node_values.specs.Sheets.{IsSheet, node_at, width_at}
use Rattle.node_values.proofs.SheetLaws.{width_at-is}
use Rattle.node_forms.specs.declared.linear.Linear.{Linear}
use Rattle.node_forms.specs.declared.linear.Linear.TheVariants.{Atom, Number, Times, Plus, Minus}
use Rattle.node_forms.specs.Linearity.{linearity}
use Rattle.node_forms.specs.Sums.{AreRising, Follows, IsLinear, IsWide, SameWord, top_of, weighted_sum, with_weight}
use Rattle.node_forms.specs.Gathering.{AreParts, Gathering, IsGathering, replaced}
use Rattle.node_forms.proofs.Residues.{same_add, same_drop, same_low, same_number, same_times}
use Rattle.node_forms.proofs.Weights.{all_before, all_push, all_weaker, falling_push, rising_last, top_of-append, weighted_sum-append, with_weight-all, with_weight-rising, with_weight-sum, with_weight-top}
use Rattle.node_forms.proofs.LinearLaws.{AllParts, IsLower, linearity_parts, parts_weaker}

-- the sum of all that there is, where a constant counts k times
abbrev pub total : ℕ → (ℕ → ℕ) → Gathering → ℕ
total k f s = weighted_sum f s.pending + (weighted_sum f s.atoms + k * s.constant)

turned : (p q x m : ℕ) → p + q ≡ m → (0 + p) * x + q * x ≡ m * x
turned p q x m e = subst (λ n. (0 + p) * x + q * x ≡ n * x) e (omega arith)

zero_low : (w : ℕ) → 0 % 2 ^ w ≡ 0
zero_low w = mod-eq_of_lt (pow_pos w)

-- q times a node and the sum of its parts are the same
module _ (w k : ℕ) (f : ℕ → ℕ) (i : NodeId) (q : ℕ) (below : q < 2 ^ w) where
  -- q and its negative together
  pub negated : (x : ℕ) → SameWord w (minus w 0 q * x + q * x) 0
  negated x =
      let p : ℕ = 2 ^ w - q in
      let low : SameWord w (minus w 0 q * x) ((0 + (2 ^ w - q)) * x) = same_times w (minus w 0 q) (0 + (2 ^ w - q)) x x (same_low w (0 + (2 ^ w - q))) refl in
      let whole : (0 + (2 ^ w - q)) * x + q * x ≡ 2 ^ w * x = turned (2 ^ w - q) q x (2 ^ w) (omega arith) in
      same_add w (minus w 0 q * x) ((0 + (2 ^ w - q)) * x) (q * x) (q * x) low refl
      ∙ same_number w ((0 + (2 ^ w - q)) * x + q * x) (2 ^ w * x) whole
      ∙ mul-mod_right (2 ^ w) x ∙ sym (zero_low w)

  pub replaced-sum : (linear : Linear) (s : Gathering) → Follows w k f i.0 linear
      → SameWord w (total k f (replaced w i q linear s)) (total k f s + q * f i.0)
  replaced-sum Atom s h =
      let P : ℕ = weighted_sum f s.pending in
      let A : ℕ = weighted_sum f s.atoms in
      same_number w _ (P + (A + k * s.constant) + q * f i.0) (omega (arith, weighted_sum-append f s.atoms ((i, q) ∷ [])))
  replaced-sum (Number v) s h =
      let P : ℕ = weighted_sum f s.pending in
      let A : ℕ = weighted_sum f s.atoms in
      let part : SameWord w (times w q (v % 2 ^ w)) (q * v) =
      same_low w (q * (v % 2 ^ w)) ∙ same_times w q q (v % 2 ^ w) v refl (same_low w v) in
      let sum : SameWord w (plus w s.constant (times w q (v % 2 ^ w))) (s.constant + q * v) =
      same_low w (s.constant + times w q (v % 2 ^ w)) ∙ same_add w s.constant s.constant (times w q (v % 2 ^ w)) (q * v) refl part in
      let scaled : SameWord w (k * plus w s.constant (times w q (v % 2 ^ w))) (k * (s.constant + q * v)) =
      same_times w k k (plus w s.constant (times w q (v % 2 ^ w))) (s.constant + q * v) refl sum in
      let node : SameWord w (q * f i.0) (q * (k * v)) = same_times w q q (f i.0) (k * v) refl h in
      same_add w P P (A + k * plus w s.constant (times w q (v % 2 ^ w))) (A + k * (s.constant + q * v)) refl
      (same_add w A A (k * plus w s.constant (times w q (v % 2 ^ w))) (k * (s.constant + q * v)) refl scaled)
      ∙ same_number w (P + (A + k * (s.constant + q * v))) (P + (A + k * s.constant) + q * (k * v)) (omega arith)
      ∙ same_add w (P + (A + k * s.constant)) (P + (A + k * s.constant)) (q * (k * v)) (q * f i.0) refl (sym node)
  replaced-sum (Times a v) s h =
      let P : ℕ = weighted_sum f s.pending in
      let C : ℕ = weighted_sum f s.atoms + k * s.constant in
      let r : ℕ = times w q (v % 2 ^ w) in
      let part : SameWord w (times w q (v % 2 ^ w)) (q * v) =
      same_low w (q * (v % 2 ^ w)) ∙ same_times w q q (v % 2 ^ w) v refl (same_low w v) in
      let node : SameWord w (q * f i.0) (q * (v * f a.0)) = same_times w q q (f i.0) (v * f a.0) refl h in
      let weight : SameWord w (times w q (v % 2 ^ w) * f a.0) (q * v * f a.0) =
      same_times w (times w q (v % 2 ^ w)) (q * v) (f a.0) (f a.0) part refl in
      let more : SameWord w (weighted_sum f (with_weight w a (times w q (v % 2 ^ w)) s.pending)) (P + q * f i.0) =
      with_weight-sum w a (times w q (v % 2 ^ w)) f s.pending
      ∙ same_add w P P (times w q (v % 2 ^ w) * f a.0) (q * f i.0) refl
      (weight ∙ same_number w (q * v * f a.0) (q * (v * f a.0)) (omega arith) ∙ sym node) in
      same_add w (weighted_sum f (with_weight w a (times w q (v % 2 ^ w)) s.pending)) (P + q * f i.0) C C more refl
      ∙ same_number w (P + q * f i.0 + C) (P + C + q * f i.0) (omega arith)
  replaced-sum (Plus a b) s h =
      let P : ℕ = weighted_sum f s.pending in
      let C : ℕ = weighted_sum f s.atoms + k * s.constant in
      let node : SameWord w (q * f i.0) (q * (f a.0 + f b.0)) = same_times w q q (f i.0) (f a.0 + f b.0) refl h in
      let one : SameWord w (weighted_sum f (with_weight w a q s.pending)) (P + q * f a.0) = with_weight-sum w a q f s.pending in
      let two : SameWord w (weighted_sum f (with_weight w b q (with_weight w a q s.pending))) (P + q * f a.0 + q * f b.0) =
      with_weight-sum w b q f (with_weight w a q s.pending)
      ∙ same_add w (weighted_sum f (with_weight w a q s.pending)) (P + q * f a.0) (q * f b.0) (q * f b.0) one refl in
      same_add w (weighted_sum f (with_weight w b q (with_weight w a q s.pending))) (P + q * f a.0 + q * f b.0) C C two refl
      ∙ same_number w (P + q * f a.0 + q * f b.0 + C) (P + C + q * (f a.0 + f b.0)) (omega arith)
      ∙ same_add w (P + C) (P + C) (q * (f a.0 + f b.0)) (q * f i.0) refl (sym node)
  replaced-sum (Minus a b) s h =
      let P : ℕ = weighted_sum f s.pending in
      let C : ℕ = weighted_sum f s.atoms + k * s.constant in
      let n : ℕ = minus w 0 q in
      let node : SameWord w (q * (f i.0 + f b.0)) (q * f a.0) = same_times w q q (f i.0 + f b.0) (f a.0) refl h in
      let one : SameWord w (weighted_sum f (with_weight w a q s.pending)) (P + q * f a.0) = with_weight-sum w a q f s.pending in
      let two : SameWord w (weighted_sum f (with_weight w b (minus w 0 q) (with_weight w a q s.pending))) (P + q * f a.0 + minus w 0 q * f b.0) =
      with_weight-sum w b (minus w 0 q) f (with_weight w a q s.pending)
      ∙ same_add w (weighted_sum f (with_weight w a q s.pending)) (P + q * f a.0) (minus w 0 q * f b.0) (minus w 0 q * f b.0) one refl in
      -- q * f b is added on both sides
      let around : SameWord w (minus w 0 q * f b.0 + q * f b.0) 0 = negated (f b.0) in
      same_drop w (weighted_sum f (with_weight w b (minus w 0 q) (with_weight w a q s.pending)) + C) (P + C + q * f i.0) (q * f b.0)
      (same_add w (weighted_sum f (with_weight w b (minus w 0 q) (with_weight w a q s.pending)) + C) (P + q * f a.0 + minus w 0 q * f b.0 + C) (q * f b.0) (q * f b.0)
      (same_add w (weighted_sum f (with_weight w b (minus w 0 q) (with_weight w a q s.pending))) (P + q * f a.0 + minus w 0 q * f b.0) C C two refl) refl
      ∙ same_number w (P + q * f a.0 + minus w 0 q * f b.0 + C + q * f b.0) (P + C + q * f a.0 + (minus w 0 q * f b.0 + q * f b.0)) (omega arith)
      ∙ same_add w (P + C + q * f a.0) (P + C + q * (f i.0 + f b.0)) (minus w 0 q * f b.0 + q * f b.0) 0
      (same_add w (P + C) (P + C) (q * f a.0) (q * (f i.0 + f b.0)) refl (sym node)) around
      ∙ same_number w (P + C + q * (f i.0 + f b.0) + 0) (P + C + q * f i.0 + q * f b.0) (omega arith))

-- the highest pending node goes to its parts
module _ (ns : List Node) (sheet : IsSheet ns) (w : ℕ) (positive : 0 < w) (parts : List (NodeId × ℕ)) (rest : List (NodeId × ℕ)) (i : NodeId) (q : ℕ) (atoms : List (NodeId × ℕ)) (c : ℕ) where
  abbrev before : Gathering
  before = record { pending = rest ++ (i, q) ∷ []; atoms = atoms; constant = c }

  abbrev left : Gathering
  left = record { pending = rest; atoms = atoms; constant = c }

  module _ (h : IsGathering ns w parts before) where
    ends : (AreParts ns w rest) × (IsWide (width_at ns) w (length ns) i × (q < 2 ^ w))
    ends = all_before (λ p. IsWide (width_at ns) w (length ns) p.0 × (p.1 < 2 ^ w)) rest (i, q) h.pending

    order : (0 ≤ i.0) × (top_of rest ≤ i.0) × AreRising 0 rest
    order = rising_last 0 rest (i, q) h.rising

    higher : (t : ℕ) → t ≤ i.0 + 1 → AllByRecursion (λ p. t ≤ p.0.0) atoms
    higher t b =
        all_weaker (λ p. top_of (rest ++ (i, q) ∷ []) ≤ p.0.0) (λ p. t ≤ p.0.0)
        (λ p k. omega (arith, k, top_of-append rest (i, q), b)) atoms h.above

    -- a part without weight may go
    pub without : q ≡ 0 → IsGathering ns w parts left
    without none = record {
      pending = ends.0;
      rising = order.2;
      above = higher (top_of rest) (omega (arith, order.1));
      falling = h.falling;
      atoms = h.atoms;
      constant = h.constant;
      sum = λ k f linear.
          same_number w _ _ (omega (arith, weighted_sum-append f rest ((i, q) ∷ []), nothing (f i.0) none)) ∙ h.sum k f linear;
    }
      where
        nothing : (x : ℕ) → q ≡ 0 → q * x ≡ 0
        nothing x e = rw e (omega arith)

    sum_after : (linear : Linear) (k : ℕ) (f : ℕ → ℕ) → IsLinear ns w k f → Follows w k f i.0 linear
        → SameWord w (total k f (replaced w i q linear left)) (weighted_sum f parts)
    sum_after linear k f is follows =
        replaced-sum w k f i q ends.1.1 linear left follows
        ∙ same_number w _ _ (omega (arith, weighted_sum-append f rest ((i, q) ∷ [])))
        ∙ h.sum k f is

    follows_at : (linear : Linear) → linearity ns (width_at ns) w (node_at ns i.0) ≡ linear → (k : ℕ) (f : ℕ → ℕ) → IsLinear ns w k f
        → Follows w k f i.0 linear
    follows_at linear e k f is = subst (Follows w k f i.0) e (is i.0 ends.1.0.0 ends.1.0.1)

    parts_at : (linear : Linear) → linearity ns (width_at ns) w (node_at ns i.0) ≡ linear → AllParts (IsWide (width_at ns) w i.0) linear
    parts_at linear e =
        let wide : w ≤ node_width (width_at ns) (node_at ns i.0) = subst (λ n. w ≤ n) (width_at-is ns sheet i.0 ends.1.0.0) ends.1.0.1 in
        subst (AllParts (IsWide (width_at ns) w i.0)) e
        (parts_weaker (IsLower (width_at ns) w i.0 (node_width (width_at ns) (node_at ns i.0))) (IsWide (width_at ns) w i.0)
        (λ a k. (k.0, k.1 wide))
        (linearity ns (width_at ns) w (node_at ns i.0))
        (linearity_parts ns (width_at ns) w i.0 (node_at ns i.0) (sheet i.0 ends.1.0.0)))

    reaches : (a : NodeId) → IsWide (width_at ns) w i.0 a → IsWide (width_at ns) w (length ns) a
    reaches a b = let last : i.0 < length ns = ends.1.0.0 in (omega (arith, b.0), b.1)

    -- pending nodes with one weight more
    more : (a : NodeId) (r : ℕ) (ps : List (NodeId × ℕ)) → IsWide (width_at ns) w i.0 a → r < 2 ^ w
        → AreParts ns w ps × AreRising 0 ps × (top_of ps ≤ i.0)
        → AreParts ns w (with_weight w a r ps) × AreRising 0 (with_weight w a r ps) × (top_of (with_weight w a r ps) ≤ i.0)
    more a r ps wide below is = (
      with_weight-all w a r (λ p. IsWide (width_at ns) w (length ns) p.0 × (p.1 < 2 ^ w)) (λ t k. (reaches a wide, k)) (λ p t k l. (k.0, l)) below ps is.0,
      with_weight-rising w a r 0 ps (omega arith) is.1,
      with_weight-top w a r ps i.0 wide.0 is.2,
    )

    first : AreParts ns w rest × AreRising 0 rest × (top_of rest ≤ i.0)
    first = (ends.0, order.2, order.1)

    -- the pending nodes change alone
    with_pending : (ps : List (NodeId × ℕ)) → AreParts ns w ps × AreRising 0 ps × (top_of ps ≤ i.0)
        → ((k : ℕ) (f : ℕ → ℕ) → IsLinear ns w k f → SameWord w (total k f (record { pending = ps; atoms = atoms; constant = c })) (weighted_sum f parts))
        → IsGathering ns w parts (record { pending = ps; atoms = atoms; constant = c })
    with_pending ps is sum = record {
      pending = is.0;
      rising = is.1;
      above = higher (top_of ps) (omega (arith, is.2));
      falling = h.falling;
      atoms = h.atoms;
      constant = h.constant;
      sum = sum;
    }

    word : (n : ℕ) → n % 2 ^ w < 2 ^ w
    word n = mod_below n (2 ^ w) (pow_pos w)

    replaced_by : 0 < q → (linear : Linear) → linearity ns (width_at ns) w (node_at ns i.0) ≡ linear → IsGathering ns w parts (replaced w i q linear left)
    replaced_by some Atom e = record {
      pending = ends.0;
      rising = order.2;
      above = all_push (λ p. top_of rest ≤ p.0.0) atoms (i, q) (higher (top_of rest) (omega (arith, order.1))) order.1;
      falling = falling_push (length ns) atoms (i, q) h.falling (higher (i.0 + 1) (omega arith)) ends.1.0.0;
      atoms = all_push (λ p. (p.0.0 < length ns) × (w ≤ width_at ns p.0.0) × (linearity ns (width_at ns) w (node_at ns p.0.0) ≡ Atom) × (0 < p.1) × (p.1 < 2 ^ w))
          atoms (i, q) h.atoms (ends.1.0.0, ends.1.0.1, e, some, ends.1.1);
      constant = h.constant;
      sum = λ k f is. sum_after Atom k f is (follows_at Atom e k f is);
    }
    replaced_by some (Number v) e = record {
      pending = ends.0;
      rising = order.2;
      above = higher (top_of rest) (omega (arith, order.1));
      falling = h.falling;
      atoms = h.atoms;
      constant = word (c + times w q (v % 2 ^ w));
      sum = λ k f is. sum_after (Number v) k f is (follows_at (Number v) e k f is);
    }
    replaced_by some (Times a v) e =
        with_pending (with_weight w a (times w q (v % 2 ^ w)) rest)
        (more a (times w q (v % 2 ^ w)) rest (parts_at (Times a v) e) (word (q * (v % 2 ^ w))) first)
        (λ k f is. sum_after (Times a v) k f is (follows_at (Times a v) e k f is))
    replaced_by some (Plus a b) e =
        with_pending (with_weight w b q (with_weight w a q rest))
        (more b q (with_weight w a q rest) (parts_at (Plus a b) e).1 ends.1.1 (more a q rest (parts_at (Plus a b) e).0 ends.1.1 first))
        (λ k f is. sum_after (Plus a b) k f is (follows_at (Plus a b) e k f is))
    replaced_by some (Minus a b) e =
        with_pending (with_weight w b (minus w 0 q) (with_weight w a q rest))
        (more b (minus w 0 q) (with_weight w a q rest) (parts_at (Minus a b) e).1 (word (0 + (2 ^ w - q))) (more a q rest (parts_at (Minus a b) e).0 ends.1.1 first))
        (λ k f is. sum_after (Minus a b) k f is (follows_at (Minus a b) e k f is))

    lower_by : (linear : Linear) → linearity ns (width_at ns) w (node_at ns i.0) ≡ linear → top_of (replaced w i q linear left).pending ≤ i.0
    lower_by Atom e = order.1
    lower_by (Number v) e = order.1
    lower_by (Times a v) e = (more a (times w q (v % 2 ^ w)) rest (parts_at (Times a v) e) (word (q * (v % 2 ^ w))) first).2
    lower_by (Plus a b) e = (more b q (with_weight w a q rest) (parts_at (Plus a b) e).1 ends.1.1 (more a q rest (parts_at (Plus a b) e).0 ends.1.1 first)).2
    lower_by (Minus a b) e =
        (more b (minus w 0 q) (with_weight w a q rest) (parts_at (Minus a b) e).1 (word (0 + (2 ^ w - q))) (more a q rest (parts_at (Minus a b) e).0 ends.1.1 first)).2

    -- after a step all pending nodes are below the one that was replaced
    pub replaced_lower : top_of (replaced w i q (linearity ns (width_at ns) w (node_at ns i.0)) left).pending ≤ i.0
    replaced_lower = lower_by (linearity ns (width_at ns) w (node_at ns i.0)) refl

    -- and so are the others before it
    pub rest_lower : top_of rest ≤ i.0
    rest_lower = order.1

    -- the weights of the others, and that of the one
    pub rest_words : AllByRecursion (λ p. p.1 < 2 ^ w) rest
    rest_words = all_weaker (λ p. IsWide (width_at ns) w (length ns) p.0 × (p.1 < 2 ^ w)) (λ p. p.1 < 2 ^ w) (λ p h. h.1) rest ends.0

    pub last_word : q < 2 ^ w
    last_word = ends.1.1

    -- a step keeps what holds
    pub replaced_keeps : 0 < q → IsGathering ns w parts (replaced w i q (linearity ns (width_at ns) w (node_at ns i.0)) left)
    replaced_keeps some = replaced_by some (linearity ns (width_at ns) w (node_at ns i.0)) refl
