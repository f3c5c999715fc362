-- The bytes of memory of a duty's reach: the named nodes need them, and so the pair of each two is needed.
use Rattle.std.proofs.Common.{◌≡◌, ◌≢◌, ◌⊎◌, ℕ, zero, suc, ◌<◌, ◌==◌, ◌&&◌, ◌||◌, Bool, true, false, List, [], ◌∷◌, ◌++◌, Option, Some, None, length, refl, sym, ◌∙◌, ap, subst, inl, inr, arith, if◌then◌else◌}
use Rattle.std.specs.Prelude.{IsTrue, MatchOption, map}
use Rattle.std.specs.List.{AllByRecursion, filter, flat_map, list_any, range_with_len}
use Rattle.std.specs.Option.{option_map}
use Rattle.std.proofs.lemmas.Bool.{and_from, and_parts, both_ways, cases_Bool, eqb-true, or_cases, or_left, or_right}
use Rattle.std.proofs.lemmas.List.Folds.{list_any-append}
use Rattle.node_values.specs.declared.node.Node.{Node}
use Rattle.node_values.specs.declared.node.Node.TheVariants.{Const, Reg, Entry, VecByte, Start, Probe, Add, Sub, Mul, And, Or, Xor, Not, Shl, Shr, Sar, Cat, Cut, Sx, Eq, Ult, Slt, If}
use Rattle.node_values.specs.declared.node.NodeId.{NodeId}
use Rattle.node_values.specs.Nodes.{arguments}
use Rattle.node_values.specs.Sheets.{IsSheet, node_at}
use Rattle.node_reach.specs.Reached.{is_needed}
use Rattle.duty_claims.specs.declared.duty.Duty.{Duty}
use Rattle.duty_claims.specs.declared.duty.StartPair.{StartPair}
use Rattle.duty_claims.specs.Needs.{Needs, address_of, each_two, is_needed_by, is_start, side_of, start_nodes}
use Rattle.duty_claims.specs.Whole.{IsInLines, IsWhole, IsWholePair, NeedsOnlyOf}
use Rattle.duty_claims.proofs.Needs.{needed-is, needs_go_on, needs_itself}
use Rattle.clause_rows.specs.Reach.{is_in_reach, is_pair_needed, if_there, named_nodes, needed_pairs, pair_nodes, reach_roots}
use Rattle.clause_rows.proofs.Elements.{all_append, all_passing}
use Rattle.clause_rows.proofs.Inside.{named_inside, needed_inside}
use Rattle.resolution_chains.proofs.Marking.{none_some, some_same}
use Rattle.refutation_rules.proofs.Lookups.{any_item, map_step}
use Rattle.refutation_rules.specs.Pairs.{is_pair_of, scratch_node}

-- a byte of memory has its address as an argument
byte_needs : (test : ℕ → Bool) (n : Node) → is_start n ≡ true → test (address_of n) ≡ true → list_any test (arguments n) ≡ true
byte_needs test (Const w v) s h = absurd (both_ways false refl s)
byte_needs test (Reg side r) s h = absurd (both_ways false refl s)
byte_needs test (Entry r) s h = absurd (both_ways false refl s)
byte_needs test (VecByte side r i) s h = absurd (both_ways false refl s)
byte_needs test (Start side at) s h = or_left (test at.0) false h
byte_needs test Probe s h = absurd (both_ways false refl s)
byte_needs test (Add a b) s h = absurd (both_ways false refl s)
byte_needs test (Sub a b) s h = absurd (both_ways false refl s)
byte_needs test (Mul a b) s h = absurd (both_ways false refl s)
byte_needs test (And a b) s h = absurd (both_ways false refl s)
byte_needs test (Or a b) s h = absurd (both_ways false refl s)
byte_needs test (Xor a b) s h = absurd (both_ways false refl s)
byte_needs test (Not a) s h = absurd (both_ways false refl s)
byte_needs test (Shl a k) s h = absurd (both_ways false refl s)
byte_needs test (Shr a k) s h = absurd (both_ways false refl s)
byte_needs test (Sar a k) s h = absurd (both_ways false refl s)
byte_needs test (Cat high low) s h = absurd (both_ways false refl s)
byte_needs test (Cut a k n) s h = absurd (both_ways false refl s)
byte_needs test (Sx n a) s h = absurd (both_ways false refl s)
byte_needs test (Eq a b) s h = absurd (both_ways false refl s)
byte_needs test (Ult a b) s h = absurd (both_ways false refl s)
byte_needs test (Slt a b) s h = absurd (both_ways false refl s)
byte_needs test (If c a b) s h = absurd (both_ways false refl s)

all_both : {A : Type 0} (P Q : A → Type 0) (xs : List A) → AllByRecursion P xs → AllByRecursion Q xs → AllByRecursion (λ x. P x × Q x) xs
all_both P Q [] h k = tt
all_both P Q (x ∷ xs) h k = ((h.0, k.0), all_both P Q xs h.1 k.1)

mapped_have : {A B : Type 0} (P : B → Type 0) (f : A → B) (xs : List A) → AllByRecursion P (map f xs) → AllByRecursion (λ x. P (f x)) xs
mapped_have P f [] h = tt
mapped_have P f (x ∷ xs) h = (h.0, mapped_have P f xs h.1)

-- a fact of both of two
abbrev pub OfBoth : (ℕ → Type 0) → ℕ × ℕ → Type 0
OfBoth P t = P t.0 × P t.1

with_each : (P : ℕ → Type 0) (m : ℕ) (ns : List ℕ) → P m → AllByRecursion P ns → AllByRecursion (OfBoth P) (map (λ n. (m, n)) ns)
with_each P m [] one h = tt
with_each P m (n ∷ ns) one h = ((one, h.0), with_each P m ns one h.1)

-- each two of a list have what each of it has
two_have : (P : ℕ → Type 0) (ms : List ℕ) → AllByRecursion P ms → AllByRecursion (OfBoth P) (each_two ms)
two_have P [] h = tt
two_have P (m ∷ ms) h = all_append (OfBoth P) (map (λ n. (m, n)) ms) (each_two ms) (with_each P m ms h.0 h.1) (two_have P ms h.1)

anything : {A : Type 0} (xs : List A) → AllByRecursion (λ x. Unit {0}) xs
anything [] = tt
anything (x ∷ xs) = (tt, anything xs)

module _ (d : Duty) (sheet : IsSheet d.sheet.now) (whole : IsWhole d) where
  -- a node that is a byte of memory
  abbrev pub IsMemory : ℕ → Type 0
  IsMemory k = IsTrue (is_start (node_at d.sheet.now k))

  -- a whole pair of bytes of memory
  pub record IsPair (p : StartPair) : Type 0 where
    pub is : IsWholePair d.sheet.now d.scratch.now p
    pub m : IsMemory p.m.0
    pub n : IsMemory p.n.0

  are_pairs : (ps : List StartPair) → AllByRecursion (IsWholePair d.sheet.now d.scratch.now) ps
      → AllByRecursion (λ p. OfBoth IsMemory (p.m.0, p.n.0)) ps → AllByRecursion IsPair ps
  are_pairs [] h k = tt
  are_pairs (p ∷ ps) h k = (record { is = h.0; m = k.0.0; n = k.0.1 }, are_pairs ps h.1 k.1)

  pub pairs_are : AllByRecursion IsPair d.pairs.now
  pairs_are =
      are_pairs d.pairs.now whole.pairs
      (mapped_have (OfBoth IsMemory) (λ (p : StartPair). (p.m.0, p.n.0)) d.pairs.now
      (subst (AllByRecursion (OfBoth IsMemory)) (sym whole.each_two)
      (two_have IsMemory (start_nodes d.sheet.now)
      (all_passing (λ i. is_start (node_at d.sheet.now i)) (λ i. Unit {0}) IsMemory (range_with_len 0 (length d.sheet.now))
      (λ i t h. t) (anything (range_with_len 0 (length d.sheet.now)))))))

  -- what is needed by a needed node is needed
  needed_on : (roots : List NodeId) → AllByRecursion (λ n. n.0 < length d.sheet.now) roots → (m k : ℕ)
      → is_needed d.sheet.now roots m ≡ true → Needs d.sheet.now m k → is_needed d.sheet.now roots k ≡ true
  needed_on [] inside m k h g = absurd (both_ways false refl h)
  needed_on (root ∷ roots) inside m k h g =
      elim (or_cases (is_needed_by d.sheet.now m root.0) (is_needed d.sheet.now roots m) h) [
        | inl here ↦
            or_left (is_needed_by d.sheet.now k root.0) (is_needed d.sheet.now roots k) (needs_go_on d.sheet.now sheet root.0 m k inside.0 here g)
        | inr there ↦
            or_right (is_needed_by d.sheet.now k root.0) (is_needed d.sheet.now roots k) (needed_on roots inside.1 m k there g)
      ]

  abbrev IsNamed : ℕ → Type 0
  IsNamed k = IsTrue (is_needed d.sheet.now (named_nodes d) k)

  -- what the address of a named byte needs is needed
  by_address : (m k : ℕ) → m < length d.sheet.now → IsMemory m → IsNamed m → Needs d.sheet.now (address_of (node_at d.sheet.now m)) k → IsNamed k
  by_address m k b memory named h =
      needed_on (named_nodes d) (named_inside d whole) m k named
      (needed-is d.sheet.now sheet k m b
      ∙ or_right (m == k) (list_any (is_needed_by d.sheet.now k) (arguments (node_at d.sheet.now m)))
      (byte_needs (is_needed_by d.sheet.now k) (node_at d.sheet.now m) memory h))

  inside_named : (k : ℕ) → IsNamed k → k < length d.sheet.now
  inside_named k h = needed_inside d.sheet.now sheet (named_nodes d) (named_inside d whole) k h

  -- a byte that a node of a needed pair needs is needed by the named nodes
  by_node : (p : StartPair) → IsPair p → is_pair_needed d p ≡ true → (node : NodeId) → NeedsOnlyOf d.sheet.now p.m.0 p.n.0 node
      → (k : ℕ) → IsMemory k → Needs d.sheet.now node.0 k → IsNamed k
  by_node p pair needed node only k memory h =
      let both = and_parts (is_needed d.sheet.now (named_nodes d) p.m.0) (is_needed d.sheet.now (named_nodes d) p.n.0) needed in
      elim (only k memory h) [
        | inl m ↦ by_address p.m.0 k (inside_named p.m.0 both.0) pair.m both.0 m
        | inr n ↦ by_address p.n.0 k (inside_named p.n.0 both.1) pair.n both.1 n
      ]

  -- what is known of a pair's scratch node
  pub scratch_facts : (p : StartPair) → IsPair p → (node : NodeId) → p.scratch ≡ Some node → IsInLines d.sheet.now d.scratch.now p.m.0 p.n.0 node
  scratch_facts p pair node is =
      let facts = subst (λ (o : Option NodeId). MatchOption o (side_of (node_at d.sheet.now p.m.0) ≡ side_of (node_at d.sheet.now p.n.0))
      (λ n. (side_of (node_at d.sheet.now p.m.0) ≢ side_of (node_at d.sheet.now p.n.0)) × IsInLines d.sheet.now d.scratch.now p.m.0 p.n.0 n)) is pair.is.scratch in
      facts.1

  by_scratch : (p : StartPair) → IsPair p → is_pair_needed d p ≡ true → (o : Option NodeId) → p.scratch ≡ o → (k : ℕ) → IsMemory k
      → list_any (λ n. is_needed_by d.sheet.now k n.0) (if_there o) ≡ true → IsNamed k
  by_scratch p pair needed None is k memory h = absurd (both_ways false refl h)
  by_scratch p pair needed (Some node) is k memory h =
      by_node p pair needed node (scratch_facts p pair node is).needs k memory
      (elim (or_cases (is_needed_by d.sheet.now k node.0) false h) [ inl t ↦ t | inr f ↦ absurd (both_ways false refl f) ])

  by_pairs : (ps : List StartPair) → AllByRecursion (λ p. IsPair p × (is_pair_needed d p ≡ true)) ps → (k : ℕ) → IsMemory k
      → list_any (λ n. is_needed_by d.sheet.now k n.0) (flat_map pair_nodes ps) ≡ true → IsNamed k
  by_pairs [] all k memory h = absurd (both_ways false refl h)
  by_pairs (p ∷ ps) all k memory h =
      elim (or_cases (list_any (λ n. is_needed_by d.sheet.now k n.0) (pair_nodes p)) (list_any (λ n. is_needed_by d.sheet.now k n.0) (flat_map pair_nodes ps))
      (sym (list_any-append (λ n. is_needed_by d.sheet.now k n.0) (pair_nodes p) (flat_map pair_nodes ps)) ∙ h)) [
        | inl here ↦ elim (or_cases (is_needed_by d.sheet.now k p.same_at.0) (list_any (λ n. is_needed_by d.sheet.now k n.0) (if_there p.scratch)) here) [
          | inl same ↦ by_node p all.0.0 all.0.1 p.same_at all.0.0.is.same_at.needs k memory same
          | inr scratch ↦ by_scratch p all.0.0 all.0.1 p.scratch refl k memory scratch
        ]
        | inr there ↦ by_pairs ps all.1 k memory there
      ]

  -- the named nodes need each byte of memory of the reach
  pub bytes_named : (k : ℕ) → IsTrue (is_in_reach d k) → IsMemory k → IsNamed k
  bytes_named k h memory =
      elim (or_cases (is_needed d.sheet.now (named_nodes d) k) (list_any (λ n. is_needed_by d.sheet.now k n.0) (flat_map pair_nodes (needed_pairs d)))
      (sym (list_any-append (λ n. is_needed_by d.sheet.now k n.0) (named_nodes d) (flat_map pair_nodes (needed_pairs d))) ∙ h)) [
        | inl named ↦ named
        | inr paired ↦
            by_pairs (needed_pairs d)
            (all_passing (is_pair_needed d) IsPair (λ p. IsPair p × (is_pair_needed d p ≡ true)) d.pairs.now (λ p t pair. (pair, t)) pairs_are)
            k memory paired
      ]

  -- What is found to be the scratch node of two bytes: the pair that has it, which is of these bytes in some order. Where
  -- the pair is needed, the node is one of those that make up the reach.
  pub record IsFound (ps : List StartPair) (i j at : ℕ) : Type 0 where
    pub p : StartPair
    pub node : NodeId
    pub pair : IsPair p
    pub order : ((p.m.0 ≡ i) × (p.n.0 ≡ j)) ⊎ ((p.m.0 ≡ j) × (p.n.0 ≡ i))
    pub scratch : p.scratch ≡ Some node
    pub is : node.0 ≡ at
    pub reach : is_pair_needed d p ≡ true
        → list_any (λ n. is_needed_by d.sheet.now at n.0) (flat_map pair_nodes (filter (is_pair_needed d) ps)) ≡ true

  order_of : (i j : ℕ) (p : StartPair) → is_pair_of i j p ≡ true
      → ((p.m.0 ≡ i) × (p.n.0 ≡ j)) ⊎ ((p.m.0 ≡ j) × (p.n.0 ≡ i))
  order_of i j p h = elim (or_cases (p.m.0 == i && p.n.0 == j) (p.m.0 == j && p.n.0 == i) h) [
    | inl a ↦ let b = and_parts (p.m.0 == i) (p.n.0 == j) a in inl (eqb-true p.m.0 i b.0, eqb-true p.n.0 j b.1)
    | inr a ↦ let b = and_parts (p.m.0 == j) (p.n.0 == i) a in inr (eqb-true p.m.0 j b.0, eqb-true p.n.0 i b.1)
  ]

  -- the scratch node of a pair is one of its nodes
  its_node : (p : StartPair) (node : NodeId) (at : ℕ) (ps : List StartPair) → p.scratch ≡ Some node → node.0 ≡ at → node.0 < length d.sheet.now
      → is_pair_needed d p ≡ true
      → list_any (λ n. is_needed_by d.sheet.now at n.0) (flat_map pair_nodes (filter (is_pair_needed d) (p ∷ ps))) ≡ true
  its_node p node at ps has is inside needed =
      let own : is_needed_by d.sheet.now at node.0 ≡ true =
      subst (λ (k : ℕ). is_needed_by d.sheet.now k node.0 ≡ true) is (needs_itself d.sheet.now sheet node.0 inside) in
      let there : list_any (λ n. is_needed_by d.sheet.now at n.0) (if_there p.scratch) ≡ true =
      subst (λ (o : Option NodeId). list_any (λ n. is_needed_by d.sheet.now at n.0) (if_there o) ≡ true) (sym has)
      (or_left (is_needed_by d.sheet.now at node.0) false own) in
      let rest : List StartPair = filter (is_pair_needed d) ps in
      rw needed
      (list_any-append (λ n. is_needed_by d.sheet.now at n.0) (pair_nodes p) (flat_map pair_nodes rest)
      ∙ or_left (list_any (λ n. is_needed_by d.sheet.now at n.0) (pair_nodes p)) (list_any (λ n. is_needed_by d.sheet.now at n.0) (flat_map pair_nodes rest))
      (or_right (is_needed_by d.sheet.now at p.same_at.0) (list_any (λ n. is_needed_by d.sheet.now at n.0) (if_there p.scratch)) there))

  -- one more pair before them
  after_pair : (p : StartPair) (at : ℕ) (ps : List StartPair)
      → list_any (λ n. is_needed_by d.sheet.now at n.0) (flat_map pair_nodes (filter (is_pair_needed d) ps)) ≡ true
      → list_any (λ n. is_needed_by d.sheet.now at n.0) (flat_map pair_nodes (filter (is_pair_needed d) (p ∷ ps))) ≡ true
  after_pair p at ps h = elim (cases_Bool (is_pair_needed d p)) [
    | inl t ↦
        let rest : List StartPair = filter (is_pair_needed d) ps in
        rw t
        (list_any-append (λ n. is_needed_by d.sheet.now at n.0) (pair_nodes p) (flat_map pair_nodes rest)
        ∙ or_right (list_any (λ n. is_needed_by d.sheet.now at n.0) (pair_nodes p)) (list_any (λ n. is_needed_by d.sheet.now at n.0) (flat_map pair_nodes rest)) h)
    | inr f ↦ rw f h
  ]

  pub found : (ps : List StartPair) → AllByRecursion IsPair ps → (i j at : ℕ) → scratch_node ps i j ≡ Some at → IsFound ps i j at
  found [] all i j at h = absurd (none_some at h)
  found (p ∷ ps) all i j at h = elim (cases_Bool (is_pair_of i j p)) [
    | inl t ↦
        let some : option_map (λ (node : NodeId). node.0) p.scratch ≡ Some at = rw t at h in
        let node = map_step (λ (node : NodeId). node.0) p.scratch at some in
        record {
          p = p;
          node = node.0;
          pair = all.0;
          order = order_of i j p t;
          scratch = node.1;
          is = node.2;
          reach = its_node p node.0 at ps node.1 node.2 (scratch_facts p all.0 node.0 node.1).is.0;
        }
    | inr f ↦
        let rest : scratch_node ps i j ≡ Some at = rw f at h in
        let r = found ps all.1 i j at rest in
        record {
          p = r.p;
          node = r.node;
          pair = r.pair;
          order = r.order;
          scratch = r.scratch;
          is = r.is;
          reach = λ needed. after_pair p at ps (r.reach needed);
        }
  ]
