-- Marks of nodes.
use Rattle.std.proofs.Common.{◌≡◌, ◌⊎◌, ℕ, zero, suc, ◌<◌, ◌≤◌, ◌==◌, ◌||◌, Bool, true, false, List, [], ◌∷◌, ◌++◌, length, set, refl, sym, ◌∙◌, ap, subst, arith, inl, inr}
use Rattle.std.specs.List.{AllByRecursion, list_any}
use Rattle.std.proofs.lemmas.List.Folds.{list_any-append}
use Rattle.std.proofs.lemmas.List.{get_or-set_other, get_or-set_same}
use Rattle.std.proofs.lemmas.Bool.{cases_Bool, cases_lt, eq-eqb, eqb-true, eqb-false}
use Rattle.node_values.specs.declared.node.Node.{Node}
use Rattle.node_values.specs.declared.node.NodeId.{NodeId}
use Rattle.node_values.specs.Nodes.{arguments}
use Rattle.node_values.specs.Sheets.{IsSheet, node_at}
use Rattle.node_values.proofs.SheetLaws.{at_arguments}
use Rattle.duty_claims.specs.Needs.{Needs, is_needed_by}
use Rattle.duty_claims.proofs.Needs.{needed-is, needed_have, needs_go_on, needs_itself}
use Rattle.node_reach.specs.Reached.{MarksBesides, is_marked, is_needed}

-- two markings one after another
pub besides_both : (a b c : List Bool) (x : ℕ) (xs : List ℕ) → MarksBesides a b (x ∷ []) → MarksBesides b c xs → MarksBesides a c (x ∷ xs)
besides_both a b c x xs p q k =
    q k ∙ ap (λ (z : Bool). z || list_any (λ j. j == k) xs) (p k)
    ∙ regrouped (is_marked a k) (x == k) (list_any (λ j. j == k) xs)
  where
    regrouped : (l m n : Bool) → ((l || (m || false)) || n) ≡ (l || (m || n))
    regrouped true m n = refl
    regrouped false true n = refl
    regrouped false false n = refl

-- a list that grows by false has the same marks
pub grown_marks : (xs : List Bool) (k : ℕ) → is_marked (xs ++ false ∷ []) k ≡ is_marked xs k
grown_marks [] zero = refl
grown_marks [] (suc k) = refl
grown_marks (x ∷ xs) zero = refl
grown_marks (x ∷ xs) (suc k) = grown_marks xs k

-- one more mark
pub set_marks : (xs ys : List Bool) (n : ℕ) → n < length ys → ((k : ℕ) → is_marked ys k ≡ is_marked xs k) → MarksBesides xs (set ys n true) (n ∷ [])
set_marks xs ys n b same k = elim (cases_Bool (n == k)) [
  | inl t ↦
      let e : n ≡ k = eqb-true n k t in
      rw t (subst (λ (j : ℕ). is_marked (set ys n true) j ≡ (is_marked xs j || true)) e
      (get_or-set_same ys n true false b ∙ sym (or_true (is_marked xs n))))
  | inr f ↦ rw f (get_or-set_other ys n k true false (λ e. eqb-false n k f (sym e)) ∙ same k ∙ sym (or_false (is_marked xs k)))
]
  where
    or_true : (c : Bool) → (c || true) ≡ true
    or_true true = refl
    or_true false = refl

    or_false : (c : Bool) → (c || false) ≡ c
    or_false true = refl
    or_false false = refl

-- the nodes that are marked at first: those of these roots
abbrev pub MarksRoots : List NodeId → List Bool → Type 0
MarksRoots roots marks = (k : ℕ) → is_marked marks k ≡ list_any (λ n. n.0 == k) roots

-- one more root
pub roots_more : (roots : List NodeId) (n : NodeId) (old new : List Bool) → MarksRoots roots old → MarksBesides old new (n.0 ∷ [])
    → MarksRoots (roots ++ n ∷ []) new
roots_more roots n old new p q k =
    q k ∙ ap (λ (z : Bool). z || (n.0 == k || false)) (p k) ∙ sym (list_any-append (λ m. m.0 == k) roots (n ∷ []))

-- What is marked where the nodes from i on have marked their arguments: no node but needed ones, all roots, and the
-- arguments of the marked ones from i on.
pub record MarksNeeded (ns : List Node) (roots : List NodeId) (i : ℕ) (marks : List Bool) : Type 0 where
  pub inside : (k : ℕ) → is_marked marks k ≡ true → k < length ns
  pub sound : (k : ℕ) → is_marked marks k ≡ true → is_needed ns roots k ≡ true
  pub first : AllByRecursion (λ n. is_marked marks n.0 ≡ true) roots
  pub closed : (k : ℕ) → i ≤ k → is_marked marks k ≡ true → AllByRecursion (λ j. is_marked marks j ≡ true) (arguments (node_at ns k))

any_of : {X : Type 0} (f : X → Bool) (xs : List X) (Q : Type 0) → list_any f xs ≡ true → AllByRecursion (λ n. f n ≡ true → Q) xs → Q
any_of f [] Q h all = absurd (cc)
any_of f (x ∷ xs) Q h all = elim (cases_Bool (f x)) [ inl t ↦ all.0 t | inr n ↦ any_of f xs Q (rw n at h) all.1 ]

either : (a b : Bool) → b ≡ true → (a || b) ≡ true
either true b h = refl
either false b h = h

more_any : {X : Type 0} (f g : X → Bool) (xs : List X) → AllByRecursion (λ n. f n ≡ true → g n ≡ true) xs → list_any f xs ≡ true → list_any g xs ≡ true
more_any f g [] all h = h
more_any f g (x ∷ xs) all h = elim (cases_Bool (f x)) [
  | inl t ↦ rw (all.0 t) refl
  | inr n ↦ either (g x) (list_any g xs) (more_any f g xs all.1 (rw n at h))
]

-- what holds of all that a list has holds of each of it
listed : {X : Type 0} (key : X → ℕ) (xs : List X) (f : ℕ → Bool) → ((k : ℕ) → list_any (λ x. key x == k) xs ≡ true → f k ≡ true)
    → AllByRecursion (λ x. f (key x) ≡ true) xs
listed key [] f g = tt
listed key (x ∷ xs) f g = (
  g (key x) (rw (eq-eqb (key x) (key x) refl) refl),
  listed key xs f (λ k h. g k (either (key x == k) (list_any (λ y. key y == k) xs) h)),
)

all_of : {X : Type 0} (P Q : X → Type 0) (xs : List X) → ((x : X) → P x → Q x) → AllByRecursion P xs → AllByRecursion Q xs
all_of P Q [] f all = tt
all_of P Q (x ∷ xs) f all = (f x all.0, all_of P Q xs f all.1)

each_one : {X : Type 0} (P : X → Type 0) (xs : List X) → ((x : X) → P x) → AllByRecursion P xs
each_one P [] f = tt
each_one P (x ∷ xs) f = (f x, each_one P xs f)

module _ (ns : List Node) (sheet : IsSheet ns) (roots : List NodeId) (below : AllByRecursion (λ n. n.0 < length ns) roots) where
  -- the roots are marked, and nothing yet for their arguments
  pub needed_none : (marks : List Bool) → MarksRoots roots marks → MarksNeeded ns roots (length marks) marks
  needed_none marks m = record {
    inside = λ k t. any_of (λ n. n.0 == k) roots (k < length ns) (sym (m k) ∙ t)
        (all_of (λ n. n.0 < length ns) (λ n. (n.0 == k) ≡ true → k < length ns) roots
        (λ n b e. subst (λ (j : ℕ). j < length ns) (eqb-true n.0 k e) b) below);
    sound = λ k t. more_any (λ n. n.0 == k) (λ n. is_needed_by ns k n.0) roots
        (all_of (λ n. n.0 < length ns) (λ n. (n.0 == k) ≡ true → is_needed_by ns k n.0 ≡ true) roots
        (λ n b e. subst (λ (j : ℕ). is_needed_by ns j n.0 ≡ true) (eqb-true n.0 k e) (needs_itself ns sheet n.0 b)) below) (sym (m k) ∙ t);
    first = listed (λ n. n.0) roots (is_marked marks) (λ k h. m k ∙ h);
    closed = λ k b t. absurd (past marks k b t);
  }
    where
      past : (xs : List Bool) (k : ℕ) → length xs ≤ k → is_marked xs k ≡ true → ⊥
      past [] k b t = cc
      past (x ∷ xs) zero b t = absurd (omega arith)
      past (x ∷ xs) (suc k) b t = past xs k (omega arith) t

  -- one more node
  pub needed_more : (i : ℕ) (old new : List Bool) → MarksNeeded ns roots (suc i) old → is_marked old i ≡ true
      → MarksBesides old new (arguments (node_at ns i)) → MarksNeeded ns roots i new
  needed_more i old new m t besides = record {
    inside = λ k h. elim (new_mark k h) [ inl o ↦ m.inside k o | inr a ↦ let b : k < i = lower k a in omega (arith, here) ];
    sound = λ k h. elim (new_mark k h) [ inl o ↦ m.sound k o | inr a ↦ argument k a ];
    first = all_of (λ n. is_marked old n.0 ≡ true) (λ n. is_marked new n.0 ≡ true) roots (λ n. kept n.0) m.first;
    closed = λ k b h. elim (cases_lt i k) [
      | inl above ↦ elim (new_mark k h) [
        | inl o ↦ all_of (λ j. is_marked old j ≡ true) (λ j. is_marked new j ≡ true) (arguments (node_at ns k)) kept (m.closed k (omega arith) o)
        | inr a ↦ let c : k < i = lower k a in absurd (omega arith)
      ]
      | inr same ↦
          let e : i ≡ k = omega arith in
          subst (λ (j : ℕ). AllByRecursion (λ l. is_marked new l ≡ true) (arguments (node_at ns j))) e
          (listed (λ j. j) (arguments (node_at ns i)) (is_marked new) added)
    ];
  }
    where
      here : i < length ns
      here = m.inside i t

      split : (c d e : Bool) → c ≡ (d || e) → c ≡ true → (d ≡ true) ⊎ (e ≡ true)
      split c true e p h = inl refl
      split c false e p h = inr (sym p ∙ h)

      new_mark : (k : ℕ) → is_marked new k ≡ true → (is_marked old k ≡ true) ⊎ (list_any (λ j. j == k) (arguments (node_at ns i)) ≡ true)
      new_mark k h = split (is_marked new k) (is_marked old k) (list_any (λ j. j == k) (arguments (node_at ns i))) (besides k) h

      kept : (k : ℕ) → is_marked old k ≡ true → is_marked new k ≡ true
      kept k o = besides k ∙ rw o refl

      added : (k : ℕ) → list_any (λ j. j == k) (arguments (node_at ns i)) ≡ true → is_marked new k ≡ true
      added k a = besides k ∙ either (is_marked old k) (list_any (λ j. j == k) (arguments (node_at ns i))) a

      lower : (k : ℕ) → list_any (λ j. j == k) (arguments (node_at ns i)) ≡ true → k < i
      lower k a = any_of (λ j. j == k) (arguments (node_at ns i)) (k < i) a
          (all_of (λ j. j < i) (λ j. (j == k) ≡ true → k < i) (arguments (node_at ns i))
          (λ j b e. subst (λ (l : ℕ). l < i) (eqb-true j k e) b) (at_arguments ns sheet (λ j. j < i) i here (λ j b. b)))

      argument_needed : (k : ℕ) → list_any (λ j. j == k) (arguments (node_at ns i)) ≡ true → Needs ns i k
      argument_needed k a =
          needed-is ns sheet k i here
          ∙ either (i == k) (list_any (is_needed_by ns k) (arguments (node_at ns i)))
          (more_any (λ j. j == k) (is_needed_by ns k) (arguments (node_at ns i))
          (all_of (λ j. j < i) (λ j. (j == k) ≡ true → is_needed_by ns k j ≡ true) (arguments (node_at ns i))
          (λ j b e. subst (λ (l : ℕ). is_needed_by ns l j ≡ true) (eqb-true j k e) (needs_itself ns sheet j (omega (arith, here))))
          (at_arguments ns sheet (λ j. j < i) i here (λ j b. b))) a)

      argument : (k : ℕ) → list_any (λ j. j == k) (arguments (node_at ns i)) ≡ true → is_needed ns roots k ≡ true
      argument k a = more_any (λ n. is_needed_by ns i n.0) (λ n. is_needed_by ns k n.0) roots
          (all_of (λ n. n.0 < length ns) (λ n. is_needed_by ns i n.0 ≡ true → is_needed_by ns k n.0 ≡ true) roots
          (λ n b s. needs_go_on ns sheet n.0 i k b s (argument_needed k a)) below)
          (m.sound i t)

  pub needed_skipped : (i : ℕ) (marks : List Bool) → MarksNeeded ns roots (suc i) marks → is_marked marks i ≡ false → MarksNeeded ns roots i marks
  needed_skipped i marks m f = record {
    inside = m.inside;
    sound = m.sound;
    first = m.first;
    closed = λ k b t. elim (cases_lt i k) [
      | inl above ↦ m.closed k (omega arith) t
      | inr here ↦ let e : k ≡ i = omega arith in absurd (no (is_marked marks i) (ap (is_marked marks) (sym e) ∙ t) f)
    ];
  }
    where
      no : (c : Bool) → c ≡ true → c ≡ false → ⊥
      no c p q = cc

  -- at the end the marks are the needed nodes
  pub needed_all : (marks : List Bool) → MarksNeeded ns roots 0 marks → (k : ℕ) → is_marked marks k ≡ is_needed ns roots k
  needed_all marks m k = elim (cases_Bool (is_marked marks k)) [
    | inl t ↦ t ∙ sym (m.sound k t)
    | inr f ↦ f ∙ sym (not_needed (cases_Bool (is_needed ns roots k)) f)
  ]
    where
      marked : is_needed ns roots k ≡ true → is_marked marks k ≡ true
      marked h = any_of (λ n. is_needed_by ns k n.0) roots (is_marked marks k ≡ true) h
          (both roots m.first below)
        where
          both : (rs : List NodeId) → AllByRecursion (λ n. is_marked marks n.0 ≡ true) rs → AllByRecursion (λ n. n.0 < length ns) rs
              → AllByRecursion (λ n. is_needed_by ns k n.0 ≡ true → is_marked marks k ≡ true) rs
          both [] p q = tt
          both (r ∷ rs) p q =
              (λ s. needed_have ns sheet (λ j. is_marked marks j ≡ true) (λ j b t. m.closed j (omega arith) t) (suc r.0) r.0 k (omega arith) q.0 p.0 s, both rs p.1 q.1)

      not_needed : (is_needed ns roots k ≡ true) ⊎ (is_needed ns roots k ≡ false) → is_marked marks k ≡ false → is_needed ns roots k ≡ false
      not_needed (inl h) f = absurd (no (is_marked marks k) (marked h) f)
        where
          no : (c : Bool) → c ≡ true → c ≡ false → ⊥
          no c p q = cc
      not_needed (inr h) f = h
