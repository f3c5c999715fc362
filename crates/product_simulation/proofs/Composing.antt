-- Chains of equivalences, over states and functions of any kind.
use Rattle.std.proofs.Common.{◌≡◌, ℕ, ◌+◌, ◌*◌, ◌<◌, ◌≤◌, List, [], ◌∷◌, length, fold, max, sym, ◌∙◌, ap, subst, arith}
use Rattle.std.proofs.Math.Nat.{add-mul, mul-add, mul-le-mul_left, mul_assoc, mul_comm, zero-max, zero-mul}
use Rattle.runs.specs.Equivalent.{AreEquivalent, Follows}
use Rattle.runs.specs.Run.{Run, Step, run_of}
use Rattle.runs.specs.declared.ends.RunEnd.TheVariants.{Returned, Faulted}
use Rattle.runs.proofs.Runs.{faulted_stays, returned_stays, run_by_end}
use Rattle.product_automaton.specs.ChainBounds.{composed_bound, joined_bound}
use Rattle.product_simulation.specs.Chains.{AreLinked, Link, bounds_of, last_of}

-- the steps of two links, one after the other, are within the joined bound on either side
joined_bound-forth : (k l n : ℕ) → l * (k * (n + 1) + 1) ≤ joined_bound k l * (n + 1)
joined_bound-forth k l n =
    let parts : l * (k * (n + 1) + 1) ≡ l * (k * (n + 1)) + l * 1 = mul-add l (k * (n + 1)) 1 in
    let turned : l * (k * (n + 1)) ≡ k * l * (n + 1) = sym (mul_assoc l k (n + 1)) ∙ ap (λ (x : ℕ). x * (n + 1)) (mul_comm l k) in
    let sum : joined_bound k l * (n + 1) ≡ k * l * (n + 1) + max k l * (n + 1) = add-mul (k * l) (max k l) (n + 1) in
    let once : max k l * 1 ≤ max k l * (n + 1) = mul-le-mul_left (max k l) (omega arith) in
    omega arith

joined_bound-back : (k l n : ℕ) → k * (l * (n + 1) + 1) ≤ joined_bound k l * (n + 1)
joined_bound-back k l n =
    let parts : k * (l * (n + 1) + 1) ≡ k * (l * (n + 1)) + k * 1 = mul-add k (l * (n + 1)) 1 in
    let turned : k * (l * (n + 1)) ≡ k * l * (n + 1) = sym (mul_assoc k l (n + 1)) in
    let sum : joined_bound k l * (n + 1) ≡ k * l * (n + 1) + max k l * (n + 1) = add-mul (k * l) (max k l) (n + 1) in
    let once : max k l * 1 ≤ max k l * (n + 1) = mul-le-mul_left (max k l) (omega arith) in
    omega arith

-- what follows what follows
follows_joined : {S : Type 0} (k l bound : ℕ) (f g h : S → Step S) (s : S) → Follows k f g s → Follows l g h s
    → ((n : ℕ) → l * (k * (n + 1) + 1) ≤ bound * (n + 1)) → Follows bound f h s
follows_joined k l bound f g h s first second within = record {
  returned = λ n i is. (let there = first.returned n i is in
      let beyond = second.returned (k * (n + 1)) there.0 there.1 in (
        beyond.0,
        ap (λ (r : Run _). r.1) (returned_stays h s (run_of h s (l * (k * (n + 1) + 1))).0 beyond.0 (l * (k * (n + 1) + 1)) (bound * (n + 1)) (within n)
            (run_by_end h s (l * (k * (n + 1) + 1)) (Returned beyond.0) beyond.1)),
      ));
  faulted = λ n i is. (let there = first.faulted n i is in
      let beyond = second.faulted (k * (n + 1)) there.0 there.1 in (
        beyond.0,
        ap (λ (r : Run _). r.1) (faulted_stays h s (run_of h s (l * (k * (n + 1) + 1))).0 beyond.0 (l * (k * (n + 1) + 1)) (bound * (n + 1)) (within n)
            (run_by_end h s (l * (k * (n + 1) + 1)) (Faulted beyond.0) beyond.1)),
      ));
  no_unset = first.no_unset;
}

joined_bound-none : (l : ℕ) → joined_bound 0 l ≡ l
joined_bound-none l = let none : 0 * l ≡ 0 = zero-mul l in let most : max 0 l ≡ l = zero-max l in omega arith

module _ {S F : Type 0} (starts : S → Type 0) (same : S → S → Type 0) (step : F → S → Step S)
    (joins : (s : S) (f g h : F) (n m o : ℕ) → same (run_of (step f) s n).0 (run_of (step g) s m).0
    → same (run_of (step g) s m).0 (run_of (step h) s o).0 → same (run_of (step f) s n).0 (run_of (step h) s o).0) where
  -- Equivalent within k, and from there equivalent within l: together equivalent within the joined bound.
  pub equivalent_joined : (k l : ℕ) (f g h : F) → AreEquivalent starts same k (step f) (step g) → AreEquivalent starts same l (step g) (step h)
      → AreEquivalent starts same (joined_bound k l) (step f) (step h)
  equivalent_joined k l f g h first second = record {
    left = λ s start. follows_joined k l (joined_bound k l) (step f) (step g) (step h) s (first.left s start) (second.left s start) (joined_bound-forth k l);
    right = λ s start. follows_joined l k (joined_bound k l) (step h) (step g) (step f) s (second.right s start) (first.right s start) (joined_bound-back k l);
    same = λ s start n o i j is last. (let middle = (first.left s start).returned n i is in
        joins s f g h n (k * (n + 1)) o (first.same s start n (k * (n + 1)) i middle.0 is middle.1)
        (second.same s start (k * (n + 1)) o middle.0 j middle.1 last));
  }

  more_links : (links : List (Link F)) (k : ℕ) (f g : F) → AreEquivalent starts same k (step f) (step g) → AreLinked starts same step g links
      → AreEquivalent starts same (fold joined_bound k (bounds_of links)) (step f) (step (last_of g links))
  more_links [] k f g first linked = first
  more_links (link ∷ links) k f g first linked =
      more_links links (joined_bound k link.bound) f link.next (equivalent_joined k link.bound f g link.next first linked.0) linked.1

  -- The first and the last function of a chain are equivalent within the composed bound.
  pub chain_equivalent : (links : List (Link F)) (f : F) → 0 < length links → AreLinked starts same step f links
      → AreEquivalent starts same (composed_bound (bounds_of links)) (step f) (step (last_of f links))
  chain_equivalent [] f some linked = absurd (omega arith)
  chain_equivalent (link ∷ links) f some linked =
      subst (λ (x : ℕ). AreEquivalent starts same (fold joined_bound x (bounds_of links)) (step f) (step (last_of link.next links)))
      (sym (joined_bound-none link.bound)) (more_links links link.bound f link.next linked.0 linked.1)
