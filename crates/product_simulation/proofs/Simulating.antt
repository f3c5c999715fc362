-- The product simulation, over states of any kind: where ranks fall and edges lead on, the two steps are equivalent.
use Rattle.std.proofs.Common.{◌≡◌, ℕ, ◌+◌, ◌*◌, ◌≤◌, ◌∙◌, ap, subst, length, arith}
use Rattle.std.proofs.Math.Nat.{mul_comm, mul_assoc, mul-le-mul_left}
use Rattle.runs.specs.Equivalent.{AreEquivalent, Follows}
use Rattle.runs.specs.Run.{Run, Step, end_of, run_of}
use Rattle.runs.specs.declared.ends.RunEnd.{RunEnd}
use Rattle.runs.specs.declared.ends.RunEnd.TheVariants.{Returned, Faulted, Unset}
use Rattle.runs.proofs.Runs.{both_returned, faulted_stays, returned_stays, run_by_end}
use Rattle.product_automaton.specs.declared.product.Product.{Product}
use Rattle.product_automaton.specs.Ranks.{RanksFall, bound_of, left_rank, longest_path, right_rank}
use Rattle.product_simulation.specs.Leads.{EdgesLead}
use Rattle.product_simulation.specs.Pace.{KeepsPace}
use Rattle.product_simulation.proofs.Answering.{Answers, FaultsBy, ReturnsAs, simulation}
use Rattle.product_simulation.proofs.Moving.{AreLinkedAt, left-move, left_rank_low, right-move, right_rank_low}

-- the run from b answers each number of steps of the run from a within k times as many
abbrev AnswersWithin : {S : Type 0} → (f g : S → Step S) → (S → S → Type 0) → ℕ → S → S → Type 0
AnswersWithin f g same k a b = (n : ℕ) → Answers g same b (k * n) (run_of f a n)

-- what is owed for a run that has ended so
owed : {S : Type 0} (f g : S → Step S) (same : S → S → Type 0) (k : ℕ) (a b : S) (n : ℕ) (e : RunEnd) → AnswersWithin f g same k a b
    → end_of f a n ≡ e → Answers g same b (k * n) ((run_of f a n).0, e)
owed f g same k a b n e answers is = subst (λ (x : RunEnd). Answers g same b (k * n) ((run_of f a n).0, x)) is (answers n)

-- the sharper bound
pub keeps_pace : {S : Type 0} (f g : S → Step S) (same : S → S → Type 0) (k : ℕ) (s : S) → AnswersWithin f g same k s s → KeepsPace k f g s
keeps_pace f g same k s answers = record {
  returned = λ n i is. (let owes : ReturnsAs g same s (k * n) (run_of f s n).0 = owed f g same k s s n (Returned i) answers is in
      (owes.number, ap (λ (r : Run _). r.1) owes.run));
  faulted = λ n i is. (let owes : FaultsBy g s (k * n) = owed f g same k s s n (Faulted i) answers is in
      (owes.number, ap (λ (r : Run _). r.1) owes.run));
}

-- the bound with one step more
pub follows : {S : Type 0} (f g : S → Step S) (same : S → S → Type 0) (k : ℕ) (s : S) → AnswersWithin f g same k s s → Follows k f g s
follows f g same k s answers = record {
  returned = λ n i is. (let owes : ReturnsAs g same s (k * n) (run_of f s n).0 = owed f g same k s s n (Returned i) answers is in
      let more : k * n ≤ k * (n + 1) = mul-le-mul_left k (omega arith) in
      (owes.number, ap (λ (r : Run _). r.1) (returned_stays g s owes.end owes.number (k * n) (k * (n + 1)) more owes.run)));
  faulted = λ n i is. (let owes : FaultsBy g s (k * n) = owed f g same k s s n (Faulted i) answers is in
      let more : k * n ≤ k * (n + 1) = mul-le-mul_left k (omega arith) in
      (owes.number, ap (λ (r : Run _). r.1) (faulted_stays g s owes.end owes.number (k * n) (k * (n + 1)) more owes.run)));
  no_unset = λ n i is. owed f g same k s s n (Unset i) answers is;
}

-- two runs that have returned, of which the second answers the first, have the same end
same_by_answers : {S : Type 0} (f g : S → Step S) (same : S → S → Type 0) (k : ℕ) (s : S) → AnswersWithin f g same k s s → (n m i j : ℕ)
    → end_of f s n ≡ Returned i → end_of g s m ≡ Returned j → same (run_of f s n).0 (run_of g s m).0
same_by_answers f g same k s answers n m i j left right =
    let owes : ReturnsAs g same s (k * n) (run_of f s n).0 = owed f g same k s s n (Returned i) answers left in
    let both = both_returned g s owes.end (run_of g s m).0 owes.number j (k * n) m owes.run (run_by_end g s m (Returned j) right) in
    subst (λ (y : _). same (run_of f s n).0 y) both.0 owes.is_same

module _ {S : Type 0} (place : S → ℕ) (f g : S → Step S) (p : Product) (related : ℕ → S → S → Type 0) (falls : RanksFall p)
    (leads : EdgesLead place f g p related) (same : S → S → Type 0) (home : (x y : S) → related 1 x y → same x y) where
  linked : (s : S) → related 0 s s → AreLinkedAt p related 0 s s
  linked s h = record { within = omega (arith, falls.two); inside = λ one. absurd (omega arith); is_related = h }

  -- the right run answers the left one
  pub left-answered : (s : S) → related 0 s s → AnswersWithin f g same (bound_of p) s s
  left-answered s h n =
      let count : n * length p.nodes * longest_path p.edges ≡ bound_of p * n =
      mul_assoc n (length p.nodes) (longest_path p.edges) ∙ mul_comm n (length p.nodes * longest_path p.edges) in
      subst (λ (x : ℕ). Answers g same s x (run_of f s n)) count
      (simulation f g same (AreLinkedAt p related) (left_rank p.nodes) (length p.nodes) (longest_path p.edges) (left_rank_low p falls)
      (left-move place f g p related falls same home leads) 0 n s s (linked s h))

  -- the left run answers the right one
  pub right-answered : (s : S) → related 0 s s → AnswersWithin g f (λ y x. same x y) (bound_of p) s s
  right-answered s h n =
      let count : n * length p.nodes * longest_path p.edges ≡ bound_of p * n =
      mul_assoc n (length p.nodes) (longest_path p.edges) ∙ mul_comm n (length p.nodes * longest_path p.edges) in
      subst (λ (x : ℕ). Answers f (λ y x. same x y) s x (run_of g s n)) count
      (simulation g f (λ y x. same x y) (λ q y x. AreLinkedAt p related q x y) (right_rank p.nodes) (length p.nodes) (longest_path p.edges) (right_rank_low p falls)
      (λ node b a. right-move place f g p related falls same home leads node a b) 0 n s s (linked s h))

  -- Where ranks fall and edges lead on, the two steps are equivalent within the bound of the product, from each start state
  -- that is related to itself at the entry, with every same end that the relation of the exit gives.
  pub equivalent_within : (starts : S → Type 0) → ((s : S) → starts s → related 0 s s) → AreEquivalent starts same (bound_of p) f g
  equivalent_within starts begins = record {
    left = λ s start. follows f g same (bound_of p) s (left-answered s (begins s start));
    right = λ s start. follows g f (λ y x. same x y) (bound_of p) s (right-answered s (begins s start));
    same = λ s start. same_by_answers f g same (bound_of p) s (left-answered s (begins s start));
  }

  -- The same of the sharper bound, without the step more.
  pub paced_within : (s : S) → related 0 s s → KeepsPace (bound_of p) f g s × KeepsPace (bound_of p) g f s
  paced_within s h = (keeps_pace f g same (bound_of p) s (left-answered s h), keeps_pace g f (λ y x. same x y) (bound_of p) s (right-answered s h))
