use Rattle.std.proofs.Common.{◌≡◌, ◌+◌, ◌-◌, ℕ, List, ◌++◌, ◌∷◌, [], sym, ◌∙◌, ap, arith}
use Rattle.std.specs.Prelude.{max}
use Rattle.insn_semantics.specs.Words.{minus}
use Rattle.address_nodes.specs.Multiples.{Term}
use Rattle.address_nodes.specs.Differences.{terms_below}
use Rattle.address_nodes.specs.Heads.{head_number, head_weight, without_head}
use Rattle.address_nodes.proofs.Merging.{IsMerged, merged_end, merged_none, merged_some}
use Rattle.address_nodes.proofs.form.differences.Goals as goal
use Rattle.address_nodes.proofs.form.differences.Goals.{then-weight-ne0+in_ok-push, else-weight-ne0}

pub returns-then-end-eq0 : goal.returns-then-end-eq0
returns-then-end-eq0 c n f g first second =
    let heads : c.max-end.result ≡ max (head_number c.loop-left.left.now) (head_number c.loop-left.right.now) =
    c.max-end.ensures ∙ (λ i. max (c.number_of.ensures.value i) (c.number_of-in-loop-left.ensures.value i)) in
    merged_end f g n c.loop-left.left.now c.loop-left.right.now c.loop-left.terms.items (sym heads ∙ c.if-end-eq0.true)
    (c.loop-left.invariant n f g first second)

pub loop-left-preserved : goal.loop-left-preserved
loop-left-preserved c n f g first second =
    let k : ℕ = c.max-end.result - 1 in
    let heads : c.max-end.result ≡ max (head_number c.loop-left.left.now) (head_number c.loop-left.right.now) =
    c.max-end.ensures ∙ (λ i. max (c.number_of.ensures.value i) (c.number_of-in-loop-left.ensures.value i)) in
    let some = c.if-end-eq0.false in
    let end : max (head_number c.loop-left.left.now) (head_number c.loop-left.right.now) ≡ c.max-end.result - 1 + 1 = sym heads ∙ positive c.max-end.result some in
    let weight : c.scalar-weight.result ≡ minus 64 (head_weight (c.max-end.result - 1) c.loop-left.left.now) (head_weight (c.max-end.result - 1) c.loop-left.right.now) =
    c.scalar-weight.ensures.value ∙ (λ i. minus 64 (c.weight_of.ensures i) (c.weight_of-in-loop-left.ensures i)) in
    let is : IsMerged f g n c.loop-left.left.now c.loop-left.right.now c.loop-left.terms.items = c.loop-left.invariant n f g first second in
    let to : (ts : List Term) → c.if-weight-ne0.terms.items ≡ ts
    → IsMerged f g n (without_head (c.max-end.result - 1) c.loop-left.left.now) (without_head (c.max-end.result - 1) c.loop-left.right.now) ts
    → IsMerged f g n c.rest_of-left.result.now c.rest_of-right.result.now c.if-weight-ne0.terms.items =
    λ ts e m. there f g n _ _ _ _ _ _ (sym c.rest_of-left.ensures) (sym c.rest_of-right.ensures) (sym e) m in
    elim c.if-weight-ne0.branch [
      | then-weight-ne0+in_ok-push w ↦
          to (c.loop-left.terms.items ++ (record { 0 = c.max-end.result - 1 }, minus 64 (head_weight (c.max-end.result - 1) c.loop-left.left.now) (head_weight (c.max-end.result - 1) c.loop-left.right.now)) ∷ [])
          (ap (λ (v : _). v.items) w.terms-is ∙ w.in_ok-push.ensures.items ∙ ap (λ (v : ℕ). c.loop-left.terms.items ++ (record { 0 = c.max-end.result - 1 }, v) ∷ []) weight)
          (merged_some f g n c.loop-left.left.now c.loop-left.right.now c.loop-left.terms.items k end is (λ e. w.if-weight-ne0.true (weight ∙ e)))
      | else-weight-ne0 w ↦
          to c.loop-left.terms.items (ap (λ (v : _). v.items) w.terms-is)
          (merged_none f g n c.loop-left.left.now c.loop-left.right.now c.loop-left.terms.items k end is (sym weight ∙ w.if-weight-ne0.false))
    ]
  where
    positive : (m : ℕ) → (m ≡ 0 → ⊥) → m ≡ m - 1 + 1
    positive m h = omega arith

    there : (f g : ℕ → ℕ) (n : ℕ) (a b : List Term) (c d : List Term) (s t : List Term) → a ≡ b → c ≡ d → s ≡ t → IsMerged f g n a c s → IsMerged f g n b d t
    there f g n a b c d s t h k l is = record {
      m = is.m;
      first_is = sym h ∙ is.first_is;
      second_is = sym k ∙ is.second_is;
      done = ap (λ ts. ts ++ terms_below (λ x. minus 64 (f x) (g x)) is.m) (sym l) ∙ is.done;
    }
