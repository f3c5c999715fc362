use Rattle.std.proofs.Common.{◌≡◌, ℕ, ◌+◌, ◌<◌, ◌%◌, ◌^◌, List, length, ◌++◌, ◌∷◌, [], get_or, sym, ◌∙◌, ap, subst, arith, length-append}
use Rattle.std.specs.Prelude.{slice_index}
use Rattle.std.specs.List.{AllByRecursion}
use Rattle.node_forms.specs.Sums.{SameWord}
use Rattle.node_forms.proofs.Residues.{same_low}
use Rattle.linear_forms.proofs.Pushes.{all_last, numbered_last}
use Rattle.linear_forms.proofs.solving.low_words.Goals as goal

pub loop-word-preserved : goal.loop-word-preserved
loop-word-preserved c =
    let w : ℕ = c.args.w in
    let old : List ℕ = c.loop-word.low.items in
    let items = c.in_ok-push.ensures.items in
    let count : length old ≡ c.loop-word.word-index = c.loop-word.invariant.count in
    let long : length c.push.new.self.items ≡ c.loop-word.word-index + 1 = omega (arith, ap length items, length-append old (c.low_bits.result ∷ []), count) in
    let Same : ℕ → ℕ → Type 0 = λ k x. SameWord w x (slice_index c.args.words.now k) in
    let before : (k : ℕ) → k < length old → Same k (get_or old k 0) = subst (λ n. (k : ℕ) → k < n → Same k (get_or old k 0)) (sym count) c.loop-word.invariant.same in
    let here : Same (length old) c.low_bits.result =
    subst (λ k. Same k c.low_bits.result) (sym count) (ap (λ n. n % 2 ^ w) c.low_bits.ensures.value ∙ same_low w (slice_index c.args.words.now c.loop-word.word-index)) in
    let all = subst (λ n. (k : ℕ) → k < n + 1 → Same k (get_or (old ++ c.low_bits.result ∷ []) k 0)) count (numbered_last Same old c.low_bits.result 0 before here) in
    record {
      count = long;
      words = subst (AllByRecursion (λ q. q < 2 ^ w)) (sym items) (all_last (λ q. q < 2 ^ w) old c.low_bits.result c.loop-word.invariant.words c.low_bits.ensures.below);
      same = subst (λ (xs : List ℕ). (k : ℕ) → k < c.loop-word.word-index + 1 → Same k (get_or xs k 0)) (sym items) all;
    }
