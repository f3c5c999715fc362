use Rattle.std.proofs.Common.{◌≡◌, ℕ, ◌+◌, ◌*◌, ◌<◌, ◌≤◌, ◌^◌, List, length, [], ◌∷◌, ◌++◌, sym, ◌∙◌, ap, subst, arith}
use Rattle.std.specs.Prelude.{slice_index, Option}
use Rattle.std.specs.List.{AllByRecursion}
use Rattle.std.proofs.lemmas.Bool.{true≢false}
use Rattle.node_values.specs.declared.node.NodeId.{NodeId}
use Rattle.node_values.specs.Sheets.{width_at}
use Rattle.node_values.proofs.SheetLaws.{width_ranged}
use Rattle.insn_semantics.specs.Words.{minus}
use Rattle.insn_semantics.proofs.WordLaws.{power_grows}
use Rattle.node_forms.specs.Gathering.{AreParts}
use Rattle.node_forms.specs.Listed.{difference_of_forms}
use Rattle.node_forms.specs.Sums.{IsLinear, IsWide, SameWord, weighted_sum, with_weight}
use Rattle.node_forms.proofs.Gathered.{tells_none, tells_some}
use Rattle.node_forms.proofs.Residues.{same_number}
use Rattle.node_forms.proofs.Weights.{with_weight-all}
use Rattle.node_forms.proofs.WidthLists.{same_widths}
use Rattle.node_forms.proofs.form.constant_difference.Goals as goal
use Rattle.node_forms.proofs.form.constant_difference.Goals.{then-is_empty, else-is_empty}

-- 1 is a word of every width
one_below : (w : ℕ) → 0 < w → 1 < 2 ^ w
one_below w h = let two : 2 ^ 1 ≤ 2 ^ w = power_grows 1 w h in omega arith

pub scalar-requires : goal.scalar-requires
scalar-requires c =
    let e : slice_index c.args.widths.now c.args.a.0 ≡ width_at c.args.nodes.now c.args.a.0 = ap (λ f. f c.args.a.0) (same_widths c.args.nodes.now c.args.widths.now c.requires.widths) in
    let ranged = width_ranged c.args.nodes.now c.requires.sheet c.args.a.0 c.requires.alike.0 in
    let some : 0 < slice_index c.args.widths.now c.args.a.0 = rw e ranged.0 in
    let one = one_below (slice_index c.args.widths.now c.args.a.0) some in
    (some, omega (arith, e, ranged.1), omega (arith, one), one)

pub add_weight-requires-clause-width : goal.add_weight-requires-clause-width
add_weight-requires-clause-width c =
    let e : slice_index c.args.widths.now c.args.a.0 ≡ width_at c.args.nodes.now c.args.a.0 = ap (λ f. f c.args.a.0) (same_widths c.args.nodes.now c.args.widths.now c.requires.widths) in
    rw e (width_ranged c.args.nodes.now c.requires.sheet c.args.a.0 c.requires.alike.0)

pub add_weight-requires-clause-words : goal.add_weight-requires-clause-words
add_weight-requires-clause-words c =
    let e : slice_index c.args.widths.now c.args.a.0 ≡ width_at c.args.nodes.now c.args.a.0 = ap (λ f. f c.args.a.0) (same_widths c.args.nodes.now c.args.widths.now c.requires.widths) in
    let ranged = width_ranged c.args.nodes.now c.requires.sheet c.args.a.0 c.requires.alike.0 in
    let some : 0 < slice_index c.args.widths.now c.args.a.0 = rw e ranged.0 in
    let one = one_below (slice_index c.args.widths.now c.args.a.0) some in
    let items : c.push.new.self.items ≡ (c.args.a, 1) ∷ [] = c.in_ok-push.ensures.items ∙ ap (λ ps. ps ++ (c.args.a, 1) ∷ []) c.new-pending.ensures.items in
    let P : List (NodeId × ℕ) → Type 0 = λ ps. AllByRecursion (λ p. p.1 < 2 ^ slice_index c.args.widths.now c.args.a.0) ps in
    subst P (sym items) (one, tt)

pub gather-requires-clause-width : goal.gather-requires-clause-width
gather-requires-clause-width c =
    let e : slice_index c.args.widths.now c.args.a.0 ≡ width_at c.args.nodes.now c.args.a.0 = ap (λ f. f c.args.a.0) (same_widths c.args.nodes.now c.args.widths.now c.requires.widths) in
    rw e (width_ranged c.args.nodes.now c.requires.sheet c.args.a.0 c.requires.alike.0)

pub gather-requires-clause-parts : goal.gather-requires-clause-parts
gather-requires-clause-parts c =
    let w : ℕ = slice_index c.args.widths.now c.args.a.0 in
    let e : slice_index c.args.widths.now c.args.a.0 ≡ width_at c.args.nodes.now c.args.a.0 = ap (λ f. f c.args.a.0) (same_widths c.args.nodes.now c.args.widths.now c.requires.widths) in
    let ranged = width_ranged c.args.nodes.now c.requires.sheet c.args.a.0 c.requires.alike.0 in
    let some : 0 < slice_index c.args.widths.now c.args.a.0 = rw e ranged.0 in
    let one = one_below (slice_index c.args.widths.now c.args.a.0) some in
    let first : IsWide (width_at c.args.nodes.now) w (length c.args.nodes.now) c.args.a = (c.requires.alike.0, omega (arith, e)) in
    let second : IsWide (width_at c.args.nodes.now) w (length c.args.nodes.now) c.args.b = (c.requires.alike.1, omega (arith, e, c.requires.alike.2)) in
    let items : c.push.new.self.items ≡ (c.args.a, 1) ∷ [] = c.in_ok-push.ensures.items ∙ ap (λ ps. ps ++ (c.args.a, 1) ∷ []) c.new-pending.ensures.items in
    let all : c.add_weight.new.pending.items ≡ with_weight w c.args.b (minus w 0 1) ((c.args.a, 1) ∷ []) =
    c.in_ok-add_weight.ensures ∙ (λ i. with_weight w c.args.b (c.scalar.ensures.value i) (items i)) in
    let below : minus w 0 1 < 2 ^ w = subst (λ n. n < 2 ^ w) c.scalar.ensures.value c.scalar.ensures.below in
    subst (AreParts c.args.nodes.now w) (sym all)
    (with_weight-all w c.args.b (minus w 0 1) (λ p. IsWide (width_at c.args.nodes.now) w (length c.args.nodes.now) p.0 × (p.1 < 2 ^ w))
    (λ r k. (second, k)) (λ p r k l. (k.0, l)) below ((c.args.a, 1) ∷ []) ((first, one), tt))

pub returns : goal.returns
returns c =
    let w : ℕ = slice_index c.args.widths.now c.args.a.0 in
    let e : slice_index c.args.widths.now c.args.a.0 ≡ width_at c.args.nodes.now c.args.a.0 = ap (λ f. f c.args.a.0) (same_widths c.args.nodes.now c.args.widths.now c.requires.widths) in
    let ranged = width_ranged c.args.nodes.now c.requires.sheet c.args.a.0 c.requires.alike.0 in
    let some : 0 < slice_index c.args.widths.now c.args.a.0 = rw e ranged.0 in
    let items : c.push.new.self.items ≡ (c.args.a, 1) ∷ [] = c.in_ok-push.ensures.items ∙ ap (λ ps. ps ++ (c.args.a, 1) ∷ []) c.new-pending.ensures.items in
    let all : c.add_weight.new.pending.items ≡ with_weight w c.args.b (minus w 0 1) ((c.args.a, 1) ∷ []) =
    c.in_ok-add_weight.ensures ∙ (λ i. with_weight w c.args.b (c.scalar.ensures.value i) (items i)) in
    let sum : (k : ℕ) (f : ℕ → ℕ) → IsLinear c.args.nodes.now w k f → SameWord w (weighted_sum f c.in_ok-form.form.atoms + k * c.in_ok-form.form.c) (weighted_sum f (with_weight w c.args.b (minus w 0 1) ((c.args.a, 1) ∷ []))) =
    λ k f is. c.in_ok-form.ensures.sum k f is ∙ same_number w _ _ (ap (weighted_sum f) all) in
    subst (λ n. c.if-is_empty.result ≡ difference_of_forms c.args.nodes.now n c.args.a.0 c.args.b.0) e
    (elim c.if-is_empty.branch [
      | then-is_empty t ↦
          subst (λ (told : Option ℕ). told ≡ difference_of_forms c.args.nodes.now w c.args.a.0 c.args.b.0) (sym t.result-is)
          (tells_some c.args.nodes.now c.requires.sheet w some c.args.a c.args.b c.requires.alike.0 c.requires.alike.1 c.in_ok-form.form.atoms c.in_ok-form.form.c
          c.in_ok-form.ensures.falling c.in_ok-form.ensures.atoms c.in_ok-form.ensures.constant sum (c.is_empty.ensures.0 t.if-is_empty.true))
      | else-is_empty f ↦
          subst (λ (told : Option ℕ). told ≡ difference_of_forms c.args.nodes.now w c.args.a.0 c.args.b.0) (sym f.result-is)
          (tells_none c.args.nodes.now c.requires.sheet w some c.args.a c.args.b c.requires.alike.0 c.requires.alike.1 c.in_ok-form.form.atoms c.in_ok-form.form.c
          c.in_ok-form.ensures.falling c.in_ok-form.ensures.atoms c.in_ok-form.ensures.constant sum
          (λ none. true≢false (sym (c.is_empty.ensures.1 none) ∙ f.if-is_empty.false)))
    ])
