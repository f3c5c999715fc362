use Rattle.std.proofs.Common.{◌≡◌, ◌/◌, ◌%◌, ◌^◌, ◌≤◌, Some, None, sym, ◌∙◌, ap, arith, div-one}
use Rattle.std.specs.Prelude.{slice_index, unwrap_or}
use Rattle.std.proofs.lemmas.Nat.{shr_le}
use Rattle.insn_semantics.proofs.WordLaws.{power_grows}
use Rattle.node_values.specs.declared.node.Node.TheVariants.{Const}
use Rattle.terms.specs.declared.rules.Reduced.TheVariants.{New}
use Rattle.terms.specs.Rules.{number_at}
use Rattle.terms.proofs.CutLaws.{cut_constant, cut_inner, cut_whole}
use Rattle.terms.proofs.WidthFacts.{list_node, list_ranged, number_word}
use Rattle.terms.proofs.rules.+cut.Goals as goal
use Rattle.terms.proofs.rules.+cut.Goals.{else-k-eq0-via-then-k-eq0+else-n-widths, else-k-eq0-via-else-k-eq0}

pub overflow_shr-v : goal.overflow_shr-v
overflow_shr-v t c =
    let most = list_ranged c.args.nodes.now c.args.widths.now c.requires.list c.args.a.0 c.requires.cut.0 in
    omega (arith, most.1, c.requires.cut.1, c.requires.cut.2)

pub scalar-requires : goal.scalar-requires
scalar-requires t c =
    let most = list_ranged c.args.nodes.now c.args.widths.now c.requires.list c.args.a.0 c.requires.cut.0 in
    let is : number_at c.args.nodes.now c.args.a.0 ≡ c.in-Some.v = ap (λ o. unwrap_or o 0) (sym c.in-Some.ensures) in
    let word = number_word c.args.nodes.now c.args.widths.now c.requires.list c.args.a.0 in
    let grows : 2 ^ slice_index c.args.widths.now c.args.a.0 ≤ 2 ^ 64 = power_grows (slice_index c.args.widths.now c.args.a.0) 64 most.1 in
    let shifted : c.in-Some.v / 2 ^ c.args.k ≤ c.in-Some.v = shr_le c.in-Some.v c.args.k in
    (c.requires.cut.1, omega (arith, most.1, c.requires.cut.2), omega (arith, is, word, grows, shifted))

pub returns-in-Some : goal.returns-in-Some
returns-in-Some t c =
    let low : c.scalar.result ≡ c.in-Some.v / 2 ^ c.args.k % 2 ^ c.args.n =
    c.scalar.ensures.value ∙ ap (λ x. x % 2 ^ c.args.n) (div-one (c.in-Some.v / 2 ^ c.args.k)) in
    ap (λ x. New (Const c.args.n x)) low
    ∙ sym (cut_constant c.args.nodes.now (slice_index c.args.widths.now) (list_node c.args.nodes.now c.args.widths.now c.requires.list)
    c.args.a.0 c.args.k c.args.n c.requires.cut.0 c.in-Some.v (sym c.in-Some.ensures))

pub returns-then-n-widths : goal.returns-then-n-widths
returns-then-n-widths t c =
    sym (cut_whole c.args.nodes.now (slice_index c.args.widths.now) (list_node c.args.nodes.now c.args.widths.now c.requires.list)
    c.args.a.0 c.args.k c.args.n c.requires.cut.0 (sym c.number.ensures ∙ c.in_default.is) c.if-k-eq0.true c.if-n-widths.true)

pub returns-in-None : goal.returns-in-None
returns-in-None t c =
    sym (cut_inner c.args.nodes.now (slice_index c.args.widths.now) (list_node c.args.nodes.now c.args.widths.now c.requires.list)
    c.args.a.0 c.args.k c.args.n c.requires.cut.0 (sym c.number.ensures ∙ c.in_default.is)
    (λ start size. elim c.else-k-eq0.branch [
      | else-k-eq0-via-then-k-eq0+else-n-widths w ↦ w.if-n-widths.false size
      | else-k-eq0-via-else-k-eq0 w ↦ w.if-k-eq0.false start
    ])
    None (sym c.inner.ensures.part ∙ c.in-None.is))

pub returns-in-Some-inner : goal.returns-in-Some-inner
returns-in-Some-inner t c =
    c.cut.ensures
    ∙ sym (cut_inner c.args.nodes.now (slice_index c.args.widths.now) (list_node c.args.nodes.now c.args.widths.now c.requires.list)
    c.args.a.0 c.args.k c.args.n c.requires.cut.0 (sym c.number.ensures ∙ c.in_default.is)
    (λ start size. elim c.else-k-eq0.branch [
      | else-k-eq0-via-then-k-eq0+else-n-widths w ↦ w.if-n-widths.false size
      | else-k-eq0-via-else-k-eq0 w ↦ w.if-k-eq0.false start
    ])
    (Some c.in-Some-inner.part) (sym c.inner.ensures.part ∙ c.in-Some-inner.is))
