use Rattle.std.proofs.Common.{◌≡◌, ℕ, ◌+◌, ◌*◌, ◌%◌, ◌^◌, ◌∙◌, List, ◌∷◌, sym, ap, subst, set, drop, arith, length}
use Rattle.std.specs.Prelude.{get_or, slice_index}
use Rattle.std.proofs.lemmas.Nat.{pow_pos}
use Rattle.std.proofs.Math.Nat.{mod-lt}
use Rattle.std.proofs.lemmas.List.{drop_more, length-set}
use Rattle.node_values.specs.declared.node.NodeId.{NodeId}
use Rattle.node_forms.specs.Sums.{AreFalling, listed_coefficient}
use Rattle.form_sums.specs.Made.{AreBelow}
use Rattle.form_sums.proofs.Adding.{falling_below, one_step, still_below}
use Rattle.form_sums.proofs.totals.Totals.add_all.Goals as goal

pub loop-atom-preserved : goal.loop-atom-preserved
loop-atom-preserved c =
    let k : ℕ = c.args.weight in
    let i : ℕ = c.loop-atom.atom-index in
    let p : NodeId × ℕ = get_or c.args.atoms.now i (record { 0 = 0 }, 0) in
    let rest : List (NodeId × ℕ) = drop (i + 1) c.args.atoms.now in
    let more : drop i c.args.atoms.now ≡ p ∷ rest = drop_more c.args.atoms.now i (record { 0 = 0 }, 0) c.loop-atom-test.true in
    let falling : AreFalling (length c.args.self.now) (p ∷ rest) = subst (AreFalling (length c.args.self.now)) more c.loop-atom.invariant.3 in
    let value : ℕ = (slice_index c.loop-atom.self p.0.0 + k * p.1 % 2 ^ 64) % 2 ^ c.args.w in
    let is : c.add.new.self ≡ set c.loop-atom.self p.0.0 value = c.add.ensures in (
      λ a. one_step c.args.w k (length c.args.self.now) c.loop-atom.self c.add.new.self p rest c.requires.width.1 falling (omega arith) is a
          ∙ ap (λ (ps : List (NodeId × ℕ)). (slice_index c.loop-atom.self a + k * listed_coefficient ps a) % 2 ^ c.args.w) (sym more)
          ∙ c.loop-atom.invariant.0 a,
      subst (AreBelow c.args.w) (sym is) (still_below c.args.w value p.0.0 c.loop-atom.self (mod-lt (slice_index c.loop-atom.self p.0.0 + k * p.1 % 2 ^ 64) (pow_pos c.args.w)) c.loop-atom.invariant.1),
      ap length is ∙ length-set c.loop-atom.self p.0.0 value ∙ c.loop-atom.invariant.2,
      falling_below p.0.0 (length c.args.self.now) rest (let first = falling.0 in omega arith) falling.1,
    )
