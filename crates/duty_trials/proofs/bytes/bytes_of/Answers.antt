use Rattle.std.proofs.Common.{[], ◌∷◌, ◌++◌, sym, ◌∙◌, if◌then◌else◌}
use Rattle.node_values.specs.Sheets.{node_at}
use Rattle.duty_claims.specs.Needs.{is_start}
use Rattle.duty_trials.proofs.Elements.{numbers_more}
use Rattle.duty_trials.proofs.bytes.bytes_of.Goals as goal

pub loop-i-preserved : goal.loop-i-preserved
loop-i-preserved c =
    let before = c.loop-i.invariant in
    let node = c.node.ensures in
    c.in_ok-push_start.ensures ∙ (λ j. before j ++ (if is_start (node j) then c.loop-i.i ∷ [] else []))
    ∙ sym (numbers_more (λ i. is_start (node_at c.args.built.now.sheet i)) c.loop-i.i)
