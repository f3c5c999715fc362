use Rattle.std.proofs.Common.{ℕ, ◌<◌, List, arith, length, subst, sym}
use Rattle.linear_forms.specs.MatrixRows.{IsCleared}
use Rattle.linear_forms.proofs.Zips.{zip_step}
use Rattle.linear_forms.proofs.pivot.Pivot.clear_all.Goals as goal

pub loop-row-preserved : goal.loop-row-preserved
loop-row-preserved c =
    let inside : c.loop-row.row-index < length c.loop-row.rows = omega arith in
    let Here : List ℕ → Type 0 = λ row. IsCleared c.args.self.now.row c.args.self.now.place row c.clear.new.row in
    let here = subst Here (sym c.row-item.is) c.clear.ensures in
    let step = zip_step (IsCleared c.args.self.now.row c.args.self.now.place) c.args.rows.now c.loop-row.rows c.loop-row.row-index
    c.row-item.result c.clear.new.row inside c.loop-row.auto.rows c.loop-row.invariant.left c.row-item.is here c.loop-row.invariant.cleared in
    record { cleared = step.0; left = step.1 }
