use Rattle.std.proofs.Common.{◌≡◌, ℕ, ◌+◌, ◌*◌, ◌/◌, ◌%◌, ◌^◌, ◌∙◌, subst, List}
use Rattle.linear_forms.specs.MatrixRows.{word}
use Rattle.linear_forms.proofs.Powers.{cleared_word}
use Rattle.linear_forms.proofs.pivot.Pivot.clear.Goals as goal

pub returns : goal.returns
returns c =
    let p = c.args.self.now in
    let Times : List ℕ → Type 0 = λ row. (c.wrapping_neg-times.result + word p.place row / 2 ^ p.power * p.inverse % 2 ^ 64) % 2 ^ 64 ≡ 0 in
    let times = subst Times c.words.ensures c.wrapping_neg-times.ensures in
    record {
      length = c.add.ensures.length;
      cleared = c.add.ensures.sum p.place
          ∙ cleared_word p.power (word p.place c.args.row.now) (word p.place p.row) p.inverse c.wrapping_neg-times.result
          c.requires.row.1 c.requires.pivot.multiple c.requires.pivot.inverse times;
      times = c.wrapping_neg-times.result;
      sum = c.add.ensures.sum;
    }
