use Rattle.std.proofs.Common.{◌≡◌, ℕ, ◌+◌, ◌%◌, ◌^◌, ◌∙◌, List, sym, ap, set, length}
use Rattle.std.specs.Prelude.{slice_index}
use Rattle.std.proofs.lemmas.List.{get_or_read_under}
use Rattle.node_forms.proofs.Residues.{same_low}
use Rattle.linear_forms.proofs.Powers.{same_narrow}
use Rattle.form_sums.proofs.totals.Totals.add.Goals as goal

pub returns : goal.returns
returns c =
    let before : ℕ = c.index.result.now in
    let low : c.low_bits-sum.result ≡ (before + c.args.c) % 2 ^ c.args.w =
    c.low_bits-sum.ensures.value ∙ same_narrow 64 c.args.w ((before + c.args.c) % 2 ^ 64) (before + c.args.c) c.requires.width.1 (same_low 64 (before + c.args.c)) in
    let own : before ≡ slice_index c.args.self.now c.args.atom.0 =
    get_or_read_under c.self.inside.totals.items c.args.atom.0 (length c.args.self.now) before 0 c.index.ensures c.requires.room (ap length (sym c.self.view_is))
    ∙ ap (λ (t : List ℕ). slice_index t c.args.atom.0) c.self.view_is in
    c.put.ensures ∙ ap (λ (t : ℕ). set c.args.self.now c.args.atom.0 t) (low ∙ ap (λ (t : ℕ). (t + c.args.c) % 2 ^ c.args.w) own)
