use Rattle.std.proofs.Common.{sym, ◌∙◌}
use Rattle.admission.proofs.Meanings.{Decides-admitted}
use Rattle.admission.proofs.admission.Admission.admits.Goals as goal

pub returns : goal.returns
returns c =
    let decides = Decides-admitted c.args.self.now c.args.regs.now c.requires in
    ((λ h. decides.0 (sym c.passes.ensures ∙ h)), λ h. c.passes.ensures ∙ decides.1 h)
