use Rattle.admission_text.proofs.WholeTexts.{admission-gives, reads-formed, reads-from, refused-gives}
use Rattle.admission_text.proofs.read.read_admission.Goals as goal

pub returns : goal.returns
returns c =
    let gives = c.admission_of.ensures in
    record {
      exact = reads-from c.args.text.now c.admission_of.result gives;
      only = admission-gives c.args.text.now c.admission_of.result gives;
      refused = refused-gives c.args.text.now c.admission_of.result gives;
      formed = reads-formed c.args.text.now c.admission_of.result gives;
    }
