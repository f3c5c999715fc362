use Rattle.std.proofs.Common.{◌≡◌, inl, inr, ◌∙◌, Result, Ok, Err}
use Rattle.certificate_file.specs.declared.certificate.Certificate.{Certificate}
use Rattle.certificate_file.specs.declared.refusal.CertRefusal.{CertRefusal}
use Rattle.certificate_file.specs.declared.refusal.CertRefusal.TheVariants.{Memory}
use Rattle.certificate_file.proofs.judging.read_back.Goals as goal

-- a certificate is no refusal
no_refusal : (c : Certificate) (e : CertRefusal) → ◌≡◌ {A = Result Certificate CertRefusal} (Ok c) (Err e) → ⊥
no_refusal c e h = cc

pub returns : goal.returns
returns c =
    elim (c.read_certificate.ensures.only (Ok c.args.certificate.now) (c.requires, c.as_slice.ensures.value ∙ c.in_ok-text.ensures)) [
      | inl memory ↦ absurd (no_refusal c.args.certificate.now Memory memory)
      | inr answer ↦ answer
    ]
