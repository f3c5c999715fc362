use Rattle.std.proofs.Common.{inl, inr, ◌∙◌, sym, subst, Result}
use Rattle.certificate_file.specs.declared.certificate.Certificate.{Certificate}
use Rattle.certificate_file.specs.declared.refusal.CertRefusal.{CertRefusal}
use Rattle.certificate_file.specs.Texts.{IsVerdict}
use Rattle.certificate_file.proofs.Verdicts.{answer_right, answer_only}
use Rattle.certificate_file.proofs.judging.read_certificate.Goals as goal

pub returns-clause-right : goal.returns-clause-right
returns-clause-right c = elim c.answer_of.ensures [
  | inl memory ↦ subst (λ (r : Result Certificate CertRefusal). IsVerdict c.args.text.now r) (sym memory) tt
  | inr is ↦ subst (λ (r : Result Certificate CertRefusal). IsVerdict c.args.text.now r) (sym is) (answer_right c.args.text.now)
]

pub returns-clause-only : goal.returns-clause-only
returns-clause-only c = λ r h. elim c.answer_of.ensures [
  | inl memory ↦ inr (inl memory)
  | inr is ↦ elim (answer_only c.args.text.now r h) [ inl memory ↦ inl memory | inr same ↦ inr (inr (is ∙ same)) ]
]
