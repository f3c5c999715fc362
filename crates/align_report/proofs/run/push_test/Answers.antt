use Rattle.std.proofs.Common.{◌≡◌, string_bytes}
use Rattle.outcomes.proofs.Answering.{unless-found}
use Rattle.test_states.specs.declared.refusal.LoadRefusal.TheVariants.{ByteOutside, Memory, NotAdmitted, RegionsLarge}
use Rattle.align_report.proofs.Running.{refused}
use Rattle.align_report.proofs.run.push_test.Goals as goal

pub returns-in-Err-NotAdmitted : goal.returns-in-Err-NotAdmitted
returns-in-Err-NotAdmitted c =
    refused c.args.f.now c.args.admission.now c.args.steps c.args.k c.args.test.now NotAdmitted (string_bytes c.args.out.now) (string_bytes c.push_refused.new.out)
    c.push_refused.result (unless-found (rw c.in-Err-NotAdmitted.field-0-is at c.in-Err-NotAdmitted.ensures.exact) (λ (none : NotAdmitted ≡ Memory). cc)) c.push_refused.ensures

pub returns-in-Err-RegionsLarge : goal.returns-in-Err-RegionsLarge
returns-in-Err-RegionsLarge c =
    refused c.args.f.now c.args.admission.now c.args.steps c.args.k c.args.test.now RegionsLarge (string_bytes c.args.out.now)
    (string_bytes c.push_refused-in-Err-RegionsLarge.new.out) c.push_refused-in-Err-RegionsLarge.result
    (unless-found (rw c.in-Err-RegionsLarge.field-0-is at c.in-Err-RegionsLarge.ensures.exact) (λ (none : RegionsLarge ≡ Memory). cc)) c.push_refused-in-Err-RegionsLarge.ensures

pub returns-in-Err-ByteOutside : goal.returns-in-Err-ByteOutside
returns-in-Err-ByteOutside c =
    refused c.args.f.now c.args.admission.now c.args.steps c.args.k c.args.test.now (ByteOutside c.in-Err-ByteOutside.field-0-0) (string_bytes c.args.out.now)
    (string_bytes c.push_refused-in-Err-ByteOutside.new.out) c.push_refused-in-Err-ByteOutside.result
    (unless-found (rw c.in-Err-ByteOutside.field-0-is at c.in-Err-ByteOutside.ensures.exact) (λ (none : ByteOutside c.in-Err-ByteOutside.field-0-0 ≡ Memory). cc)) c.push_refused-in-Err-ByteOutside.ensures
