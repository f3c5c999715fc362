use Rattle.std.proofs.Common.{◌≡◌, ℕ, List, ◌∙◌, Some, None, ap, arith, sym}
use Rattle.std.proofs.lemmas.Option.{same_Some}
use Rattle.text_parts.specs.Numbers.{decimal_of, within}
use Rattle.command_line.proofs.Numbers.{number-read, number-written}
use Rattle.command_line.proofs.number.number_within.Goals as goal

pub returns-in_default-clause-none : goal.returns-in_default-clause-none
returns-in_default-clause-none c = λ n h.
    let read = c.decimal_within.ensures ∙ ap (λ (t : List ℕ). within c.args.high (decimal_of t)) c.as_bytes.ensures.value in
    let same : None ≡ Some n = sym c.in_default.is ∙ read ∙ number-written c.args.low c.args.high n c.args.text.now h in cc

pub returns-then-number-low-clause-none : goal.returns-then-number-low-clause-none
returns-then-number-low-clause-none c = λ n h.
    let read = c.decimal_within.ensures ∙ ap (λ (t : List ℕ). within c.args.high (decimal_of t)) c.as_bytes.ensures.value in
    let same : c.in-Some.number ≡ n =
    same_Some c.in-Some.number n (sym c.in-Some.is ∙ read ∙ number-written c.args.low c.args.high n c.args.text.now h) in
    let least = h.least in
    absurd (omega arith)

pub returns-clause-some : goal.returns-clause-some
returns-clause-some c =
    let read = c.decimal_within.ensures ∙ ap (λ (t : List ℕ). within c.args.high (decimal_of t)) c.as_bytes.ensures.value in
    number-read c.args.low c.args.high c.in-Some.number c.args.text.now c.requires c.if-number-low.false (sym c.in-Some.is ∙ read)
