use Rattle.std.proofs.Common.{◌∙◌, ◌-◌, ◌∷◌, List, ap, arith, drop, length, subst, sym, take, ℕ}
use Rattle.command_line.specs.Parser.{IsOfForm}
use Rattle.command_line.specs.View.{command_view, line_view}
use Rattle.command_line.specs.declared.command.CommandForm.{CommandForm}
use Rattle.command_line.proofs.Commands.{command-known, usage-formless, usage-unread}
use Rattle.command_line.proofs.Loops.{cut_first}
use Rattle.command_line.proofs.read.command_of.Goals as goal

pub returns-in_default-2-clause-none : goal.returns-in_default-2-clause-none
returns-in_default-2-clause-none c =
    let words = c.args.arguments.now in
    usage-unread words (take (length words - 1) (drop 1 words)) c.name-item.result (cut_first words c.name-item.result (omega arith) c.name-item.is)
    (rw c.in_default-2.is at c.in_ok-line.ensures.none)

pub returns-in_default-form_of-clause-none : goal.returns-in_default-form_of-clause-none
returns-in_default-form_of-clause-none c =
    let words = c.args.arguments.now in
    let line = line_view c.in-Some.line in
    let read = rw c.in-Some.is at c.in_ok-line.ensures.some in
    usage-formless words (take (length words - 1) (drop 1 words)) c.name-item.result line (cut_first words c.name-item.result (omega arith) c.name-item.is) read.1
    (subst (λ (n : List ℕ). (f : CommandForm) → IsOfForm n line f → ⊥) c.bytes.ensures (rw c.in_default-form_of.is at c.form_of.ensures.none))

pub returns-clause-some : goal.returns-clause-some
returns-clause-some c =
    let words = c.args.arguments.now in
    let read = rw c.in-Some.is at c.in_ok-line.ensures.some in
    let form = rw c.in-Some-form_of.is at c.form_of.ensures.some in
    let behind = take (length words - 1) (drop 1 words) in
    command-known words (command_view c.in_ok-values_of.field-0) (record {
      form = c.in-Some-form_of.form;
      behind = behind;
      line = line_view c.in-Some.line;
      whole = cut_first words c.name-item.result (omega arith) c.name-item.is ∙ ap (λ (n : List ℕ). n ∷ behind) (sym c.bytes.ensures ∙ form.0);
      each = read.0;
      read = read.1;
      values = c.in_ok-values_of.ensures;
    })
