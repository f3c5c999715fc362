use Rattle.std.proofs.Common.{◌≡◌, ◌∙◌, arith, codes, rules, sym}
use Rattle.std.proofs.lemmas.Bool.{eqb-true}
use Rattle.command_line.proofs.Steps.{decide-form, run-form, show-form}
use Rattle.command_line.proofs.read.form_of.Goals as goal

pub returns-then-is_empty-clause-some : goal.returns-then-is_empty-clause-some
returns-then-is_empty-clause-some c =
    let name : c.args.name.now ≡ codes "decide" = search rules in
    let none : c.args.line.now.options.len ≡ 0 = eqb-true c.args.line.now.options.len 0 (sym c.is_empty.ensures ∙ c.if-is_empty.true) in
    (name, decide-form c.args.line.now (search rules) (omega arith))

pub returns-then-are_steps-clause-some : goal.returns-then-are_steps-clause-some
returns-then-are_steps-clause-some c =
    let name : c.args.name.now ≡ codes "run" = search rules in
    (name, run-form c.args.line.now (search rules) (c.are_steps.ensures.0 c.if-are_steps.true))

pub returns-then-is_empty-2-clause-some : goal.returns-then-is_empty-2-clause-some
returns-then-is_empty-2-clause-some c =
    let name : c.args.name.now ≡ codes "show" = search rules in
    let none : c.args.line.now.options.len ≡ 0 = eqb-true c.args.line.now.options.len 0 (sym c.is_empty-then-plain-eq2.ensures ∙ c.if-is_empty-2.true) in
    (name, show-form c.args.line.now (search rules) (omega arith))
