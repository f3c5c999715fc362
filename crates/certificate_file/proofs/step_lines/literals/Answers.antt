use Rattle.std.proofs.Common.{ap, sym, ◌∙◌, eqb}
use Rattle.std.proofs.lemmas.Bool.{ne_eqb, eq-eqb}
use Rattle.clauses.specs.declared.clause.Lit.{Lit}
use Rattle.certificate_file.specs.StepReading.{lit_at, lits_at}
use Rattle.certificate_file.proofs.Fronts.{with_front, front_none, left_whole, as_fitted}
use Rattle.certificate_file.proofs.Turns.{lit_shorter, until_more, until_ends, until_fails}
use Rattle.certificate_file.proofs.step_lines.literals.Goals as goal

pub loop-found-init : goal.loop-found-init
loop-found-init c = ap (λ vs. with_front vs (lits_at c.args.text.now)) c.new-found.ensures.items ∙ front_none _

pub returns-in_err-lit : goal.returns-in_err-lit
returns-in_err-lit c =
    left_whole _ _ c.in_err-lit.field-0.0 _ c.from_residual.ensures.1
    (sym c.loop-found.invariant ∙ until_fails (λ (l : Lit). eqb l.var 0) lit_at lit_shorter c.loop-found.found.items c.loop-found.rest.now c.in_err-lit.field-0.0.now c.in_err-lit.ensures)

pub returns-then-lit-eq0 : goal.returns-then-lit-eq0
returns-then-lit-eq0 c =
    as_fitted _ _ c.in_ok-fitted.field-0 _ c.in_ok-fitted.ensures
    (sym c.loop-found.invariant ∙ until_ends (λ (l : Lit). eqb l.var 0) lit_at lit_shorter c.loop-found.found.items c.loop-found.rest.now c.in_ok-lit.after.now c.in_ok-lit.lit
    c.in_ok-lit.ensures (eq-eqb c.in_ok-lit.lit.var 0 c.if-lit-eq0.true))

pub loop-found-smaller : goal.loop-found-smaller
loop-found-smaller c = lit_shorter c.loop-found.rest.now c.in_ok-lit.after.now c.in_ok-lit.lit c.in_ok-lit.ensures

pub loop-found-preserved : goal.loop-found-preserved
loop-found-preserved c =
    ap (λ vs. with_front vs (lits_at c.in_ok-lit.after.now)) c.in_ok-push.ensures
    ∙ (sym (until_more (λ (l : Lit). eqb l.var 0) lit_at lit_shorter c.loop-found.found.items c.loop-found.rest.now c.in_ok-lit.after.now c.in_ok-lit.lit
    c.in_ok-lit.ensures (ne_eqb c.in_ok-lit.lit.var 0 c.if-lit-eq0.false))
    ∙ c.loop-found.invariant)
