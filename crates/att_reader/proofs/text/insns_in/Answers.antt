use Rattle.std.proofs.Common.{◌≡◌, ◌∙◌, sym, ap, map, Err}
use Rattle.std.proofs.lemmas.Result.{err_from_is_err_and}
use Rattle.text_lines.specs.declared.refusal.ReadKind.TheVariants.{NoFunction, FallsOff}
use Rattle.text_lines.specs.declared.refusal.ReadRefusal.{ReadRefusal}
use Rattle.text_lines.specs.Views.{seen}
use Rattle.att_bodies.specs.Reading.{leaves}
use Rattle.att_reader.specs.Reading.{told, insns_of_text}
use Rattle.att_reader.proofs.LoopSteps.{refused-is, whole-missing, whole-stops, whole-closed, whole-open}
use Rattle.att_reader.proofs.text.insns_in.Goals as goal

pub returns-in_default : goal.returns-in_default
returns-in_default c =
    let found = c.in_ok-items in
    refused-is (λ (e : ReadRefusal). told (insns_of_text c.args.text.now c.args.name.now) ≡ Err e) c.refused.result 0 NoFunction c.refused.ensures
    (whole-missing c.args.text.now c.args.name.now found.items.items c.as_slice.result.now found.ensures.items c.as_slice.ensures.value c.in_default.ensures.read)

pub returns-in_err-insns : goal.returns-in_err-insns
returns-in_err-insns c =
    let found = c.in_ok-items in
    let p = err_from_is_err_and c.from_residual-in_err-insns.result c.from_residual-in_err-insns.ensures.1 in
    rw (p.1, p.2) (whole-stops c.args.text.now c.args.name.now found.items.items c.as_slice.result.now found.ensures.items c.as_slice.ensures.value
    (map seen c.in-Some.body.now) (map seen c.in-Some.after.now) c.in-Some.ensures.read c.in_err-insns.field-0.0 c.in_err-insns.ensures)

pub returns-then-leaves : goal.returns-then-leaves
returns-then-leaves c =
    let found = c.in_ok-items in
    whole-closed c.args.text.now c.args.name.now found.items.items c.as_slice.result.now found.ensures.items c.as_slice.ensures.value
    (map seen c.in-Some.body.now) (map seen c.in-Some.after.now) c.in-Some.ensures.read c.in_ok-insns.insns c.in_ok-insns.ensures
    (ap leaves (sym c.as_slice-2.ensures) ∙ sym c.leaves.ensures ∙ c.if-leaves.true)

pub returns : goal.returns
returns c =
    let found = c.in_ok-items in
    refused-is (λ (e : ReadRefusal). told (insns_of_text c.args.text.now c.args.name.now) ≡ Err e) c.refused-else-leaves.result c.last_line.result FallsOff
    c.refused-else-leaves.ensures
    (whole-open c.args.text.now c.args.name.now found.items.items c.as_slice.result.now found.ensures.items c.as_slice.ensures.value
    (map seen c.in-Some.body.now) (map seen c.in-Some.after.now) c.in-Some.ensures.read found.lines c.last_line.result c.in_ok-insns.insns found.ensures.lines c.last_line.ensures
    c.in_ok-insns.ensures (ap leaves (sym c.as_slice-2.ensures) ∙ sym c.leaves.ensures ∙ c.if-leaves.false))
