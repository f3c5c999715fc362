use Rattle.std.proofs.Common.{◌≡◌, ◌∙◌, sym, subst, refl, ◌⊎◌, ℕ, List, Ok, Err}
use Rattle.std.proofs.lemmas.Result.{err_from_is_err_and}
use Rattle.outcomes.proofs.Answering.{unless-map}
use Rattle.text_lines.specs.declared.refusal.ReadKind.TheVariants.{NotUtf8, LineLong}
use Rattle.text_lines.specs.Kinds.{out_of_memory}
use Rattle.text_lines.proofs.TextFaults.{long-known, short-known}
use Rattle.att_reader.specs.FunctionText.{IsLegible, IsFunctionRefusal, NoText, Long}
use Rattle.att_reader.specs.Reading.{told, insns_of_text}
use Rattle.att_reader.proofs.LoopSteps.{refused-is}
use Rattle.att_reader.proofs.TextLaws.{text-function, text-refused}
use Rattle.att_reader.proofs.text.function_in.Goals as goal

pub returns-in-Some : goal.returns-in-Some
returns-in-Some c =
    refused-is (IsFunctionRefusal c.args.text.now c.args.name.now) c.refused.result c.in-Some.line NotUtf8 c.refused.ensures (NoText c.in-Some.line c.in-Some.ensures refl)

pub returns-in-Some-long_line : goal.returns-in-Some-long_line
returns-in-Some-long_line c =
    let line = c.in-Some-long_line.line in
    refused-is (IsFunctionRefusal c.args.text.now c.args.name.now) c.refused-in-Some-long_line.result line LineLong c.refused-in-Some-long_line.ensures
    (Long c.in_default.ensures line (long-known c.args.text.now line (sym c.in-Some-long_line.ensures)) refl)

pub returns-in_err-insns : goal.returns-in_err-insns
returns-in_err-insns c =
    let legible : IsLegible c.args.text.now = record { utf8 = c.in_default.ensures; short = short-known c.args.text.now (sym c.in_default-long_line.ensures) } in
    let p = err_from_is_err_and c.from_residual.result c.from_residual.ensures.1 in
    let e = c.in_err-insns.field-0.0 in
    let stops = subst (λ (x : List ℕ). (e ≡ out_of_memory) ⊎ (told (insns_of_text c.args.text.now x) ≡ Err e)) c.bytes.ensures c.in_err-insns.ensures in
    rw (p.1, p.2) (unless-map (text-refused c.args.text.now c.args.name.now e legible) stops)

pub returns : goal.returns
returns c =
    let legible : IsLegible c.args.text.now = record { utf8 = c.in_default.ensures; short = short-known c.args.text.now (sym c.in_default-long_line.ensures) } in
    let insns = c.in_ok-insns.insns in
    let read = subst (λ (x : List ℕ). told (insns_of_text c.args.text.now x) ≡ Ok insns) c.bytes.ensures c.in_ok-insns.ensures in
    text-function c.args.text.now c.args.name.now _ legible read (c.in_ok-name.ensures ∙ c.bytes-2.ensures) c.new-2.ensures
