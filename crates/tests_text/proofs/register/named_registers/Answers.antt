use Rattle.std.proofs.Common.{◌≡◌, ◌≤◌, ℕ, Option, Bor, set, refl, sym, ap, ◌∙◌, arith}
use Rattle.std.specs.Option.{option_map}
use Rattle.std.proofs.lemmas.List.{length-set}
use Rattle.serde_json.specs.Data.{Data}
use Rattle.serde_json.specs.View.{view}
use Rattle.serde_json.specs.declared.value.Value.{Value}
use Rattle.register_names.specs.Names.{register_names}
use Rattle.tests_text.specs.Reading.{name_at, register_of}
use Rattle.tests_text.specs.Shapes.{member_of}
use Rattle.tests_text.proofs.Collecting.{collected-end, collected-more, collected-stop}
use Rattle.tests_text.proofs.register.named_registers.Goals as goal

pub returns-in_default : goal.returns-in_default
returns-in_default c =
    let h = c.loop-n in
    let value : ℕ → Option ℕ = λ n. register_of c.args.k n (member_of (option_map (λ (v : Bor Value). view v.now) c.args.found) (name_at (register_names 64) n)) in
    let found = option_map (λ (v : Bor Value). view v.now) c.args.found in
    let read : c.register_of.result ≡ value h.n =
    c.register_of.ensures ∙ ap (λ (o : Option Data). register_of c.args.k h.n o) (c.member_of.ensures ∙ ap (member_of found) c.register_name.ensures) in
    sym (collected-stop value h.regs h.n h.invariant.0 c.loop-n-test.true (sym read ∙ c.in_default.is))

pub loop-n-preserved : goal.loop-n-preserved
loop-n-preserved c =
    let h = c.loop-n in
    let value : ℕ → Option ℕ = λ n. register_of c.args.k n (member_of (option_map (λ (v : Bor Value). view v.now) c.args.found) (name_at (register_names 64) n)) in
    let found = option_map (λ (v : Bor Value). view v.now) c.args.found in
    let read : c.register_of.result ≡ value h.n =
    c.register_of.ensures ∙ ap (λ (o : Option Data). register_of c.args.k h.n o) (c.member_of.ensures ∙ ap (member_of found) c.register_name.ensures) in (
      collected-more value h.regs (set h.regs h.n c.in-Some.value) h.n c.in-Some.value h.invariant.0 h.invariant.1 c.loop-n-test.true (sym read ∙ c.in-Some.is) refl,
      length-set h.regs h.n c.in-Some.value ∙ h.invariant.1,
    )

pub returns : goal.returns
returns c =
    let h = c.loop-n in
    let value : ℕ → Option ℕ = λ n. register_of c.args.k n (member_of (option_map (λ (v : Bor Value). view v.now) c.args.found) (name_at (register_names 64) n)) in
    let over : 16 ≤ h.n = omega arith in
    sym (collected-end value h.regs h.n h.invariant.0 h.invariant.1 over)
