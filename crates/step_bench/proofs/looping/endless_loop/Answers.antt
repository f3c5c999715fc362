use Rattle.std.proofs.Common.{◌≡◌, [], ◌∷◌, codes, refl, subst, sym}
use Rattle.insn_table.specs.declared.insn.Operand.TheVariants.{Target}
use Rattle.step_bench.specs.Loop.{IsLoop}
use Rattle.step_bench.proofs.Loops.{four-pushed, ok-implies}
use Rattle.step_bench.proofs.looping.endless_loop.Goals as goal

pub returns-clause-insns : goal.returns-clause-insns
returns-clause-insns c =
    let pushed : IsLoop c.push-4.new.self =
    four-pushed _ _ _ _ _ (codes "addl") (codes "movl") (codes "incb") (codes "jmp")
    (c.element.result ∷ c.register.result ∷ []) (c.register-2.result ∷ c.element-2.result ∷ []) (c.register-3.result ∷ []) (Target 0 ∷ [])
    c.new-builder.ensures c.in_ok-push.ensures.ok c.in_ok-push-2.ensures.ok c.in_ok-push-3.ensures.ok c.in_ok-push-4.ensures.ok
    refl refl refl refl (rw (c.element.ensures, c.register.ensures) refl) (rw (c.register-2.ensures, c.element-2.ensures) refl) (rw c.register-3.ensures refl) refl in
    ok-implies (λ f. f.insns ≡ c.builder-4.inside.kept.items) (λ f. IsLoop f.insns) c.finish.result c.finish.ensures.insns (λ f e. subst IsLoop (sym e) (subst IsLoop (sym c.builder-4.view_is) pushed))
