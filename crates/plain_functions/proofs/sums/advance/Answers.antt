use Rattle.std.proofs.Common.{◌≡◌, ◌∙◌, ap, get_or, arith}
use Rattle.std.proofs.lemmas.Option.{slice_get-get_or}
use Rattle.insn_table.specs.declared.insn.Operand.TheVariants.{Reg}
use Rattle.plain_functions.specs.Straight.{plain_result}
use Rattle.plain_functions.specs.Sums.{sum_value}
use Rattle.plain_functions.proofs.Tracking.{regs_after-move, set-tracks}
use Rattle.plain_functions.proofs.sums.advance.Goals as goal

pub returns-in-Reg : goal.returns-in-Reg
returns-in-Reg c = λ start regs t.
    let m = c.requires.plain in let i = c.args.insn.now in let n = c.in-Reg.n in
    let target_is : m.target ≡ Reg n c.in-Reg.w = rw m.move.args at c.in-Reg.is in
    let writes = rw target_is at m.move.writes in
    let source = rw m.move.args at (c.source_sum-source.ensures start regs t) in
    let old = t.holds n _ (slice_get-get_or c.args.sums.now n _ (omega (arith, writes.0))) in
    rw (regs_after-move i m.source m.target n c.in-Reg.w regs m.move.args target_is)
    (set-tracks c.args.sums.now start regs n c.plain_result.result _ c.requires.sixteen writes.0 t
    (c.plain_result.ensures start ∙ ap (λ v. plain_result i.op v (sum_value c.source_sum-source.result start)) old ∙ ap (λ v. plain_result i.op (get_or regs n 0) v) source))
