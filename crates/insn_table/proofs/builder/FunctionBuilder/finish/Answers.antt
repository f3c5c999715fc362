use Rattle.std.proofs.Common.{◌≡◌, Some, None, sym, ◌∙◌, subst, ap}
use Rattle.insn_table.specs.Closed.{IsClosed}
use Rattle.insn_table.specs.Building.{fault_of}
use Rattle.insn_table.proofs.Built.{draft-closed, closed-no_fault}
use Rattle.insn_table.proofs.builder.FunctionBuilder.finish.Goals as goal

pub returns-in-None-clause-closed : goal.returns-in-None-clause-closed
returns-in-None-clause-closed c =
    let none = ap fault_of (sym c.as_slice.ensures.value) ∙ (sym c.fault_of.ensures ∙ c.in-None.is) in
    subst IsClosed (sym c.from_vec.ensures) (draft-closed c.self.inside.kept.items c.self.invariant none)

pub returns-in-Some-clause-only : goal.returns-in-Some-clause-only
returns-in-Some-clause-only c =
    λ closed.
    let none : fault_of c.args.self ≡ None = closed-no_fault c.args.self closed in
    let some : fault_of c.args.self ≡ Some c.in-Some.fault =
    ap fault_of (sym c.self.view_is) ∙ (ap fault_of (sym c.as_slice.ensures.value) ∙ (sym c.fault_of.ensures ∙ c.in-Some.is)) in
    cc (none, some)
