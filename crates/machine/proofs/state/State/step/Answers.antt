use Rattle.std.proofs.Common.{length}
use Rattle.machine.specs.Holding.{kept_of}
use Rattle.machine.specs.Kept.{pure_of}
use Rattle.machine.proofs.Families.{insn_at, stays_inside, step_taken}
use Rattle.machine.proofs.Closed.{closed-runnable}
use Rattle.machine.proofs.state.State.step.Goals as goal

pub run_insn-requires-clause-runnable : goal.run_insn-requires-clause-runnable
run_insn-requires-clause-runnable c = (
  length c.args.f.now.insns,
  (closed-runnable c.args.f.now.insns c.requires.closed).each c.args.self.now.place _ (insn_at c.args.f.now.insns c.as_slice.result.now (kept_of c.self.inside) c.args.self.now _ c.as_slice.ensures c.self.view_is c.requires.inside),
)

pub returns-clause-steps : goal.returns-clause-steps
returns-clause-steps c =
    step_taken c.args.f.now.insns c.args.f.now.pool c.as_slice-2.result.now _ (pure_of c.args.self.now) (pure_of c.run_insn.new.self) c.run_insn.result c.as_slice-2.ensures
    (insn_at c.args.f.now.insns c.as_slice.result.now (kept_of c.self.inside) c.args.self.now _ c.as_slice.ensures c.self.view_is c.requires.inside)
    c.run_insn.ensures

pub returns-clause-inside : goal.returns-clause-inside
returns-clause-inside c =
    stays_inside c.args.f.now.insns c.as_slice-2.result.now _ (pure_of c.args.self.now) (pure_of c.run_insn.new.self) c.run_insn.result (closed-runnable c.args.f.now.insns c.requires.closed) c.requires.inside
    (insn_at c.args.f.now.insns c.as_slice.result.now (kept_of c.self.inside) c.args.self.now _ c.as_slice.ensures c.self.view_is c.requires.inside)
    c.run_insn.ensures
