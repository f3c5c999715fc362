use Rattle.std.proofs.Common.{◌∙◌, ◌%◌, ◌^◌, ℕ, ap}
use Rattle.insn_table.specs.declared.insn.Operand.{Operand}
use Rattle.machine.specs.Kept.{Kept, pure_of}
use Rattle.machine.specs.Ready.{finished_row}
use Rattle.machine.specs.Operands.{address_of}
use Rattle.machine.proofs.Allowed.{register_spanned}
use Rattle.machine.proofs.RowValues.{address_after, address_row}
use Rattle.machine.proofs.state.State.load_address.Goals as goal

pub complete-requires-clause-spanned : goal.complete-requires-clause-spanned
complete-requires-clause-spanned c =
    λ w. register_spanned c.args.self.now c.args.insn.now.w _ (address_row c.args.insn.now.op c.args.insn.now c.requires.family c.requires.row)

pub returns : goal.returns
returns c =
    let at = c.address.ensures ∙ ap (λ (o : Operand). address_of c.args.self.now.regs o) c.operand.ensures in
    c.complete.ensures
    ∙ ap (λ (k : Kept). finished_row c.args.insn.now (pure_of c.args.self.now) c.low_bits-word.result k.flags) c.self.view_is
    ∙ address_after c.args.pool.now c.args.insn.now (pure_of c.args.self.now) c.low_bits-word.result c.requires.family
    (c.low_bits-word.ensures.value ∙ ap (λ (x : ℕ). x % 2 ^ c.args.insn.now.w) at)
