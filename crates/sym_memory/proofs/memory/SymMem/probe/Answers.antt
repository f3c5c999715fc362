use Rattle.std.proofs.Common.{subst}
use Rattle.node_values.specs.Sheets.{value_at}
use Rattle.sym_memory.specs.Bytes.{memory_byte}
use Rattle.sym_memory.proofs.ByteValues.{IsByteNode, probed_word}
use Rattle.sym_memory.proofs.memory.SymMem.probe.Goals as goal

built : (c : goal.In_ok-id) → IsByteNode c.args.sheet.now 8 (λ e. Unit {0}) (λ e. memory_byte e c.args.sheet.now c.args.self.now (value_at e c.args.sheet.now c.args.at.0)) (record { nodes = c.byte.new.sheet; id = c.in_ok-id.id })
built c =
    subst (IsByteNode c.args.sheet.now 8 (λ e. Unit {0}) (λ e. memory_byte e c.args.sheet.now c.args.self.now (value_at e c.args.sheet.now c.args.at.0))) c.in_ok-id.ensures.made
    (probed_word c.args.self.now c.args.at c.args.sheet.now c.in_order.ensures.sheet c.requires.address c.requires.written)

pub returns-clause-width : goal.returns-clause-width
returns-clause-width c = ((built c).inside, (built c).width)

pub returns-clause-value : goal.returns-clause-value
returns-clause-value c e = (built c).value e tt
