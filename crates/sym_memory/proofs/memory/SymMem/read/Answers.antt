use Rattle.std.proofs.Common.{arith, subst}
use Rattle.sym_memory.proofs.ByteValues.{AreReadBytes, bytes_words}
use Rattle.sym_memory.proofs.memory.SymMem.read.Goals as goal

built : (c : goal.In_ok-read) → AreReadBytes c.args.sheet.now c.args.self.now c.args.fixed.now c.args.access c.args.at c.args.bytes (record { nodes = c.read_bytes.new.sheet; bytes = c.in_ok-read.read.items })
built c =
    subst (AreReadBytes c.args.sheet.now c.args.self.now c.args.fixed.now c.args.access c.args.at c.args.bytes) c.in_ok-read.ensures.made
    (bytes_words c.args.self.now c.args.fixed.now c.args.access c.args.at c.args.sheet.now c.in_order.ensures.sheet c.requires.address c.requires.written c.args.bytes (omega (arith, c.ranges.bytes.fits)))

pub returns-clause-count : goal.returns-clause-count
returns-clause-count c = (built c).count

pub returns-clause-widths : goal.returns-clause-widths
returns-clause-widths c = (built c).widths

pub returns-clause-value : goal.returns-clause-value
returns-clause-value c = (built c).value
