use Rattle.std.proofs.Common.{string_bytes, arith}
use Rattle.machine.specs.Kept.{pure_of}
use Rattle.align_report.proofs.Bytes.{memory_more}
use Rattle.align_report.proofs.changes.push_memory.Goals as goal

pub loop-k-preserved : goal.loop-k-preserved
loop-k-preserved c = memory_more (pure_of c.args.state.now).memory c.args.at c.loop-k.k (string_bytes c.args.out.now) (string_bytes c.loop-k.out) _ c.byte.result
    (omega arith) c.byte.ensures c.loop-k.invariant c.in_ok-push_byte.ensures
