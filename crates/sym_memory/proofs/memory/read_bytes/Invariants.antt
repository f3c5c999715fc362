use Rattle.std.proofs.Common.{◌≡◌}
use Rattle.node_values.specs.Sheets.{Extends, IsSheet}
use Rattle.address_nodes.specs.Multiples.{IsAddress}
use Rattle.sym_memory.specs.Writes.{AreWritten}
use Rattle.sym_memory.specs.Reads.{bytes_read}
use Rattle.sym_memory.proofs.memory.read_bytes.Given as goal

abbrev pub invariant-loop-byte : goal.invariant-loop-byte
invariant-loop-byte l = record {
  sheet : IsSheet l.sheet;
  extends : Extends l.initial.sheet l.sheet;
  address : IsAddress l.sheet l.at;
  written : AreWritten l.sheet l.memory.written;
  built : bytes_read l.memory l.fixed l.access l.at l.byte l.initial.sheet ≡ record { nodes = l.sheet; bytes = l.read.items };
}
