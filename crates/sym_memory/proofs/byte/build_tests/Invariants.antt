use Rattle.std.proofs.Common.{◌≡◌, ◌≤◌, length, take}
use Rattle.std.specs.Prelude.{reverse}
use Rattle.node_values.specs.Sheets.{Extends, IsSheet}
use Rattle.address_nodes.specs.Multiples.{IsAddress}
use Rattle.sym_memory.specs.Writes.{AreWritten}
use Rattle.sym_memory.specs.Reads.{byte_read}
use Rattle.sym_memory.specs.Choices.{AreChoices, with_choices}
use Rattle.sym_memory.proofs.byte.build_tests.Given as goal

abbrev pub invariant-loop-at : goal.invariant-loop-at
invariant-loop-at l = record {
  inside : l.at ≤ length l.written;
  sheet : IsSheet l.sheet;
  extends : Extends l.initial.sheet l.sheet;
  address : IsAddress l.sheet l.place.address;
  written : AreWritten l.sheet l.written;
  choices : AreChoices l.sheet l.choices.items;
  built : byte_read l.side l.fixed l.place (reverse l.written) l.initial.sheet
      ≡ with_choices l.choices.items (byte_read l.side l.fixed l.place (reverse (take l.at l.written)) l.sheet);
}

abbrev pub decreases-loop-at : goal.decreases-loop-at
decreases-loop-at l = l.at
