use Rattle.std.proofs.Common.{◌≡◌, length}
use Rattle.node_values.specs.Sheets.{Extends, IsSheet}
use Rattle.address_nodes.specs.Multiples.{IsOfWidth}
use Rattle.sym_memory.specs.Choices.{AreChoices, with_choices}
use Rattle.sym_memory.proofs.byte.choose.Given as goal

abbrev pub invariant-loop-test : goal.invariant-loop-test
invariant-loop-test l = record {
  sheet : IsSheet l.sheet;
  extends : Extends l.initial.sheet l.sheet;
  byte : IsOfWidth l.sheet 8 l.id;
  choices : AreChoices l.sheet l.choices.items;
  built : with_choices l.initial.choices.items (record { nodes = l.initial.sheet; id = l.initial.id })
      ≡ with_choices l.choices.items (record { nodes = l.sheet; id = l.id });
}

abbrev pub decreases-loop-test : goal.decreases-loop-test
decreases-loop-test l = length l.choices.items
