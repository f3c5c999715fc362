use Rattle.std.proofs.Common.{◌≡◌, false, length, drop}
use Rattle.node_values.specs.Sheets.{Extends, IsSheet}
use Rattle.sym_general.specs.PathFlags.{AreFlags, flags_read, some_unset}
use Rattle.sym_general.proofs.conditions.read_flags.Given as goal

-- the flags behind the loop's place are still to be read, and are set
abbrev pub invariant-loop-i : goal.invariant-loop-i
invariant-loop-i l = record {
  sheet : IsSheet l.sheet;
  five : length l.path ≡ 5;
  extends : Extends l.initial.sheet l.sheet;
  flags : AreFlags l.sheet l.path;
  set : some_unset l.path (drop l.i-index l.numbers) ≡ false;
  rest : flags_read l.initial.sheet l.initial.path l.numbers ≡ flags_read l.sheet l.path (drop l.i-index l.numbers);
}
