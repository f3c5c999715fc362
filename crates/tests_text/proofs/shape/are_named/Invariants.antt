use Rattle.std.proofs.Common.{◌≡◌}
use Rattle.serde_json.specs.View.{members_view}
use Rattle.tests_text.specs.Shapes.{are_named, names}
use Rattle.tests_text.proofs.shape.are_named.Given as goal

abbrev pub invariant-loop-name : goal.invariant-loop-name
invariant-loop-name l = are_named (names l.kind) (members_view l.name-iterator) ≡ are_named (names l.kind) (members_view l.members.entries)
