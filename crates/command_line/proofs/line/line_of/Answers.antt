use Rattle.std.proofs.Common.{◌≡◌, None, Some, arith, rules}
use Rattle.command_line.specs.Command.{IsArgument}
use Rattle.command_line.specs.Reading as reading
use Rattle.command_line.specs.View.{item_view, line_view, mode_view}
use Rattle.command_line.proofs.Loops.{loop-done, loop-open, loop-refused, loop-turn, other-mode}
use Rattle.command_line.proofs.line.line_of.Goals as goal

pub returns-in_default-turn-clause-none : goal.returns-in_default-turn-clause-none
returns-in_default-turn-clause-none c = λ each.
    let refused : reading.turn (mode_view c.loop-rest.mode) c.argument-item.result ≡ None = search rules in
    loop-refused c.args.arguments.now c.loop-rest.rest.now (line_view c.loop-rest.line) (mode_view c.loop-rest.mode) c.loop-rest.invariant
    c.argument-item.result (omega arith) c.argument-item.is refused

pub loop-rest-preserved : goal.loop-rest-preserved
loop-rest-preserved c =
    let argument : IsArgument c.argument-item.result = search rules in
    let turned : reading.turn (mode_view c.loop-rest.mode) c.argument-item.result ≡ Some (item_view c.in-Some-turn.item, mode_view c.in-Some-turn.next) = search rules in
    let pushes : line_view c.push.new.self ≡ reading.pushed (line_view c.loop-rest.line) (item_view c.in-Some-turn.item) = c.in_ok-push.ensures in
    loop-turn c.args.arguments.now c.loop-rest.rest.now (line_view c.loop-rest.line) (mode_view c.loop-rest.mode) c.loop-rest.invariant
    c.argument-item.result (omega arith) c.argument-item.is (item_view c.in-Some-turn.item) (mode_view c.in-Some-turn.next)
    (line_view c.push.new.self) argument turned pushes

pub returns-in-ValueOf-clause-none : goal.returns-in-ValueOf-clause-none
returns-in-ValueOf-clause-none c = λ each.
    loop-open c.args.arguments.now c.loop-rest.rest.now (line_view c.loop-rest.line) (mode_view c.loop-rest.mode) c.loop-rest.invariant
    c.in-ValueOf.field-0.now (omega arith) (search rules)

pub returns : goal.returns
returns c = record {
  some = loop-done c.args.arguments.now c.loop-rest.rest.now (line_view c.loop-rest.line) (mode_view c.loop-rest.mode) c.loop-rest.invariant
      (omega arith) (other-mode c.loop-rest.mode c.in_default-mode.not-ValueOf);
  none = tt;
}
