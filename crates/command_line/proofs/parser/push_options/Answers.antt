use Rattle.std.proofs.Common.{[], map, arith}
use Rattle.std.specs.Prelude.{string_bytes}
use Rattle.command_line.specs.Parser.{joined_option}
use Rattle.command_line.specs.View.{option_view}
use Rattle.command_line.specs.declared.line.Valued.{Valued}
use Rattle.command_line.proofs.Pushing.{push-first, push-last, pushed-text}
use Rattle.command_line.proofs.parser.push_options.Goals as goal

pub loop-rest-preserved : goal.loop-rest-preserved
loop-rest-preserved c =
    let h = c.loop-rest in
    let none : Valued = record { flag = record { ref_ptr = (0, 0); now = [] }; value = record { ref_ptr = (0, 0); now = [] } } in
    push-first (λ o. joined_option (option_view o)) (map string_bytes c.args.words.now.items) (map string_bytes h.words.items) (map string_bytes c.push.new.self.items)
    c.args.options.now h.rest.now none (omega arith) h.invariant
    (pushed-text h.words.items c.push.new.self.items c.in_ok-joined_option.field-0 _ c.in_ok-push.ensures.items c.in_ok-joined_option.ensures)

pub returns : goal.returns
returns c =
    let h = c.loop-rest in
    push-last (λ o. joined_option (option_view o)) (map string_bytes c.args.words.now.items) (map string_bytes h.words.items) c.args.options.now h.rest.now (omega arith) h.invariant
