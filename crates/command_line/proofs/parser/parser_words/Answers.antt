use Rattle.std.proofs.Common.{map, rules, string_bytes}
use Rattle.command_line.proofs.Pushing.{all-pushed, pushed-text}
use Rattle.command_line.proofs.parser.parser_words.Goals as goal

pub returns : goal.returns
returns c =
    all-pushed c.args.name.now c.args.line.now (map string_bytes c.push.new.self.items) (map string_bytes c.push_options.new.words.items)
    (map string_bytes c.push-2.new.self.items) (map string_bytes c.push_plain.new.words.items) c.as_slice.result.now c.as_slice-2.result.now
    (search (rules, pushed-text)) c.as_slice.ensures.value c.in_ok-push_options.ensures (search (rules, pushed-text)) c.as_slice-2.ensures.value c.in_ok-push_plain.ensures
