use Rattle.std.proofs.Common.{[], Bor, List, ℕ, map, arith}
use Rattle.std.specs.Prelude.{string_bytes}
use Rattle.command_line.proofs.Pushing.{push-first, push-last, pushed-text}
use Rattle.command_line.proofs.parser.push_plain.Goals as goal

pub loop-rest-preserved : goal.loop-rest-preserved
loop-rest-preserved c =
    let h = c.loop-rest in
    let none : Bor (List ℕ) = record { ref_ptr = (0, 0); now = [] } in
    push-first (λ text. text.now) (map string_bytes c.args.words.now.items) (map string_bytes h.words.items) (map string_bytes c.push.new.self.items)
    c.args.plain.now h.rest.now none (omega arith) h.invariant
    (pushed-text h.words.items c.push.new.self.items c.in_ok-from_str.field-0 _ c.in_ok-push.ensures.items c.in_ok-from_str.ensures.ok)

pub returns : goal.returns
returns c =
    let h = c.loop-rest in
    push-last (λ text. text.now) (map string_bytes c.args.words.now.items) (map string_bytes h.words.items) c.args.plain.now h.rest.now (omega arith) h.invariant
