use Rattle.std.proofs.Common.{◌≡◌, ◌∙◌, ap, ap₂, map, rules}
use Rattle.std.specs.Prelude.{string_bytes, codes}
use Rattle.std.proofs.lemmas.Result.{IfErr-weaker, IfOk-weaker}
use Rattle.clap.specs.Words.{App, app_of, is_simple, matches_of, new_app, new_rule, rule_of, takes, with_rule}
use Rattle.command_line.specs.Parser.{run_parser, steps_rule}
use Rattle.command_line.proofs.Parsers.{run-gives, run-passes, run-simple}
use Rattle.command_line.proofs.parser.run_matches.Goals as goal

pub returns : goal.returns
returns c =
    let steps_is : rule_of c.default_value-steps.result ≡ steps_rule = search rules in
    let optioned : app_of c.in_ok-optioned.optioned ≡ with_rule (new_app (codes "run")) steps_rule =
    c.in_ok-optioned.ensures.shape (search rules) ∙ ap₂ with_rule c.new-2.ensures.app steps_is in
    let app : app_of c.in_ok-parser.parser ≡ run_parser =
    c.in_ok-parser.ensures
    ∙ ap (λ (a : App). with_rule (with_rule (with_rule (with_rule a (new_rule (codes "file"))) (new_rule (codes "function"))) (new_rule (codes "admission"))) (new_rule (codes "tests"))) optioned in
    let words = map string_bytes c.args.words.now in
    let parse = c.try_get_matches_from in
    record {
      ok = λ d is. IfOk-weaker parse.result _ _ (λ m h. run-gives m words d is ((h (ap is_simple app ∙ run-simple)).0 ∙ ap (λ (a : App). matches_of a words) app)) parse.ensures.matches;
      err = λ d is. IfErr-weaker parse.result _ _ (λ e h. h (ap (λ (a : App). takes a words) app ∙ run-passes words d is)) parse.ensures.passes;
    }
