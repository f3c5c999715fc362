use Rattle.std.proofs.Common.{◌≡◌, ◌∙◌, ap, map}
use Rattle.std.specs.Prelude.{string_bytes, codes}
use Rattle.std.proofs.lemmas.Result.{IfErr-weaker, IfOk-weaker}
use Rattle.clap.specs.Words.{App, app_of, is_simple, matches_of, new_rule, takes, with_rule}
use Rattle.command_line.specs.Parser.{show_parser}
use Rattle.command_line.proofs.Parsers.{show-gives, show-passes, show-simple}
use Rattle.command_line.proofs.parser.show_matches.Goals as goal

pub returns : goal.returns
returns c =
    let app : app_of c.in_ok-parser.parser ≡ show_parser =
    c.in_ok-parser.ensures
    ∙ ap (λ (a : App). with_rule (with_rule a (new_rule (codes "file"))) (new_rule (codes "function"))) c.new-empty.ensures.app in
    let words = map string_bytes c.args.words.now in
    let parse = c.try_get_matches_from in
    record {
      ok = λ d is. IfOk-weaker parse.result _ _ (λ m h. show-gives m words d is ((h (ap is_simple app ∙ show-simple)).0 ∙ ap (λ (a : App). matches_of a words) app)) parse.ensures.matches;
      err = λ d is. IfErr-weaker parse.result _ _ (λ e h. h (ap (λ (a : App). takes a words) app ∙ show-passes words d is)) parse.ensures.passes;
    }
