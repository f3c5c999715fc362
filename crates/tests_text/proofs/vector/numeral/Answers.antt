use Rattle.std.proofs.Common.{ℕ, Bor, List, [], get_or, sym, ap, ◌∙◌, arith}
use Rattle.std.proofs.lemmas.List.{get_or-map}
use Rattle.tests_text.proofs.vector.numeral.Goals as goal

pub returns : goal.returns
returns c =
    sym (get_or-map (λ (name : Bor (List ℕ)). name.now) c.numerals.result.now c.args.n _ [] (omega arith))
    ∙ ap (λ (table : List (List ℕ)). get_or table c.args.n []) c.numerals.ensures.all
