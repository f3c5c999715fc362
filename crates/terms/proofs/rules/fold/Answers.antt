use Rattle.std.proofs.Common.{◌∙◌, ap}
use Rattle.std.specs.Prelude.{slice_index}
use Rattle.node_values.specs.Nodes.{arguments}
use Rattle.terms.specs.Rules.{number_at}
use Rattle.terms.proofs.WidthFacts.{list_words, number_word}
use Rattle.terms.proofs.rules.fold.Goals as goal

pub width-requires-clause-widths : goal.width-requires-clause-widths
width-requires-clause-widths c = list_words c.args.nodes.now c.args.widths.now c.requires.list

pub operate-requires-clause-widths : goal.operate-requires-clause-widths
operate-requires-clause-widths c = list_words c.args.nodes.now c.args.widths.now c.requires.list

pub operate-requires-clause-first : goal.operate-requires-clause-first
operate-requires-clause-first c =
    rw (c.number_or_zero-x.ensures ∙ ap (number_at c.args.nodes.now) c.arguments.ensures.first)
    (number_word c.args.nodes.now c.args.widths.now c.requires.list (slice_index (arguments c.args.node) 0))

pub operate-requires-clause-second : goal.operate-requires-clause-second
operate-requires-clause-second c =
    rw (c.number_or_zero-y.ensures ∙ ap (number_at c.args.nodes.now) c.arguments.ensures.second)
    (number_word c.args.nodes.now c.args.widths.now c.requires.list (slice_index (arguments c.args.node) 1))

pub operate-requires-clause-third : goal.operate-requires-clause-third
operate-requires-clause-third c =
    rw (c.number_or_zero-z.ensures ∙ ap (number_at c.args.nodes.now) c.arguments.ensures.third)
    (number_word c.args.nodes.now c.args.widths.now c.requires.list (slice_index (arguments c.args.node) 2))
