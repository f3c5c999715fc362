use Rattle.command_line.specs.View.{line_view}
use Rattle.std.proofs.Common.{map, string_bytes}
use Rattle.command_line.specs.declared.command.CommandForm.TheVariants as form
use Rattle.command_line.proofs.Steps.{made-words, read-values}
use Rattle.command_line.proofs.read.values_of.Goals as goal

pub decide_of-requires : goal.decide_of-requires
decide_of-requires c = (
  c.requires.0,
  made-words c.args.form form.DecidePlain (line_view c.args.line.now) c.as_slice.result.now c.in_ok-words-in-DecidePlain.words.items c.requires.0
      c.in-DecidePlain.is c.requires.1 c.as_slice.ensures.value c.in_ok-words-in-DecidePlain.ensures,
)

pub run_of-requires : goal.run_of-requires
run_of-requires c = (
  c.requires.0,
  made-words c.args.form form.Run (line_view c.args.line.now) c.as_slice-in-Run.result.now c.in_ok-words-in-Run.words.items c.requires.0
      c.in-Run.is c.requires.1 c.as_slice-in-Run.ensures.value c.in_ok-words-in-Run.ensures,
)

pub show_of-requires : goal.show_of-requires
show_of-requires c = (
  c.requires.0,
  made-words c.args.form form.Show (line_view c.args.line.now) c.as_slice-in-Show.result.now c.in_ok-words-in-Show.words.items c.requires.0
      c.in-Show.is c.requires.1 c.as_slice-in-Show.ensures.value c.in_ok-words-in-Show.ensures,
)

pub returns-in_ok-words-in-DecidePlain : goal.returns-in_ok-words-in-DecidePlain
returns-in_ok-words-in-DecidePlain c =
    read-values c.args.form form.DecidePlain (line_view c.args.line.now) (map string_bytes c.as_slice.result.now) c.decide_of.result c.requires.0 c.requires.1
    (made-words c.args.form form.DecidePlain (line_view c.args.line.now) c.as_slice.result.now c.in_ok-words-in-DecidePlain.words.items c.requires.0
    c.in-DecidePlain.is c.requires.1 c.as_slice.ensures.value c.in_ok-words-in-DecidePlain.ensures) c.decide_of.ensures

pub returns-in_ok-words-in-Run : goal.returns-in_ok-words-in-Run
returns-in_ok-words-in-Run c =
    read-values c.args.form form.Run (line_view c.args.line.now) (map string_bytes c.as_slice-in-Run.result.now) c.run_of.result c.requires.0 c.requires.1
    (made-words c.args.form form.Run (line_view c.args.line.now) c.as_slice-in-Run.result.now c.in_ok-words-in-Run.words.items c.requires.0
    c.in-Run.is c.requires.1 c.as_slice-in-Run.ensures.value c.in_ok-words-in-Run.ensures) c.run_of.ensures

pub returns-in_ok-words-in-Show : goal.returns-in_ok-words-in-Show
returns-in_ok-words-in-Show c =
    read-values c.args.form form.Show (line_view c.args.line.now) (map string_bytes c.as_slice-in-Show.result.now) c.show_of.result c.requires.0 c.requires.1
    (made-words c.args.form form.Show (line_view c.args.line.now) c.as_slice-in-Show.result.now c.in_ok-words-in-Show.words.items c.requires.0
    c.in-Show.is c.requires.1 c.as_slice-in-Show.ensures.value c.in_ok-words-in-Show.ensures) c.show_of.ensures
