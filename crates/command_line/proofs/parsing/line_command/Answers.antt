use Rattle.std.proofs.Common.{◌∙◌, ap, List, ℕ}
use Rattle.clap.specs.Words.{app_of, with_rule}
use Rattle.command_line.specs.Tables.{NumberOption, option_words}
use Rattle.command_line.specs.Parsing.{with_options, line_app, valued}
use Rattle.command_line.proofs.OptionRows.{with_options-next, word_at}
use Rattle.command_line.proofs.parsing.line_command.Goals as goal

pub loop-place-init : goal.loop-place-init
unfolding line_app
loop-place-init c = ap (with_options option_words) c.in_ok-command.ensures

pub loop-place-preserved : goal.loop-place-preserved
loop-place-preserved c =
    with_options-next c.loop-place.place option_words (app_of c.loop-place.command)
    (app_of c.in_ok-command-2.command)
    c.loop-place-test.true
    (c.in_ok-command-2.ensures ∙ ap (λ (word : List ℕ). with_rule (app_of c.loop-place.command)
    (valued word)) (ap (λ (option : NumberOption). option.word) c.option_at.ensures.row
    ∙ word_at c.loop-place.place))
    ∙ c.loop-place.invariant
