use Rattle.std.proofs.Common.{◌≡◌, drop}
use Rattle.clap.specs.Words.{app_of}
use Rattle.command_line.specs.Tables.{option_words}
use Rattle.command_line.specs.Parsing.{with_options, line_app}
use Rattle.command_line.proofs.parsing.line_command.Given as goal

-- the command and the options that are still to come make the command of a line
abbrev pub invariant-loop-place : goal.invariant-loop-place
invariant-loop-place l = with_options (drop l.place option_words) (app_of l.command) ≡ line_app
