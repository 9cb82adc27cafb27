-- The words of a line, as `clap` defines how a simple command reads them.
use Rattle.std.specs.Prelude.{ℕ, true, List, [], ◌∷◌, codes, Some}
use Rattle.clap.specs.Words.{App, Row, Rule, new_app, new_rule, with_rule, fault_of, matches_of}
use Rattle.clap.specs.Kinds.{Kinds}
use Rattle.clap.specs.declared.builder.action.ArgAction.TheVariants.{Set}
use Rattle.command_line.specs.Tables.{option_words}

-- an option that takes one value, by its long name alone
abbrev pub valued : List ℕ → Rule
valued word = record (new_rule word) { long = Some word; action = Some Set }

-- a word that must be given, by its place
abbrev pub wanted : List ℕ → Rule
wanted name = record (new_rule name) { required = true; action = Some Set }

abbrev pub with_options : List (List ℕ) → App → App
with_options [] app = app
with_options (word ∷ more) app = with_options more (with_rule app (valued word))

-- the command of which the words hold no name of a program: two words that must be given
abbrev pub two_words : App
two_words =
    let app = new_app (codes "synmon") in
    let nameless : App = record app { top = record app.top { no_binary_name = true } } in
    with_rule (with_rule nameless (wanted (codes "command"))) (wanted (codes "operand"))

-- the simple command of a line: a command word, an operand, and the options
unfoldable pub line_app : App
line_app = with_options option_words two_words

-- the kinds of fault that `clap` may find in the words; none where it takes them
unfoldable pub faults_of : List (List ℕ) → Kinds
faults_of words = fault_of line_app words

-- what `clap` reads of the words that it takes
unfoldable pub rows_of_line : List (List ℕ) → List Row
rows_of_line words = matches_of line_app words
