-- The table of the options that take a number, and the table of commands.
use Rattle.std.specs.Prelude.{◌<◌, ◌≤◌, ℕ, List, [], ◌∷◌, codes, length, map, slice_index, slice_index_or}
use Rattle.command_line.specs.declared.commands.Command.{Command}
use Rattle.command_line.specs.declared.commands.Command.TheVariants as command

-- an option that takes a number: its word behind the two dashes, its smallest number, its number
-- where it is not given, and its largest
pub record NumberOption : Type 0 where
  pub word : List ℕ
  pub least : ℕ
  pub usual : ℕ
  pub most : ℕ

abbrev pub row : List ℕ → ℕ → ℕ → ℕ → NumberOption
row word least usual most = record { word = word; least = least; usual = usual; most = most }

-- the options that take a number, in their order
abbrev pub number_options : List NumberOption
number_options =
    row (codes "subsets") 1 2000 4096
    ∷ row (codes "elements") 1 10000 50000
    ∷ row (codes "table") 1 2000 8000
    ∷ row (codes "nodes") 1 200000 1000000
    ∷ row (codes "level") 1 6 12
    ∷ row (codes "pairs") 1 20000 100000
    ∷ row (codes "workers") 1 1 64
    ∷ []

-- the option at a place of such a table
abbrev pub option_of : List NumberOption → ℕ → NumberOption
option_of options place = slice_index_or options place (row [] 0 0 0)

-- the option at a place of the table
abbrev pub option_at : ℕ → NumberOption
option_at = option_of number_options

-- The words of all options. Options with another kind of value are another table, whose words join
-- these.
abbrev pub option_words : List (List ℕ)
option_words = map (λ option. option.word) number_options

-- a number is in an option's range
pub record IsWithin (option : NumberOption) (n : ℕ) : Type 0 where
  pub least : option.least ≤ n
  pub most : n ≤ option.most

-- each number is in the range of the option at its place
abbrev pub AreWithin : List NumberOption → List ℕ → Type 0
AreWithin options numbers = (place : ℕ) → place < length options
    → IsWithin (option_of options place) (slice_index numbers place)

-- the word of each command
abbrev pub command_word : Command → List ℕ
command_word command.Automaton = codes "automaton"
command_word command.Monoid = codes "monoid"
command_word command.Green = codes "green"
command_word command.StarFree = codes "starfree"
command_word command.Piecewise = codes "piecewise"
command_word command.Local = codes "local"
command_word command.RTrivial = codes "rtrivial"
command_word command.Commutative = codes "commutative"
command_word command.Bound = codes "bound"
command_word command.Table = codes "table"
command_word command.Report = codes "report"
command_word command.Generate = codes "generate"

-- the least size of a generated file
abbrev pub least_size : ℕ
least_size = 2

-- the greatest size of a generated file
abbrev pub most_size : ℕ
most_size = 1000
