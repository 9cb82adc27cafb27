-- What the words after the program's name ask for.
use Rattle.std.specs.Prelude.{◌≡◌, ◌≢◌, ◌<◌, ◌≤◌, ℕ, List, [], ◌∷◌, Some, codes, length, slice_index, unwrap_or, ⊤}
use Rattle.std.specs.Fmt.{decimal}
use Rattle.clap.specs.Words.{Row, first_of}
use Rattle.command_line.specs.declared.commands.Command.{Command}
use Rattle.command_line.specs.declared.commands.Command.TheVariants as command
use Rattle.command_line.specs.declared.fault.LineFault.{LineFault}
use Rattle.command_line.specs.declared.fault.LineFault.TheVariants as fault
use Rattle.command_line.specs.declared.request.Request.{Request}
use Rattle.command_line.specs.Tables.{NumberOption, number_options, option_at, IsWithin, AreWithin, command_word, least_size, most_size}
use Rattle.command_line.specs.Parsing.{faults_of, rows_of_line}

-- `clap` takes the words, and they give this command word and this operand
pub record IsTaken (words : List (List ℕ)) (command operand : List ℕ) : Type 0 where
  pub faultless : faults_of words ≡ []
  pub first : first_of (codes "command") (rows_of_line words) ≡ Some command
  pub second : first_of (codes "operand") (rows_of_line words) ≡ Some operand

-- the value of an option where it is given, and else its usual number in decimal digits
abbrev pub value_in : List Row → NumberOption → List ℕ
value_in given option = unwrap_or (first_of option.word given) (decimal option.usual)

-- an option has this number: in decimal digits, of which the first is not 0 unless it is the only
-- one, and in the option's range
pub record IsNumberIn (given : List Row) (option : NumberOption) (n : ℕ) : Type 0 where
  pub spelled : value_in given option ≡ decimal n
  pub within : IsWithin option n

-- the numbers of a request, in the order of the table of options
abbrev pub numbers_of : Request → List ℕ
numbers_of r = r.subsets ∷ r.elements ∷ r.table ∷ r.nodes ∷ r.level ∷ r.pairs ∷ r.workers ∷ []

-- these are the numbers of all options, in the order of their table
abbrev pub AreNumbersIn : List Row → List ℕ → Type 0
AreNumbersIn given numbers = (place : ℕ) → place < length number_options
    → IsNumberIn given (option_at place) (slice_index numbers place)

-- a text is the decimal digits of a size that a generated file may have
pub record IsSize (text : List ℕ) (n : ℕ) : Type 0 where
  pub spelled : text ≡ decimal n
  pub least : least_size ≤ n
  pub most : n ≤ most_size

-- the size of a request: for `generate` that of its operand, and 0 for each other command
abbrev pub IsSizeFor : Command → List ℕ → ℕ → Type 0
IsSizeFor command.Generate operand n = IsSize operand n
IsSizeFor other operand n = n ≡ 0

-- the words are a line, and ask for this
pub record IsLine (words : List (List ℕ)) (request : Request) : Type 0 where
  pub taken : IsTaken words (command_word request.command) request.operand
  pub numbers : AreNumbersIn (rows_of_line words) (numbers_of request)
  pub size : IsSizeFor request.command request.operand request.size

-- the words are a line
abbrev pub IsAccepted : List (List ℕ) → Type 0
IsAccepted words = (request : Request) × IsLine words request

-- the words are taken, and their command word is the word of no command
pub record IsNoCommand (words : List (List ℕ)) : Type 0 where
  pub word : List ℕ
  pub operand : List ℕ
  pub taken : IsTaken words word operand
  pub unknown : (command : Command) → ¬ (word ≡ command_word command)

-- the option at this place has no number in its range, and each one before it has one
pub record IsFirstBad (given : List Row) (place : ℕ) : Type 0 where
  pub within : place < length number_options
  pub before : (i : ℕ) → i < place → (n : ℕ) × IsNumberIn given (option_at i) n
  pub bad : (n : ℕ) → ¬ IsNumberIn given (option_at place) n

-- the words are taken and name a command, and the option at this place is the first without a
-- number in its range
pub record IsBadNumber (words : List (List ℕ)) (place : ℕ) : Type 0 where
  pub command : Command
  pub operand : List ℕ
  pub taken : IsTaken words (command_word command) operand
  pub first : IsFirstBad (rows_of_line words) place

-- the words are taken, name the command `generate`, and each option has a number in its range, but
-- the operand is no size
pub record IsBadSize (words : List (List ℕ)) : Type 0 where
  pub operand : List ℕ
  pub taken : IsTaken words (command_word command.Generate) operand
  pub numbers : (place : ℕ) → place < length number_options
      → (n : ℕ) × IsNumberIn (rows_of_line words) (option_at place) n
  pub bad : (n : ℕ) → ¬ IsSize operand n

-- The table of faults: what holds of the words where `read_line` answers with each. The fault
-- `Words` is exactly that `clap` finds one. Want of memory may come at any time.
abbrev pub IsFaultOf : List (List ℕ) → LineFault → Type 0
IsFaultOf words fault.Words = faults_of words ≢ []
IsFaultOf words fault.Command = IsNoCommand words
IsFaultOf words (fault.Number place) = IsBadNumber words place
IsFaultOf words fault.Size = IsBadSize words
IsFaultOf words fault.Memory = ⊤

-- the numbers of a request are in the ranges of their options, and its size for `generate` is one of
-- a generated file
pub record IsInRange (r : Request) : Type 0 where
  pub numbers : AreWithin number_options (numbers_of r)
  pub size : r.command ≡ command.Generate → (least_size ≤ r.size) × (r.size ≤ most_size)
