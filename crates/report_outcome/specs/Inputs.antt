-- What a command is about, and which bytes that has.
use Rattle.std.specs.Prelude.{◌≡◌, ℕ, List, Option, Some, None, ⊤}
use Rattle.syn_outside.specs.NamedFiles.{NamedFiles, bytes_of, Lacks}
use Rattle.generated_file.specs.Generated.{generated_text}
use Rattle.command_line.specs.declared.commands.Command.{Command}
use Rattle.command_line.specs.declared.commands.Command.TheVariants as command
use Rattle.command_line.specs.declared.request.Request.{Request}
use Rattle.command_line.specs.Line.{IsLine}

-- the generated file of a size, or the file of a name
pub data Input : Type 0 where
  generated : ℕ → Input
  named : List ℕ → Input

-- the input of a request: `generate` is about the generated file of its size, and each other command
-- about the file that its operand names
abbrev pub input_for : Command → ℕ → List ℕ → Input
input_for command.Generate size operand = generated size
input_for other size operand = named operand

abbrev pub input_of : Request → Input
input_of request = input_for request.command request.size request.operand

-- The table of inputs: the bytes that one may have. Where a device tells nothing of its files, a name
-- may have any.
abbrev pub IsGiven : Option NamedFiles → Input → List ℕ → Type 0
IsGiven held (generated size) bytes = bytes ≡ generated_text size
IsGiven None (named name) bytes = ⊤
IsGiven (Some files) (named name) bytes = bytes_of name files ≡ Some bytes

-- the bytes of an input are told, if it has any
abbrev pub AreTold : Option NamedFiles → Input → Type 0
AreTold held (generated size) = ⊤
AreTold None (named name) = ⊥
AreTold (Some files) (named name) = ⊤

-- the bytes of an input are told, and are these
abbrev pub IsKnown : Option NamedFiles → Input → List ℕ → Type 0
IsKnown held input bytes = AreTold held input × IsGiven held input bytes

-- it is told that there is no file of the name
abbrev pub IsMissing : Option NamedFiles → Input → Type 0
IsMissing held (generated size) = ⊥
IsMissing held (named name) = Lacks held name

-- it is a file that has to be read
abbrev pub IsFile : Input → Type 0
IsFile (generated size) = ⊥
IsFile (named name) = ⊤

-- the words are a line about a file that has to be read
pub record AsksForFile (words : List (List ℕ)) : Type 0 where
  pub request : Request
  pub line : IsLine words request
  pub file : IsFile (input_of request)
