-- When a run answers with each status.
use Rattle.std.specs.Prelude.{◌≡◌, ◌⊎◌, ℕ, List, Option}
use Rattle.std.specs.Io.KnownBytes.{Appends}
use Rattle.syn_outside.specs.NamedFiles.{NamedFiles}
use Rattle.command_line.specs.declared.commands.Command.TheVariants as command
use Rattle.command_line.specs.declared.request.Request.{Request}
use Rattle.command_line.specs.Line.{IsLine}
use Rattle.report_outcome.specs.declared.ending.Verdict.{Verdict}
use Rattle.report_outcome.specs.Inputs.{input_of, AreTold, IsMissing}
use Rattle.report_outcome.specs.Outcome.{status_of_verdict}

-- the words are a line, and the bytes that it is about are told
pub record AreKnown (held : Option NamedFiles) (words : List (List ℕ)) : Type 0 where
  pub request : Request
  pub line : IsLine words request
  pub told : AreTold held (input_of request)

-- the words are a line, and it is told that there is no file of the name that it is about
pub record IsLacking (held : Option NamedFiles) (words : List (List ℕ)) : Type 0 where
  pub request : Request
  pub line : IsLine words request
  pub missing : IsMissing held (input_of request)

-- the words are a line for a generated file
pub record AsksToGenerate (words : List (List ℕ)) : Type 0 where
  pub request : Request
  pub line : IsLine words request
  pub generated : request.command ≡ command.Generate

-- this status, or 7 for want of memory, which may come at any time
abbrev pub IsOrNoMemory : ℕ → ℕ → Type 0
IsOrNoMemory status result = (result ≡ status) ⊎ (result ≡ 7)

-- a verdict is answered: with its status, and its text on `out`, which is nothing where it has none;
-- or with 7, for want of memory
abbrev pub IsAnswered : Verdict → List ℕ → ℕ → (old new : Option (List ℕ)) → Type 0
IsAnswered verdict text status old new =
    ((status ≡ status_of_verdict verdict) × Appends old new text) ⊎ (status ≡ 7)

-- the statuses that a run answers with
abbrev pub IsStatus : ℕ → Type 0
IsStatus status =
    (status ≡ 0) ⊎ (status ≡ 2) ⊎ (status ≡ 3) ⊎ (status ≡ 4) ⊎ (status ≡ 5) ⊎ (status ≡ 6)
    ⊎ (status ≡ 7)
