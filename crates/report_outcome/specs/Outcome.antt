-- How a run may end, and what it then wrote.
use Rattle.std.specs.Prelude.{◌≡◌, ◌⊎◌, ℕ, cond, List, [], ◌++◌, codes, Option, ⊤}
use Rattle.std.specs.Fmt.{decimal}
use Rattle.std.specs.Io.KnownBytes.{Appends}
use Rattle.language_theory.specs.Words.{IsPrefix}
use Rattle.syn_outside.specs.Counts.{Rose}
use Rattle.syn_outside.specs.NamedFiles.{NamedFiles}
use Rattle.command_line.specs.declared.fault.LineFault.{LineFault}
use Rattle.command_line.specs.declared.fault.LineFault.TheVariants as line
use Rattle.command_line.specs.declared.request.Request.{Request}
use Rattle.command_line.specs.Line.{IsLine, IsAccepted}
use Rattle.report_sections.specs.Sections.{Said}
use Rattle.report_outcome.specs.Inputs.{input_of, IsGiven, AsksForFile}
use Rattle.report_outcome.specs.Reports.{IsVerdict, BeginsReport, Task, task_of}
use Rattle.report_outcome.specs.declared.ending.Ending.{Ending}
use Rattle.report_outcome.specs.declared.ending.Ending.TheVariants as ending
use Rattle.report_outcome.specs.declared.ending.Stop.{Stop}
use Rattle.report_outcome.specs.declared.ending.Stop.TheVariants as stop
use Rattle.report_outcome.specs.declared.ending.Verdict.{Verdict}
use Rattle.report_outcome.specs.declared.ending.Verdict.TheVariants as verdict

-- The table of verdicts: the exit status of each.
abbrev pub status_of_verdict : Verdict → ℕ
status_of_verdict (verdict.Said limited) = cond limited 5 0
status_of_verdict (verdict.Stopped stop) = 5
status_of_verdict (verdict.Refused at code) = 4

-- The table of endings: the exit status of each.
abbrev pub status_of : Ending → ℕ
status_of (ending.Decided verdict) = status_of_verdict verdict
status_of ending.BadLine = 2
status_of ending.CannotRead = 3
status_of ending.CannotWrite = 6
status_of ending.NoMemory = 7

-- the count that passed its limit, and the limit
abbrev pub stop_text : Stop → List ℕ
stop_text (stop.Subsets n) = codes "subsets " ++ decimal n
stop_text (stop.Elements n) = codes "elements " ++ decimal n

-- The table of verdicts: the line of each for `errs`.
abbrev pub line_of_verdict : Verdict → List ℕ
line_of_verdict (verdict.Said limited) = []
line_of_verdict (verdict.Stopped stop) =
    codes "synmon: limit " ++ stop_text stop ++ codes "\n"
line_of_verdict (verdict.Refused at code) =
    codes "synmon: line " ++ decimal at ++ codes " code " ++ decimal code ++ codes "\n"

-- The table of endings: the line of each for `errs`.
abbrev pub line_of : Ending → List ℕ
line_of (ending.Decided verdict) = line_of_verdict verdict
line_of ending.BadLine = codes "synmon: bad command line\n"
line_of ending.CannotRead = codes "synmon: cannot read\n"
line_of ending.CannotWrite = codes "synmon: cannot write\n"
line_of ending.NoMemory = codes "synmon: out of memory\n"

-- the words are a line, and this is the verdict on the bytes that it is about, with its text
pub record IsDue (held : Option NamedFiles) (words : List (List ℕ)) (verdict : Verdict)
    (text : List ℕ) : Type 0 where
  pub request : Request
  pub line : IsLine words request
  pub bytes : List ℕ
  pub given : IsGiven held (input_of request) bytes
  pub holds : IsVerdict bytes (task_of request) verdict text

-- a prefix of the text that is due
abbrev pub BeginsDue : Option NamedFiles → List (List ℕ) → List ℕ → Type 0
BeginsDue held words out =
    (text : Said) × IsDue held words (verdict.Said text.limited) text.text × IsPrefix out text.text

-- The table of endings: what holds of the files, of the words, and of what `out` gained.
abbrev pub Outcome : Option NamedFiles → List (List ℕ) → Ending → List ℕ → Type 0
Outcome held words (ending.Decided verdict) out = IsDue held words verdict out
Outcome held words ending.BadLine out = (¬ IsAccepted words) × (out ≡ [])
Outcome held words ending.CannotRead out = AsksForFile words × (out ≡ [])
Outcome held words ending.CannotWrite out = BeginsDue held words out
Outcome held words ending.NoMemory out = (out ≡ []) ⊎ BeginsDue held words out

-- the verdict is a text
abbrev pub IsText : Verdict → Type 0
IsText (verdict.Said limited) = ⊤
IsText (verdict.Stopped stop) = ⊥
IsText (verdict.Refused at code) = ⊥

-- how a run ends where the words ask for nothing
abbrev pub ending_of_fault : LineFault → Ending
ending_of_fault line.Words = ending.BadLine
ending_of_fault line.Command = ending.BadLine
ending_of_fault (line.Number place) = ending.BadLine
ending_of_fault line.Size = ending.BadLine
ending_of_fault line.Memory = ending.NoMemory

-- the endings that the words and the bytes decide: those that no device and no want of memory
-- brings about
abbrev pub IsDecided : Ending → Type 0
IsDecided (ending.Decided verdict) = ⊤
IsDecided ending.BadLine = ⊤
IsDecided ending.CannotRead = ⊥
IsDecided ending.CannotWrite = ⊥
IsDecided ending.NoMemory = ⊥

-- a sink gained a line, or a prefix of it where its count of faults rose
pub record IsTold (old new : Option (List ℕ)) (faults_old faults_new : ℕ) (line : List ℕ) : Type 0
  where
    pub told : List ℕ
    pub gained : Appends old new told
    pub whole : (told ≡ line) ⊎ (IsPrefix told line × Rose faults_old faults_new)

-- a run ended so, and `out` gained what the table says
pub record Ends (held : Option NamedFiles) (words : List (List ℕ)) (end : Ending)
    (old new : Option (List ℕ)) : Type 0 where
  pub out : List ℕ
  pub outcome : Outcome held words end out
  pub gained : Appends old new out

-- The outcome of a run: how it ended, with which status, and what `errs` was told of it.
pub record Runs (held : Option NamedFiles) (words : List (List ℕ)) (status : ℕ)
    (old new errs_old errs_new : Option (List ℕ)) (faults_old faults_new : ℕ) : Type 0 where
  pub end : Ending
  pub ends : Ends held words end old new
  pub answer : status ≡ status_of end
  pub told : IsTold errs_old errs_new faults_old faults_new (line_of end)

-- a sink gained a prefix of a text
pub record IsGivenPrefix (old new : Option (List ℕ)) (text : List ℕ) : Type 0 where
  pub prefix : List ℕ
  pub gained : Appends old new prefix
  pub begins : IsPrefix prefix text

-- The table of endings for work on bytes that were read.
abbrev pub OutcomeOn : List ℕ → Task → Ending → List ℕ → Type 0
OutcomeOn bytes task (ending.Decided verdict) out = IsVerdict bytes task verdict out
OutcomeOn bytes task ending.BadLine out = ⊥
OutcomeOn bytes task ending.CannotRead out = ⊥
OutcomeOn bytes task ending.CannotWrite out = BeginsReport bytes task out
OutcomeOn bytes task ending.NoMemory out = (out ≡ []) ⊎ BeginsReport bytes task out

-- the work for a request on the bytes that were read ended so, and `out` gained what the table says
pub record EndsOn (bytes : List ℕ) (request : Request) (end : Ending)
    (old new : Option (List ℕ)) : Type 0 where
  pub out : List ℕ
  pub ended : OutcomeOn bytes (task_of request) end out
  pub gained : Appends old new out
