-- The theorem of the program, in the words of the field: what the printed sections tell of a
-- language.
use Rattle.std.specs.Prelude.{◌≢◌, ℕ, List, [], ◌∷◌, Option, ⊤}
use Rattle.std.specs.Io.KnownBytes.{Appends}
use Rattle.syn_outside.specs.NamedFiles.{NamedFiles}
use Rattle.automaton_file.specs.FileText.{SourceText, IsSource, language_of}
use Rattle.command_line.specs.declared.commands.Command.{Command}
use Rattle.command_line.specs.declared.request.Request.{Request}
use Rattle.command_line.specs.Line.{IsLine}
use Rattle.report_sections.specs.Limits.{Limits, limits_of}
use Rattle.report_sections.specs.Sections.{Said, TellsTruth, telling_of, sections_of, joined}
use Rattle.report_outcome.specs.Reports.{IsStop, task_of}
use Rattle.report_outcome.specs.Inputs.{input_of, IsKnown}
use Rattle.report_outcome.specs.declared.ending.Stop.{Stop}

-- Each of these sections tells the truth of a language L over the letters with these signs, and
-- nothing is said besides: the text is that of an answer with the meaning that the table of sections
-- gives it, in the words of the field (`row_of`, and `TrueAnswers`).
abbrev pub TellTruth : List Command → Limits → List ℕ → (List ℕ → Type 0) → List Said → Type 0
TellTruth [] limits signs L [] = ⊤
TellTruth [] limits signs L (one ∷ more) = ⊥
TellTruth (first ∷ rest) limits signs L [] = ⊥
TellTruth (first ∷ rest) limits signs L (one ∷ more) =
    TellsTruth (telling_of first limits signs L) one.text × TellTruth rest limits signs L more

-- The headline. Where the words are a line, the bytes that it is about are told and spell a source,
-- nothing stops the work on it, and the run ends with none of the statuses 3, 6 and 7, then the
-- output gains the sections of the command, one after another, and each tells the truth.
abbrev pub Headline : Option NamedFiles → List (List ℕ) → ℕ → (old new : Option (List ℕ)) → Type 0
Headline held words status old new =
    (request : Request) (bytes : List ℕ) (source : SourceText) → IsLine words request
    → IsKnown held (input_of request) bytes → IsSource bytes source
    → ((stop : Stop) → ¬ IsStop (task_of request) source stop)
    → status ≢ 3 → status ≢ 6 → status ≢ 7
    → (said : List Said)
    × TellTruth (sections_of request.command) (limits_of request) source.letters
    (language_of source) said
    × Appends old new (joined said).text
