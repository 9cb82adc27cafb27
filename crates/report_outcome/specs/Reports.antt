-- What a command on a file has as its answer.
use Rattle.std.specs.Prelude.{◌≡◌, ℕ, List, [], length}
use Rattle.language_theory.specs.Words.{IsPrefix}
use Rattle.language_theory.specs.Automaton.{Automaton, SameSubset}
use Rattle.language_theory.specs.Congruence.{Syntactic}
use Rattle.language_theory.specs.Representatives.{HasMoreClasses}
use Rattle.automaton_file.specs.FileText.{SourceText, IsSource, IsRefusal, IsBodyAutomaton, language_of}
use Rattle.command_line.specs.declared.commands.Command.{Command}
use Rattle.command_line.specs.declared.request.Request.{Request}
use Rattle.report_sections.specs.Limits.{Limits, limits_of}
use Rattle.report_sections.specs.Sections.{Said, sections_of, AreSaid}
use Rattle.report_outcome.specs.declared.ending.Stop.{Stop}
use Rattle.report_outcome.specs.declared.ending.Stop.TheVariants as stop
use Rattle.report_outcome.specs.declared.ending.Verdict.{Verdict}
use Rattle.report_outcome.specs.declared.ending.Verdict.TheVariants as verdict
use Rattle.report_sections.specs.CommandNeeds.{NeedsElements}

-- a command, and the limits within which it is to be answered
pub record Task : Type 0 where
  pub command : Command
  pub limits : Limits

abbrev pub task_of : Request → Task
task_of r = record { command = r.command; limits = limits_of r }

-- all words together lead to more than n distinct sets of states of the source's automaton: that of
-- the file, or the position automaton of its expression
abbrev pub HasMoreSubsets : SourceText → ℕ → Type 0
HasMoreSubsets source n =
    (m : Automaton) × IsBodyAutomaton (length source.letters) source.body m
    × HasMoreClasses (length source.letters) (SameSubset m) n

-- the syntactic monoid of the source's language has more than n elements
abbrev pub HasMoreElements : SourceText → ℕ → Type 0
HasMoreElements source n = HasMoreClasses (length source.letters)
    (Syntactic (length source.letters) (language_of source)) n

-- a source is within the limits of a request's counts
pub record IsWithin (request : Request) (source : SourceText) : Type 0 where
  pub subsets : ¬ HasMoreSubsets source request.subsets
  pub elements : NeedsElements request.command → ¬ HasMoreElements source request.elements

-- Before a section is made, two counts are compared with their limits: first the sets of states,
-- and then the elements, if the command needs them.
abbrev pub IsStop : Task → SourceText → Stop → Type 0
IsStop task source (stop.Subsets n) = (n ≡ task.limits.subsets) × HasMoreSubsets source n
IsStop task source (stop.Elements n) =
    NeedsElements task.command × (¬ HasMoreSubsets source task.limits.subsets)
    × (n ≡ task.limits.elements) × HasMoreElements source n

-- the bytes spell a source that nothing stops, and this is what the sections of the command say
-- about its language
pub record IsReportOn (bytes : List ℕ) (task : Task) (text : Said) : Type 0 where
  pub source : SourceText
  pub spelled : IsSource bytes source
  pub unstopped : (stop : Stop) → ¬ IsStop task source stop
  pub report : AreSaid (sections_of task.command) task.limits source.letters (language_of source)
      text

-- the bytes spell a source that is stopped
pub record IsStopOn (bytes : List ℕ) (task : Task) (stop : Stop) : Type 0 where
  pub source : SourceText
  pub spelled : IsSource bytes source
  pub passed : IsStop task source stop

-- The table of verdicts: what holds of the bytes, and the text that is due.
abbrev pub IsVerdict : List ℕ → Task → Verdict → List ℕ → Type 0
IsVerdict bytes task (verdict.Said limited) text =
    IsReportOn bytes task (record { text = text; limited = limited })
IsVerdict bytes task (verdict.Stopped stop) text = IsStopOn bytes task stop × (text ≡ [])
IsVerdict bytes task (verdict.Refused at code) text = IsRefusal bytes at code × (text ≡ [])

-- a prefix of what the sections say
abbrev pub BeginsReport : List ℕ → Task → List ℕ → Type 0
BeginsReport bytes task out = (text : Said) × IsReportOn bytes task text × IsPrefix out text.text
