-- What a command needs to have been computed.
use Rattle.std.specs.Prelude.{IsTrue}
use Rattle.std.specs.List.{list_any}
use Rattle.command_line.specs.declared.commands.Command.{Command}
use Rattle.report_sections.specs.Sections.{sections_of, row_of}
use Rattle.report_sections.specs.declared.sections.Needs.{Needs}

-- what a section needs
abbrev pub needs_of : Command → Needs
needs_of section = (row_of section).needs

-- a command needs what one of its sections needs
abbrev pub NeedsElements : Command → Type 0
NeedsElements command = IsTrue (list_any (λ s. (needs_of s).elements) (sections_of command))

abbrev pub NeedsGreen : Command → Type 0
NeedsGreen command = IsTrue (list_any (λ s. (needs_of s).green) (sections_of command))

abbrev pub NeedsTable : Command → Type 0
NeedsTable command = IsTrue (list_any (λ s. (needs_of s).table) (sections_of command))
